-- The refusals: what they leave.
use Prim.Native.Nat.{ℕ, ◌<◌}
use mathlib.Core.Bool.{Bool, true, false, not}
use mathlib.Core.Path.{◌≡◌, refl, sym, ◌∙◌}
use mathlib.Core.List.{List}
use Rattle.std.specs.List.{list_any, range_with_len}
use native.Mathlib.Omega.{arith}
use lib.Dec.{eqb, leb}
use Rattle.octets.specs.Bytes.{pick, ◌and◌}
use Rattle.octets.specs.Numbers.{bound}
use Rattle.octets.proofs.Tests.{pick-zero}
use Rattle.octets.proofs.Ranges.{any-ranged}
use Rattle.rules.specs.Status.{busy, annihilated}
use Rattle.rules.specs.Step.{fall}
use Rattle.rules.specs.Refusals.{named, any_named}
use Rattle.rules.specs.Internal.Guards.{first, local_refusal, named_refusal}
use Rattle.rules.proofs.ByKind.Guards as guards
use Rattle.rules.proofs.ByKind.Guards.{first_taken, first-left, local-first}
use Rattle.engine_tables.specs.declared.table.Row.{Row}
use Rattle.engine_tables.specs.declared.table.Slot.{Slot}
use Rattle.engine_tables.specs.declared.register.Register.{Register}
use Rattle.engine_tables.specs.Internal.Register.{row_at, Fits, Room}
use Rattle.engine_tables.specs.Internal.Guards.{last_row, local_guard, receipt_guard, any_unstable, named_guard, group_guard}

-- ---- kinds 5 to 10

module _ (k : ℕ) (x : Row) where
  -- 28
  abbrev last : ℕ
  last = pick (leb fall k and not x.stable and last_row x) 28 0

  local-is : local_guard k x ≡ first (local_refusal k x.status) last
  unfolding local_guard
  local-is = refl

  -- no refusal
  pub local-rolls : local_guard k x ≡ 0 → leb fall k and not x.stable and last_row x ≡ false
  local-rolls z =
      let a = pick-zero (eqb x.status annihilated) 22 _ (omega arith) (sym (local-first k x.status last) ∙ sym local-is ∙ z) in
      let b = pick-zero (leb k fall and not (eqb x.status busy)) 23 _ (omega arith) a.1 in
      (pick-zero (leb fall k and not x.stable and last_row x) 28 0 (omega arith) b.1).0

-- ---- a receipt

module _ (m : Slot) (x : Row) where
  -- no refusal
  pub receipt-waits : receipt_guard m x ≡ 0 → m.missing ≡ false
  unfolding receipt_guard
  receipt-waits z = (pick-zero m.missing 24 _ (omega arith) z).0

-- ---- a signing

module _ (rows : List Row) (g : ℕ) where
  -- a named take is not frozen; it is vanished; it has as many signings as the session allows
  abbrev pub not-stable : ℕ → Bool
  not-stable t = named g t and not (row_at rows t).stable

  abbrev pub is-gone : ℕ → Bool
  is-gone t = named g t and eqb (row_at rows t).status annihilated

  abbrev pub has-all : ℕ → ℕ → Bool
  has-all most t = named g t and leb most (row_at rows t).checkpoints

  pub unstable-ranged : list_any not-stable (range_with_len 0 16) ≡ any_unstable (row_at rows) g
  unfolding any_unstable any_named
  unstable-ranged = any-ranged not-stable 16

  module _ (most : ℕ) where
    named-ranged : pick (list_any is-gone (range_with_len 0 16)) 22 (pick (list_any (has-all most) (range_with_len 0 16)) 30 0) ≡ named_guard most (row_at rows) g
    unfolding named_refusal any_named
    named-ranged = λ i. pick (any-ranged is-gone 16 i) 22 (pick (any-ranged (has-all most) 16 i) 30 0)

    module _ (c : Bool) (gone : c ≡ list_any is-gone (range_with_len 0 16)) where
      pub gone-ranged : c ≡ true → 22 ≡ named_guard most (row_at rows) g
      gone-ranged e = rw (← named-ranged, ← gone, e)

      module _ (none : c ≡ false) (d : Bool) (full : d ≡ list_any (has-all most) (range_with_len 0 16)) where
        pub full-ranged : d ≡ true → 30 ≡ named_guard most (row_at rows) g
        full-ranged e = rw (← named-ranged, ← gone, none, ← full, e)

        pub free-ranged : d ≡ false → 0 ≡ named_guard most (row_at rows) g
        free-ranged e = rw (← named-ranged, ← gone, none, ← full, e)

-- no refusal: every named take can be signed once more
pub group-room : (x : Register) (rows : List Row) (g : ℕ) → g < bound 2 → x.checkpoints < 256 → group_guard x (row_at rows) g ≡ 0 → Room g rows
unfolding Fits
group-room x rows g bits most z = record {
  fits = λ t n.
      let k = guards.group-room x.opened x.checkpoints (λ t. (row_at rows t).status) (λ t. (row_at rows t).checkpoints) g bits z t n in
      omega arith;
}
