-- The loop that signs a volume: after t turns the named takes below t are signed.
use Prim.Native.Nat.{ℕ, ◌+◌, ◌≤◌, ◌<◌}
use mathlib.Core.Bool.{Bool, true, false}
use mathlib.Core.Path.{◌≡◌, refl, ap, sym, ◌∙◌, subst}
use mathlib.Core.List.{List}
use mathlib.Core.Logic.{⊎_elim}
use native.Mathlib.Omega.{arith}
use lib.Dec.{eqb, ltb}
use lib.ListN.{length, set, length-set}
use lib.Seq.{get_or-set_same, get_or-set_other}
use borrow.Author.Tests.{lt-ltb, le-ltb, eqb-true, eqb-false}
use Rattle.octets.specs.Bytes.{◌and◌}
use Rattle.octets.specs.Numbers.{bound}
use Rattle.octets.proofs.Chunks.{sides}
use Rattle.rules.specs.Status.{unused}
use Rattle.rules.specs.Refusals.{group_bits, named}
use Rattle.rules.proofs.Bits.{named_past}
use Rattle.engine_tables.specs.declared.table.Row.{Row}
use Rattle.engine_tables.specs.Internal.Tables.{empty_row}
use Rattle.engine_tables.specs.Internal.Register.{row_at, checkpointed_row, CheckpointedRows, Fits, Room}

pub record Checkpointing (g : ℕ) (before : List Row) (t : ℕ) (rows : List Row) : Type 0 where
  pub within : t ≤ group_bits
  pub long : length rows ≡ group_bits
  pub at : (u : ℕ) → row_at rows u ≡ checkpointed_row (ltb u t and named g u) (row_at before u)

checkpointed-off : (x : Row) → x ≡ checkpointed_row false x
unfolding checkpointed_row
checkpointed-off x = refl

pub checkpointing-none : (g : ℕ) (rows : List Row) → length rows ≡ group_bits → Checkpointing g rows 0 rows
checkpointing-none g rows l = record { within = omega arith; long = l; at = λ u. checkpointed-off (row_at rows u) ∙ ap (λ c. checkpointed_row (c and named g u) (row_at rows u)) (sym (le-ltb u 0 (omega arith))) }

module _ {g : ℕ} {before rows : List Row} {t : ℕ} (c : Checkpointing g before t rows) where
  pub checkpointing-all : g < bound 2 → group_bits ≤ t → CheckpointedRows g before rows
  unfolding bound
  checkpointing-all bits h = record {
    long = c.long;
    at = λ u. c.at u ∙ ap (λ b. checkpointed_row b (row_at before u)) (⊎_elim
        (λ (k : u < group_bits). rw (lt-ltb u t (omega arith)))
        (λ (k : group_bits ≤ u). let w = c.within in rw (le-ltb u t (omega arith)) (sym (named_past g u group_bits bits k)))
        (sides u group_bits));
  }

  module _ (below : t < group_bits) where
    -- a take that has not had its turn is what it was
    pub checkpointing-was : row_at rows t ≡ row_at before t
    checkpointing-was = c.at t ∙ ap (λ b. checkpointed_row (b and named g t) (row_at before t)) (le-ltb t t (omega arith)) ∙ sym (checkpointed-off (row_at before t))

    pub checkpointing-fits : Room g before → Fits (named g t) (row_at rows t)
    checkpointing-fits room = subst (Fits (named g t)) (sym checkpointing-was) (room.fits t)

    pub checkpointing-more : (b : Bool) → b ≡ named g t → (r : Row) → r ≡ checkpointed_row b (row_at rows t) → Checkpointing g before (t + 1) (set rows t r)
    checkpointing-more b n r e = record { within = omega arith; long = length-set rows t r ∙ c.long; at = λ u. go u (eqb t u) refl }
      where
        go : (u : ℕ) (z : Bool) → eqb t u ≡ z → row_at (set rows t r) u ≡ checkpointed_row (ltb u (t + 1) and named g u) (row_at before u)
        go u true q =
            let same : t ≡ u = eqb-true t u q in
            subst (λ (u : ℕ). row_at (set rows t r) u ≡ checkpointed_row (ltb u (t + 1) and named g u) (row_at before u)) same
            (get_or-set_same rows t r (empty_row unused) (omega (arith, c.long)) ∙ e ∙ ap (λ b. checkpointed_row b (row_at rows t)) n ∙ ap (checkpointed_row (named g t)) checkpointing-was
            ∙ ap (λ z. checkpointed_row (z and named g t) (row_at before t)) (sym (lt-ltb t (t + 1) (omega arith))))
        go u false q =
            let other = eqb-false t u q in
            get_or-set_other rows t u r (empty_row unused) (λ w. other (sym w)) ∙ c.at u ∙ ap (λ z. checkpointed_row (z and named g u) (row_at before u)) (⊎_elim
            (λ (k : u < t). lt-ltb u t k ∙ sym (lt-ltb u (t + 1) (omega arith)))
            (λ (k : t ≤ u). le-ltb u t k ∙ sym (le-ltb u (t + 1) (omega arith)))
            (sides u t))
