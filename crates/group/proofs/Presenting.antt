-- What is kept of the named takes before the walk, take by take: their own marks, and which of them are frozen.
use Prim.Native.Nat.{ℕ, ◌+◌, ◌^◌, ◌≤◌, ◌<◌}
use mathlib.Core.Bool.{Bool, true, false}
use mathlib.Core.Path.{◌≡◌, sym, ◌∙◌, subst}
use mathlib.Core.List.{List}
use mathlib.Core.Logic.{⊎_elim}
use native.Mathlib.Omega.{arith}
use lib.ListN.{length, set, length-set}
use lib.Seq.{get_or-set_same, get_or-set_other}
use Rattle.octets.specs.Bytes.{◌and◌}
use Rattle.octets.proofs.Chunks.{sides}
use Rattle.octets.proofs.Tests.{never}
use Rattle.marks.specs.declared.History.{History}
use Rattle.maps.specs.Map.{entry_of}
use Rattle.maps.proofs.Map.{outside}
use Rattle.rules.specs.Layout.{Layout}
use Rattle.rules.specs.State.{State, transactor_at, own_history}
use Rattle.rules.specs.Refusals.{group_bits, named}
use Rattle.rules.specs.Internal.Well.{WellFormed}
use Rattle.rules.specs.Internal.Closure.{Names, Presents, Kept}
use Rattle.rules.proofs.Groups.Ready.{kept-stable}
use Rattle.rules.proofs.Bits.{named-all, names-none, names-fits, names-on, names-off}

pub record Presented (y : Layout) (s : State) (g t : ℕ) (l : List History) (v : ℕ) : Type 0 where
  pub within : t ≤ y.transactors
  pub long : length l ≡ y.transactors
  pub own : (u : ℕ) → u < t → named g u ≡ true → entry_of l u ≡ own_history u (transactor_at s u)
  pub stable : Names (λ u. named g u and (own_history u (transactor_at s u)).stable) t v

module _ {y : Layout} {s : State} {g : ℕ} where
  pub presented-none : (l : List History) → length l ≡ y.transactors → Presented y s g 0 l 0
  presented-none l e = record { within = omega arith; long = e; own = λ u h. absurd (omega arith); stable = names-none (λ u. named g u and (own_history u (transactor_at s u)).stable) }

  pub presented-all : {t : ℕ} {l : List History} {v : ℕ} → Presented y s g t l v → y.transactors ≤ t → Presents y s g l v
  presented-all {v} p h = record {
    own = λ u b. p.own u (omega (arith, p.within));
    stable = subst (λ (n : ℕ). Names (λ u. named g u and (own_history u (transactor_at s u)).stable) n v) (omega (arith, p.within)) p.stable;
  }

  module _ {t : ℕ} {l : List History} {v : ℕ} (p : Presented y s g t l v) (below : t < y.transactors) where
    pub presented-unnamed : named g t ≡ false → Presented y s g (t + 1) l v
    presented-unnamed o = record {
      within = omega arith;
      long = p.long;
      own = λ u h n. ⊎_elim
          (λ (q : u < t). p.own u q n)
          (λ (q : t ≤ u). let e : u ≡ t = omega arith in never (sym (subst (λ (x : ℕ). named g x ≡ true) e n) ∙ o))
          (sides u t);
      stable = names-off p.stable (rw o);
    }

    module _ (name : named g t ≡ true) (h : History) (e : h ≡ own_history t (transactor_at s t)) where
      -- with its own mark
      kept : (u : ℕ) → u < t + 1 → named g u ≡ true → entry_of (set l t h) u ≡ own_history u (transactor_at s u)
      kept u b n = ⊎_elim
          (λ (q : u < t). get_or-set_other l t u h outside (λ z. omega arith) ∙ p.own u q n)
          (λ (q : t ≤ u).
          let f : t ≡ u = omega arith in
          subst (λ (x : ℕ). entry_of (set l t h) x ≡ own_history x (transactor_at s x)) f (get_or-set_same l t h outside (omega (arith, p.long)) ∙ e))
          (sides u t)

      flag : (b : Bool) → h.stable ≡ b → named g t and (own_history t (transactor_at s t)).stable ≡ b
      flag b f = rw (name, ← e, f)

      pub presented-unstable : h.stable ≡ false → Presented y s g (t + 1) (set l t h) v
      presented-unstable f = record { within = omega arith; long = length-set l t h ∙ p.long; own = kept; stable = names-off p.stable (flag false f) }

      module _ (b : ℕ) (bit : b ≡ 2 ^ t) where
        pub presented-stable : h.stable ≡ true → Presented y s g (t + 1) (set l t h) (v + b)
        presented-stable f = record { within = omega arith; long = length-set l t h ∙ p.long; own = kept; stable = names-on p.stable b bit (flag true f) }

    pub presented-fits : y.transactors ≡ group_bits → (b : ℕ) → b ≡ 2 ^ t → v + b < 2 ^ group_bits
    presented-fits size b bit = rw bit (names-fits p.stable group_bits (omega arith))

-- ---- all named takes are frozen

-- what the walk has of each
pub kept-named : (y : Layout) (s : State) (g : ℕ) {l : List History} {v : ℕ} → Presents y s g l v → v ≡ g → WellFormed y s → (u : ℕ) → u < y.transactors → Kept s g u (entry_of l u)
kept-named y s g {l} p e well u h = subst (λ (w : ℕ). Kept s w u (entry_of l u)) e (kept-stable y s g p well u h)

-- ---- of all takes

-- the frozen ones
pub all_stable : (y : Layout) (s : State) {l : List History} {v : ℕ} → y.transactors ≡ group_bits → Presents y s 65535 l v → Names (λ t. (own_history t (transactor_at s t)).stable) y.transactors v
all_stable y s size p = record {
  bits = p.stable.bits;
  exactly = λ t h. p.stable.exactly t h ∙ rw (named-all group_bits t (omega arith));
}
