-- Which takes a step touches.
use Prim.Native.Nat.{ℕ}
use mathlib.Core.Bool.{Bool, true, false}
use mathlib.Core.Path.{◌≡◌, refl, sym}
use lib.Dec.{eqb}
use borrow.Author.Tests.{eq-eqb, ne_eqb}
use Rattle.octets.specs.Bytes.{◌and◌, ◌or◌}
use Rattle.octets.proofs.Tests.{and-true, and-false}
use Rattle.rules.specs.declared.Step.{Step}
use Rattle.rules.specs.Step.{done, sign}
use Rattle.rules.specs.Refusals.{named, acts}
use Rattle.thin.specs.Thin.{not_refused, touches}

module _ (p : Step) (o : ℕ) where
  pub touch-none : acts p.kind ≡ false → eqb p.kind sign ≡ false → (u : ℕ) → touches p o u ≡ false
  unfolding touches
  touch-none e f u = rw (e, f) (and-false (not_refused o))

  pub touch-own : not_refused o ≡ true → acts p.kind ≡ true → touches p o p.transactor ≡ true
  unfolding touches
  touch-own e f = rw (e, f, eq-eqb p.transactor p.transactor refl)

  pub touch-other : eqb p.kind sign ≡ false → (u : ℕ) → (u ≡ p.transactor → ⊥) → touches p o u ≡ false
  unfolding touches
  touch-other f u n = rw (f, ne_eqb p.transactor u (λ e. n (sym e))) (go (not_refused o) (acts p.kind))
    where
      go : (c b : Bool) → c and ((b and false) or false) ≡ false
      go true true = refl
      go true false = refl
      go false b = refl

  pub touch-checkpointed : eqb p.kind sign ≡ true → acts p.kind ≡ false → (u : ℕ) → named p.message u ≡ false → touches p o u ≡ false
  unfolding touches
  touch-checkpointed e f u n = rw (e, f, n) (and-false (not_refused o))

  pub touch-unsigned : acts p.kind ≡ false → eqb o done ≡ false → (u : ℕ) → touches p o u ≡ false
  unfolding touches
  touch-unsigned e f u = rw (e, f) (go (not_refused o) (eqb p.kind sign) (named p.message u))
    where
      go : (c b a : Bool) → c and (b and a and false) ≡ false
      go true true true = refl
      go true true false = refl
      go true false a = refl
      go false b a = refl

  pub touch-refused : not_refused o ≡ false → (u : ℕ) → touches p o u ≡ false
  unfolding touches
  touch-refused e u = rw e

  pub touch-named : not_refused o ≡ true → eqb p.kind sign ≡ true → acts p.kind ≡ false → eqb o done ≡ true → (u : ℕ) → touches p o u ≡ named p.message u
  unfolding touches
  touch-named e f g h u = rw (e, f, g, h) (and-true (named p.message u))
