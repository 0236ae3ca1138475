-- Tables that change at one place.
use Prim.Native.Nat.{ℕ, zero, suc, ◌<◌}
use mathlib.Core.Bool.{Bool, true, false}
use mathlib.Core.Path.{◌≡◌, refl, sym, subst}
use mathlib.Core.List.{List, [], ◌∷◌}
use mathlib.Core.Logic.{◌≢◌}
use native.Mathlib.Omega.{arith}
use lib.Dec.{eqb}
use lib.ListN.{length, get_or, set}
use lib.Seq.{get_or-set_same, get_or-set_other}
use borrow.Author.Tests.{eqb-true, eqb-false, eq-eqb, ne_eqb}
use Rattle.octets.proofs.Tests.{pick-both}
use Rattle.octets.specs.Bytes.{pick}
use Rattle.octets.specs.Table.{updated}

module _ {A : Type 0} (f : ℕ → A) (t : ℕ) (x : A) where
  pub updated-same : updated f t x t ≡ x
  unfolding updated
  updated-same = rw (eq-eqb t t refl)

  pub updated-other : (u : ℕ) → t ≢ u → updated f t x u ≡ f u
  unfolding updated
  updated-other u n = rw (ne_eqb t u n)

-- what holds at the place and away from it holds everywhere
pub updated-view : {A : Type 0} (P : ℕ → A → Type 0) (f : ℕ → A) (t : ℕ) (x : A)
    → P t x → ((u : ℕ) → t ≢ u → P u (f u)) → (u : ℕ) → P u (updated f t x u)
unfolding updated
updated-view {A} P f t x p q u = go (eqb t u) refl
  where
    go : (c : Bool) → eqb t u ≡ c → P u (pick c x (f u))
    go true e = subst (λ v. P v x) (eqb-true t u e) p
    go false e = q u (eqb-false t u e)

-- a table that is given what it has
pub updated-self : {A : Type 0} (f : ℕ → A) (t u : ℕ) → updated f t (f t) u ≡ f u
updated-self f t = updated-view (λ u z. z ≡ f u) f t (f t) refl (λ u d. refl)

-- what holds of two tables at the place where both change and away from it holds everywhere
pub updated-both : {A B : Type 0} (P : ℕ → A → B → Type 0) (f : ℕ → A) (g : ℕ → B) (t : ℕ) (x : A) (y : B)
    → P t x y → ((u : ℕ) → t ≢ u → P u (f u) (g u)) → (u : ℕ) → P u (updated f t x u) (updated g t y u)
unfolding updated
updated-both P f g t x y p q u =
    pick-both (P u) (eqb t u) (eqb t u) refl x (f u) y (g u)
    (λ e. subst (λ v. P v x y) (eqb-true t u e) p) (λ e. q u (eqb-false t u e))

-- a table that is x at t and f elsewhere
pub updated-is : {A : Type 0} (f : ℕ → A) (t : ℕ) (x : A) (g : ℕ → A) → g t ≡ x → ((u : ℕ) → t ≢ u → g u ≡ f u) → (u : ℕ) → g u ≡ updated f t x u
updated-is f t x g here else = updated-view (λ u z. g u ≡ z) f t x here else

-- within a list it does not matter what stands past its end
pub read-within {ℓ} : {A : Type ℓ} (l : List A) (n : ℕ) (d e : A) → n < length l → get_or l n d ≡ get_or l n e
read-within [] n d e h = absurd (omega arith)
read-within (z ∷ l) zero d e h = refl
read-within (z ∷ l) (suc n) d e h = read-within l n d e (omega arith)

-- a list that changes at one place, as a table
pub set-updated : {A : Type 0} (l : List A) (t : ℕ) (x d : A) → t < length l → (λ u. get_or (set l t x) u d) ≡ updated (λ u. get_or l u d) t x
set-updated l t x d h = λ i u. updated-is (λ u. get_or l u d) t x (λ u. get_or (set l t x) u d) (get_or-set_same l t x d h) (λ u n. get_or-set_other l t u x d (λ e. n (sym e))) u i
