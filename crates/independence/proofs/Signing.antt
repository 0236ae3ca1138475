-- The signed lives of a take are those that its own mark's list tells; two lists that differ tell different ones.
use Prim.Native.Nat.{ℕ, ◌+◌, ◌≤◌, ◌<◌}
use mathlib.Core.Bool.{Bool, true, false}
use mathlib.Core.Path.{◌≡◌, refl, sym, ap, ◌∙◌}
use mathlib.Core.List.{List, [], ◌∷◌, ◌++◌}
use mathlib.Core.Logic.{⊎_elim}
use native.Mathlib.Omega.{arith}
use lib.ListN.{length, length-append}
use Rattle.octets.specs.Bytes.{◌and◌}
use Rattle.octets.proofs.Tests.{true-or-false, never}
use Rattle.octets.proofs.Chunks.{sides}
use Rattle.marks.specs.Incarnation.{Incarnation, checkpointed_in, Checkpointed, begins}
use Rattle.marks.specs.History.{incarnation_of, initial_history}
use Rattle.marks.specs.declared.History.{History}
use Rattle.marks.proofs.Tests.{checkpointed-test}
use Rattle.maps.proofs.Map.{history-empty}
use Rattle.rules.specs.Layout.{Layout}
use Rattle.rules.specs.State.{Transactor, State, transactor_at, own_history, live}
use Rattle.rules.specs.Internal.Well.{TransactorFormed, WellFormed}
use Rattle.rules.specs.Independent.{signed_in}
use Rattle.rules.proofs.Form.Transactor.{live-true}
use Rattle.rules.proofs.Independent.Signed.{none-signed, list-signed}

-- ---- lists

-- a list is empty, or it ends in a number
data Ends : List ℕ → Type 0 where
  nothing : Ends []
  last : (xs : List ℕ) (n : ℕ) → Ends (xs ++ (n ∷ []))

ends : (l : List ℕ) → Ends l
ends [] = nothing
ends (x ∷ xs) = go (ends xs)
  where
    go : {l : List ℕ} → Ends l → Ends (x ∷ l)
    go nothing = last [] x
    go (last ys n) = last (x ∷ ys) n

empty-length : (l : List ℕ) → length l ≡ 0 → l ≡ []
empty-length [] e = refl
empty-length (x ∷ l) e = absurd (omega (arith, e))

-- a life that the list l tells and the shorter one k does not
pub record Told (l k : List ℕ) : Type 0 where
  pub life : Incarnation
  pub here : (n : ℕ) → checkpointed_in life (record { checkpoints = l; number = n }) ≡ true
  pub nowhere : (n : ℕ) → checkpointed_in life (record { checkpoints = k; number = n }) ≡ false

told-ends : {l : List ℕ} (k : List ℕ) → Ends l → length k ≤ length l → (l ≡ k → ⊥) → Told l k
told-ends k nothing h d = absurd (d (sym (empty-length k (omega arith))))
told-ends k (last xs n) h d = record {
  life = a;
  here = λ m. (checkpointed-test a (record { checkpoints = xs ++ (n ∷ []); number = m })).1 (begins [] refl);
  nowhere = λ m. ⊎_elim
      (λ (e : checkpointed_in a (record { checkpoints = k; number = m }) ≡ true). absurd (go ((checkpointed-test a (record { checkpoints = k; number = m })).0 e) refl))
      (λ e. e)
      (true-or-false (checkpointed_in a (record { checkpoints = k; number = m })));
}
  where
    a : Incarnation
    a = record { checkpoints = xs; number = n }

    go : {b : Incarnation} → Checkpointed a b → b.checkpoints ≡ k → ⊥
    go {b} (begins r e) f =
        let i : length k ≡ length xs + length (n ∷ r) = ap length (sym f ∙ e) ∙ length-append xs (n ∷ r) in
        let j : length (xs ++ (n ∷ [])) ≡ length xs + 1 = length-append xs (n ∷ []) in
        let z : r ≡ [] = empty-length r (omega arith) in
        d (sym (sym f ∙ e ∙ ap (λ (q : List ℕ). xs ++ n ∷ q) z))

pub told : (l k : List ℕ) → length k ≤ length l → (l ≡ k → ⊥) → Told l k
told l k = told-ends k (ends l)

-- ---- takes of a well-formed state

formed-signed : {y : Layout} {c o t : ℕ} {x : Transactor} → t < y.transactors → TransactorFormed y c o t x → (a : Incarnation)
    → live x and checkpointed_in a (incarnation_of (own_history t x)) ≡ checkpointed_in a (incarnation_of (own_history t x))
formed-signed {y} {t = t} below (TransactorFormed.not_opened h) a =
    sym (ap (λ (m : History). checkpointed_in a (incarnation_of m)) (history-empty y.places y.transactors t below) ∙ none-signed a (initial_history y.places) refl)
formed-signed {y} {t = t} below (TransactorFormed.gone h) a =
    sym (ap (λ (m : History). checkpointed_in a (incarnation_of m)) (history-empty y.places y.transactors t below) ∙ none-signed a (initial_history y.places) refl)
formed-signed {t = t} {x} below (TransactorFormed.alive h v) a = ap (λ (c : Bool). c and checkpointed_in a (incarnation_of (own_history t x))) (live-true v.status)

pub signed_is : {y : Layout} {s : State} → WellFormed y s → (t : ℕ) → t < y.transactors → (a : Incarnation)
    → signed_in s t a ≡ checkpointed_in a (incarnation_of (own_history t (transactor_at s t)))
signed_is w t below a = formed-signed below (w.transactors t below) a

module _ {y : Layout} {s s' : State} (w : WellFormed y s) (w' : WellFormed y s') (t : ℕ) (below : t < y.transactors) where
  abbrev list : State → List ℕ
  list x = (incarnation_of (own_history t (transactor_at x t))).checkpoints

  -- the same list, the same signed lives
  pub same-signed : list s ≡ list s' → (a : Incarnation) → signed_in s' t a ≡ signed_in s t a
  same-signed e a = signed_is w' t below a ∙ sym (list-signed a _ _ e) ∙ sym (signed_is w t below a)

  -- another list, another signed life
  pub other-signed : (list s ≡ list s' → ⊥) → (a : Incarnation) × (signed_in s' t a ≡ signed_in s t a → ⊥)
  other-signed d = ⊎_elim
      (λ (h : length (list s) < length (list s')).
      let r : Told (list s') (list s) = told (list s') (list s) (omega arith) (λ e. d (sym e)) in
      (r.life, λ e. never (sym (r.here 0) ∙ list-signed r.life _ _ refl ∙ sym (signed_is w' t below r.life) ∙ e ∙ signed_is w t below r.life ∙ list-signed r.life _ (record { checkpoints = list s; number = 0 }) refl ∙ r.nowhere 0)))
      (λ (h : length (list s') ≤ length (list s)).
      let r : Told (list s) (list s') = told (list s) (list s') h d in
      (r.life, λ e. never (sym (r.here 0) ∙ list-signed r.life _ _ refl ∙ sym (signed_is w t below r.life) ∙ sym e ∙ signed_is w' t below r.life ∙ list-signed r.life _ (record { checkpoints = list s'; number = 0 }) refl ∙ r.nowhere 0)))
      (sides (length (list s)) (length (list s')))
