-- A fault is at a line of the text, at one of its bytes or right after its last.
use Prim.Native.Nat.{ℕ, suc, ◌+◌, ◌-◌, ◌≤◌, ◌<◌}
use mathlib.Core.Bool.{Bool, true, false}
use mathlib.Core.Path.{◌≡◌, refl, sym, ap, ◌∙◌, subst}
use mathlib.Core.Logic.{◌⊎◌, inl, inr, ⊎_elim}
use mathlib.Core.List.{List, [], ◌∷◌}
use native.Mathlib.Omega.{arith}
use borrow.Author.Tests.{eqb-false, eq-eqb, ne_eqb}
use lib.Dec.{eqb, ltb, leb}
use lib.ListN.{length, get_or, length-take}
use Rattle.octets.specs.Bytes.{pick}
use Rattle.octets.proofs.Tests.{pick-view}
use Rattle.rules.specs.Step.{step_bytes}
use Rattle.notation.specs.Reading.{Reader, not_hash, run, next, good, nothing, line_at, lines_of, said, Progress, with_step, line_read, lines_read, start, progress, steps, fault, outcome, read}
use Rattle.notation.specs.Faults.{At}
use Rattle.notation.proofs.Within.{next-within, line-within}

-- a fault at the line of x, which has n bytes
pub record Stopped (n : ℕ) (x y : Progress) : Type 0 where
  pub line : y.line ≡ x.line
  pub from : 0 < y.column
  pub up_to : y.column ≤ suc n
  pub expected : 0 < y.expected

-- none, and the next line
pub record Passed (x y : Progress) : Type 0 where
  pub line : y.line ≡ suc x.line
  pub expected : y.expected ≡ nothing

module _ (most : ℕ) where
  step-result : (n from : ℕ) (r : Reader) (x : Progress) → from ≤ n → r.at ≤ n → Passed x (with_step most from r x) ⊎ Stopped n x (with_step most from r x)
  unfolding with_step
  step-result n from r x f h =
      pick-view (λ (y : Progress). Passed x y ⊎ Stopped n x y) (good r) _ _
      (λ g. pick-view (λ (y : Progress). Passed x y ⊎ Stopped n x y) (leb (length x.list + step_bytes) most) _ _
      (λ e. inl (record { line = refl; expected = refl }))
      (λ e. inr (record { line = refl; from = omega arith; up_to = omega arith; expected = omega arith })))
      (λ g. let k = eqb-false r.expected nothing g in inr (record { line = refl; from = omega arith; up_to = omega arith; expected = omega arith }))

  line-result : (s : List ℕ) (x : Progress) → Passed x (line_read most s x) ⊎ Stopped (length s) x (line_read most s x)
  unfolding line_read
  line-result s x =
      pick-view (λ (y : Progress). Passed x y ⊎ Stopped (length s) x y) (ltb (next s 0) (length s)) _ _
      (λ e. step-result (length s) (next s 0) (line_at s (next s 0)) x (next-within s 0 (omega arith)) (line-within s (next s 0) (next-within s 0 (omega arith))))
      (λ e. inl (record { line = refl; expected = refl }))

  -- after a fault no more is read
  pub stays : (ls : List (List ℕ)) (x : Progress) → 0 < x.expected → lines_read most ls x ≡ x
  unfolding lines_read
  stays [] x h = refl
  stays (l ∷ ls) x h = ap (λ (t : Bool). lines_read most ls (pick t (line_read most (said l) x) x)) (ne_eqb x.expected nothing (λ (e : x.expected ≡ 0). omega arith)) ∙ stays ls x h

  pub goes_on : (l : List ℕ) (ls : List (List ℕ)) (x : Progress) → x.expected ≡ nothing → lines_read most (l ∷ ls) x ≡ lines_read most ls (line_read most (said l) x)
  unfolding lines_read
  goes_on l ls x e = ap (λ (t : Bool). lines_read most ls (pick t (line_read most (said l) x) x)) (eq-eqb x.expected nothing e)

-- y's fault is at one of the lines ls, the first of which has number k
pub record Placed (ls : List (List ℕ)) (k : ℕ) (y : Progress) : Type 0 where
  pub first : k ≤ y.line
  pub last : y.line < k + length ls
  pub from : 0 < y.column
  pub up_to : y.column ≤ suc (length (get_or ls (y.line - k) []))
  pub expected : 0 < y.expected

module _ (most : ℕ) where
  placed-later : (l : List ℕ) (ls : List (List ℕ)) (k : ℕ) (y : Progress) → Placed ls (suc k) y → Placed (l ∷ ls) k y
  placed-later l ls k y p =
      let f = p.first in
      let g = p.last in
      let e : y.line - k ≡ suc (y.line - suc k) = omega arith in
      record { first = omega arith; last = omega arith; from = p.from; up_to = rw e p.up_to; expected = p.expected }

  said-short : (l : List ℕ) → length (said l) ≤ length l
  unfolding said
  said-short l = omega (arith, length-take (run not_hash l) l)

  abbrev Result : List (List ℕ) → ℕ → Progress → Type 0
  Result ls k y = (y.expected ≡ nothing) ⊎ Placed ls k y

  result-none : (k : ℕ) (x : Progress) → x.expected ≡ nothing → Result [] k (lines_read most [] x)
  unfolding lines_read
  result-none k x e = inl e

  result-here : (l : List ℕ) (ls : List (List ℕ)) (k : ℕ) (x y : Progress) → x.line ≡ k → Stopped (length (said l)) x y → Placed (l ∷ ls) k y
  result-here l ls k x y a t =
      let b = t.line in
      let z : y.line - k ≡ 0 = omega arith in
      record { first = omega arith; last = omega arith; from = t.from; up_to = rw z (omega (arith, t.up_to, said-short l)); expected = t.expected }

  lines-result : (ls : List (List ℕ)) (k : ℕ) (x : Progress) → x.line ≡ k → x.expected ≡ nothing → Result ls k (lines_read most ls x)
  lines-result [] k x a e = result-none k x e
  lines-result (l ∷ ls) k x a e =
      subst (Result (l ∷ ls) k) (sym (goes_on most l ls x e))
      (⊎_elim
      (λ (p : Passed x (line_read most (said l) x)). ⊎_elim
      (λ (q : (lines_read most ls (line_read most (said l) x)).expected ≡ nothing). inl q)
      (λ (q : Placed ls (suc k) (lines_read most ls (line_read most (said l) x))). inr (placed-later l ls k (lines_read most ls (line_read most (said l) x)) q))
      (lines-result ls (suc k) (line_read most (said l) x) (p.line ∙ ap suc a) p.expected))
      (λ (t : Stopped (length (said l)) x (line_read most (said l) x)).
      inr (subst (Placed (l ∷ ls) k) (sym (stays most ls (line_read most (said l) x) t.expected)) (result-here l ls k x (line_read most (said l) x) a t)))
      (line-result most (said l) x))

module _ (most : ℕ) (t : List ℕ) (n c e : ℕ) where
  of-fault : (y : Progress) → Result most (lines_of t) 1 y → outcome y ≡ fault n c e → At t n c × (0 < e)
  unfolding outcome
  of-fault y r = go (eqb y.expected nothing) refl
    where
      go : (b : Bool) → eqb y.expected nothing ≡ b → pick b (steps y.list) (fault y.line y.column y.expected) ≡ fault n c e → At t n c × (0 < e)
      go true h f = let z : ◌≡◌ {A = ℕ} 0 1 = cc in absurd (omega arith)
      go false h f =
          let a : y.line ≡ n = cc in
          let b : y.column ≡ c = cc in
          let d : y.expected ≡ e = cc in
          ⊎_elim
          (λ (q : y.expected ≡ nothing). absurd (eqb-false y.expected nothing h q))
          (λ (p : Placed (lines_of t) 1 y).
          let u : c ≤ suc (length (get_or (lines_of t) (n - 1) [])) = subst (λ (m : ℕ). c ≤ suc (length (get_or (lines_of t) (m - 1) []))) a (omega (arith, p.up_to)) in
          (record { line_from = omega (arith, p.first); line_up_to = omega (arith, p.last); column_from = omega (arith, p.from); column_up_to = u }, omega (arith, p.expected)))
          r

  -- A fault has its place in the text, and names what was expected.
  pub fault-at : read most t ≡ fault n c e → At t n c × (0 < e)
  unfolding read progress
  fault-at = of-fault (lines_read most (lines_of t) start) (lines-result most (lines_of t) 1 start refl refl)
