-- `find_map` over the first n takes is the first of them that is one.
use Prim.Native.Nat.{ℕ, zero, suc, ◌+◌, ◌-◌, ◌<◌}
use mathlib.Core.Path.{◌≡◌, refl, sym, ap, ◌∙◌, subst}
use native.Mathlib.Omega.{arith}
use denote.Param.Members.{Mut}
use Rattle.std.specs.Prelude.{Option, Some, None, MatchOption, IfSome, IsSomeAnd, IsTrue}
use Rattle.std.specs.Option.{option_or, option_map}
use Rattle.std.specs.Fn.{Called}
use Rattle.std.specs.declared.ops.Range.{Range}
use Rattle.std.specs.Iterator.Runs.{Run, SomeRun, CallKeepsClosure, AllItemsGive, IsFirstToGive}
use Rattle.std.proofs.iter.Yields.{nat_range_steps}
use Rattle.std.proofs.iter.runs.Sources.{range_runs}
use Rattle.rules.specs.declared.Obstacle.{Obstacle}
use Rattle.rules.specs.Obstacle.{first_of}

module _ (f : ℕ → Option Obstacle) where
  none-first : (k n : ℕ) → ((i : ℕ) → i < n → f (k + i) ≡ None) → None ≡ first_of f k n
  unfolding first_of
  none-first k zero h = refl
  none-first k (suc n) h =
      let here : f k ≡ None = ap f {x = k} {y = k + 0} (omega arith) ∙ h 0 (omega arith) in
      none-first (suc k) n (λ i l. ap f {x = suc k + i} {y = k + suc i} (omega arith) ∙ h (suc i) (omega arith))
      ∙ ap (λ (o : Option Obstacle). option_or o (first_of f (suc k) n)) (sym here)

  some-first : (k n i : ℕ) (o : Obstacle) → i < n → ((j : ℕ) → j < i → f (k + j) ≡ None) → f (k + i) ≡ Some o → Some o ≡ first_of f k n
  unfolding first_of
  some-first k zero i o l h e = absurd (omega arith)
  some-first k (suc n) zero o l h e =
      let here : f k ≡ Some o = ap f {x = k} {y = k + 0} (omega arith) ∙ e in
      ap (λ (p : Option Obstacle). option_or p (first_of f (suc k) n)) (sym here)
  some-first k (suc n) (suc i) o l h e =
      let here : f k ≡ None = ap f {x = k} {y = k + 0} (omega arith) ∙ h 0 (omega arith) in
      some-first (suc k) n i o (omega arith) (λ j q. ap f {x = suc k + j} {y = k + suc j} (omega arith) ∙ h (suc j) (omega arith)) (ap f {x = suc k + i} {y = k + suc i} (omega arith) ∙ e)
      ∙ ap (λ (p : Option Obstacle). option_or p (first_of f (suc k) n)) (sym here)

  module _ {F : Type 0} {g : Mut F (ℕ × Unit {0}) (Option Obstacle)} (n : ℕ) (s : Range ℕ) (closure : F) (from : s ≡ record { start = 0; end = n })
      (answers : (x : ℕ) (b : Option Obstacle) (q : F) → Called g closure (x, tt) b q → (q ≡ closure) × (b ≡ f x)) where
    keeps : CallKeepsClosure g closure
    keeps a r q h = (answers a.0 r q h).0

    -- the item at place k of a run from 0
    item : (p : Run nat_range_steps) → p.from ≡ s → (k : ℕ) → k < p.len → p.at k ≡ Some k
    item p e k l = go (p.at k) ((range_runs p p.seen).3 k l) (ap (λ (z : Range ℕ). z.start) (e ∙ from))
      where
        go : (o : Option ℕ) → option_map (λ y. y) o ≡ Some (p.from.start + k) → p.from.start ≡ 0 → o ≡ Some k
        go None q z = cc
        go (Some x) q z = q ∙ ap Some {x = p.from.start + k} {y = k} (omega (arith, z))

    pub sought : (r : Option Obstacle)
        → SomeRun nat_range_steps s (λ p. MatchOption r (IsTrue p.whole × AllItemsGive p g closure None) (λ y. (i : ℕ) × (i < p.len) × (p.len ≡ i + 1) × IsFirstToGive p g closure (Some y) None i))
        → r ≡ first_of f 0 n
    sought None (p, e, w) =
        let end : p.from.end ≡ n = ap (λ (z : Range ℕ). z.end) (e ∙ from) in
        let start : p.from.start ≡ 0 = ap (λ (z : Range ℕ). z.start) (e ∙ from) in
        let long : p.len ≡ p.from.end - p.from.start = (range_runs p p.seen).1 w.0 in
        none-first 0 n (λ i l. ap f {x = 0 + i} {y = i} (omega arith) ∙ sym (answers i None closure (subst (λ (o : Option ℕ). IfSome o (λ x. Called g closure (x, tt) None closure)) (item p e i (omega arith)) (w.1 keeps i))).1)
    sought (Some o) (p, e, (i, below, last, first)) =
        let end : p.from.end ≡ n = ap (λ (z : Range ℕ). z.end) (e ∙ from) in
        let start : p.from.start ≡ 0 = ap (λ (z : Range ℕ). z.start) (e ∙ from) in
        let long = (range_runs p p.seen).0 in
        let h = first keeps in
        let at : (k : ℕ) (b : Option Obstacle) → k < p.len → IsSomeAnd (p.at k) (λ x. Called g closure (x, tt) b closure) → f k ≡ b =
        λ k b l c. sym (answers k b closure (subst (λ (o : Option ℕ). IsSomeAnd o (λ x. Called g closure (x, tt) b closure)) (item p e k l) c)).1 in
        some-first 0 n i o (omega (arith, long)) (λ j l. ap f {x = 0 + j} {y = j} (omega arith) ∙ at j None (omega arith) (h.1 j l)) (ap f {x = 0 + i} {y = i} (omega arith) ∙ at i (Some o) below h.0)
