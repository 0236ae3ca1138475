-- Document 02, W12: what stands in the short list is what its words say.
use Prim.Native.Nat.{ℕ, zero, suc, ◌+◌, ◌-◌, ◌≤◌, ◌<◌}
use mathlib.Core.Bool.{Bool, true, false, not}
use mathlib.Core.Path.{◌≡◌, refl, sym, ap, subst, ◌∙◌}
use mathlib.Core.List.{List}
use native.Mathlib.Decide.{ℕ_discrete}
use native.Mathlib.Omega.{arith}
use lib.Dec.{eqb}
use borrow.Author.Tests.{eqb-true, eq-eqb, not-true, not-false}
use Rattle.octets.specs.Bytes.{pick, ◌and◌}
use Rattle.octets.proofs.Tests.{never}
use Rattle.rules.specs.Step.{step_at, is_refusal, read}
use Rattle.thin.specs.Thin.{not_refused, touches, empties, emptied_from, unused, kept, EmptiedBy, LeftOut, refused, emptied}

module _ (b : List ℕ) (o : ℕ → ℕ) (t : ℕ) where
  abbrev touch : ℕ → Bool
  touch i = touches (step_at b i) (o i) t

  -- step i is it, or the search goes on
  here : (i n : ℕ) → touch i ≡ true → empties (step_at b i) (o i) ≡ true → i < n → EmptiedBy b o t i n
  here i n e f h = record { at = i; from = omega arith; before = h; touching = e; next = λ k l g. absurd (omega arith); emptying = f }

  later : (i n : ℕ) → touch i ≡ false → EmptiedBy b o t (suc i) n → EmptiedBy b o t i n
  later i n e w = record { at = w.at; from = omega (arith, w.from); before = w.before; touching = w.touching; next = λ k l g. passed k l g (ℕ_discrete k i); emptying = w.emptying }
    where
      passed : (k : ℕ) → i ≤ k → k < w.at → Dec (k ≡ i) → touch k ≡ false
      passed k l g (yes f) = ap touch f ∙ e
      passed k l g (no f) = w.next k (omega arith) g

  pub emptied-by : (n i : ℕ) → emptied_from b o t i n ≡ true → EmptiedBy b o t i (i + n)
  unfolding emptied_from
  emptied-by zero i e = never (sym e)
  emptied-by (suc n) i e = go (touch i) refl e (λ f. subst (EmptiedBy b o t (suc i)) (omega arith) (emptied-by n (suc i) f))
    where
      go : (c : Bool) → touch i ≡ c → pick c (empties (step_at b i) (o i)) (emptied_from b o t (suc i) n) ≡ true
          → (emptied_from b o t (suc i) n ≡ true → EmptiedBy b o t (suc i) (i + suc n)) → EmptiedBy b o t i (i + suc n)
      go true f g h = here i (i + suc n) f g (omega arith)
      go false f g h = later i (i + suc n) f (h g)

  pub by-emptied : (n i : ℕ) → EmptiedBy b o t i (i + n) → emptied_from b o t i n ≡ true
  unfolding emptied_from
  by-emptied zero i w = absurd (omega (arith, w.from, w.before))
  by-emptied (suc n) i w = go (ℕ_discrete w.at i) (λ v. by-emptied n (suc i) (subst (EmptiedBy b o t (suc i)) (omega arith) v))
    where
      go : Dec (w.at ≡ i) → (EmptiedBy b o t (suc i) (i + suc n) → emptied_from b o t (suc i) n ≡ true)
          → pick (touch i) (empties (step_at b i) (o i)) (emptied_from b o t (suc i) n) ≡ true
      go (yes e) h =
          let f : touch i ≡ true = ap touch (sym e) ∙ w.touching in
          rw f (ap (λ (k : ℕ). empties (step_at b k) (o k)) (sym e) ∙ w.emptying)
      go (no e) h =
          let l : i < w.at = omega (arith, w.from) in
          let f : touch i ≡ false = w.next i (omega arith) l in
          rw f (h (record { at = w.at; from = l; before = w.before; touching = w.touching; next = λ k g. w.next k (omega arith); emptying = w.emptying }))

-- Left out exactly if the words say so.
module _ (b : List ℕ) (o : ℕ → ℕ) (n i : ℕ) (inside : i < n) where
  pub left_out : kept b o n i ≡ false → LeftOut b o n i
  unfolding kept unused not_refused
  left_out e = go (not (is_refusal (o i))) (eqb (step_at b i).kind read) (emptied_from b o (step_at b i).transactor (suc i) (n - suc i)) refl refl refl e
    where
      go : (c d f : Bool) → not (is_refusal (o i)) ≡ c → eqb (step_at b i).kind read ≡ d → emptied_from b o (step_at b i).transactor (suc i) (n - suc i) ≡ f
          → c and not (d and f) ≡ false → LeftOut b o n i
      go false d f p q r e = refused (not-false _ p)
      go true false f p q r e = never e
      go true true false p q r e = never e
      go true true true p q r e = emptied (not-true _ p) (eqb-true _ read q)
          (subst (EmptiedBy b o (step_at b i).transactor (suc i)) (omega arith) (emptied-by b o (step_at b i).transactor (n - suc i) (suc i) r))

  pub out-left : LeftOut b o n i → kept b o n i ≡ false
  unfolding kept unused not_refused
  out-left (refused h) = rw h
  out-left (emptied h k w) =
      let f : emptied_from b o (step_at b i).transactor (suc i) (n - suc i) ≡ true =
      by-emptied b o (step_at b i).transactor (n - suc i) (suc i) (subst (EmptiedBy b o (step_at b i).transactor (suc i)) (omega arith) w) in
      rw (h, eq-eqb (step_at b i).kind read k, f)
