-- Which steps are kept, of outcomes that agree.
use Prim.Native.Nat.{ℕ, zero, suc, ◌+◌, ◌-◌, ◌*◌, ◌≤◌, ◌<◌}
use mathlib.Core.Bool.{Bool, false, not}
use mathlib.Core.Path.{◌≡◌, refl, ap, ◌∙◌}
use mathlib.Core.List.{List, []}
use native.Mathlib.Omega.{arith}
use lib.Dec.{eqb}
use Rattle.octets.specs.Bytes.{pick, ◌and◌, part}
use Rattle.octets.proofs.Chunks.{chunks-same}
use Rattle.rules.specs.Step.{step_bytes, step_at, read}
use Rattle.thin.specs.Thin.{not_refused, touches, empties, emptied_from, unused, kept, chosen, counted}

-- after the last step
pub emptied-none : (b : List ℕ) (o : ℕ → ℕ) (t i n : ℕ) → n ≤ i → emptied_from b o t i (n - i) ≡ false
unfolding emptied_from
emptied-none b o t i n h = let e : n - i ≡ 0 = omega arith in ap (emptied_from b o t i) e

-- a turn of a loop from the last step to the first
pub emptied-turn : (b : List ℕ) (o : ℕ → ℕ) (t i n : ℕ) → i < n
    → emptied_from b o t i (n - i) ≡ pick (touches (step_at b i) (o i) t) (empties (step_at b i) (o i)) (emptied_from b o t (suc i) (n - suc i))
unfolding emptied_from
emptied-turn b o t i n h = let e : n - i ≡ suc (n - suc i) = omega arith in ap (emptied_from b o t i) e

module _ (b : List ℕ) (o o' : ℕ → ℕ) (n : ℕ) (same : (i : ℕ) → i < n → o i ≡ o' i) where
  emptied-same : (t m i : ℕ) → i + m ≤ n → emptied_from b o t i m ≡ emptied_from b o' t i m
  unfolding emptied_from
  emptied-same t zero i h = refl
  emptied-same t (suc m) i h =
      let p = step_at b i in
      ap (λ (k : ℕ). pick (touches p k t) (empties p k) (emptied_from b o t (suc i) m)) (same i (omega arith))
      ∙ ap (λ (c : Bool). pick (touches p (o' i) t) (empties p (o' i)) c) (emptied-same t m (suc i) (omega arith))

  pub kept_same : (i : ℕ) → i < n → kept b o n i ≡ kept b o' n i
  unfolding kept unused
  kept_same i h =
      let t : ℕ = (step_at b i).transactor in
      ap (λ (k : ℕ). not_refused k and not (eqb (step_at b i).kind read and emptied_from b o t (suc i) (n - suc i))) (same i h)
      ∙ ap (λ (c : Bool). not_refused (o' i) and not (eqb (step_at b i).kind read and c)) (emptied-same t (n - suc i) (suc i) (omega arith))

module _ (f g : ℕ → Bool) where
  pub chosen-same : (n : ℕ) (l : List ℕ) → ((i : ℕ) → i < n → f i ≡ g i) → chosen f n l ≡ chosen g n l
  unfolding chosen
  chosen-same n l h = chunks-same n (λ i. pick (f i) (part (step_bytes * i) step_bytes l) []) (λ i. pick (g i) (part (step_bytes * i) step_bytes l) []) (λ i p. ap (λ (c : Bool). pick c (part (step_bytes * i) step_bytes l) []) (h i p))

  pub counted_same : (n : ℕ) → ((i : ℕ) → i < n → f i ≡ g i) → counted f n ≡ counted g n
  unfolding counted
  counted_same zero h = refl
  counted_same (suc n) h = ap (λ (k : ℕ). k + pick (f n) 1 0) (counted_same n (λ i p. h i (omega arith))) ∙ ap (λ (c : Bool). counted g n + pick c 1 0) (h n (omega arith))
