-- Laws of the search for a place.
use Prim.Native.Nat.{ℕ, zero, suc, ◌+◌, ◌-◌, ◌≤◌, ◌<◌}
use mathlib.Core.Bool.{Bool, true, false}
use mathlib.Core.Path.{◌≡◌, refl, sym, ap, ◌∙◌, subst}
use mathlib.Core.Logic.{⊎_elim}
use native.Mathlib.Numerals.{add-one}
use native.Mathlib.Omega.{arith}
use Rattle.octets.specs.Bytes.{pick}
use Rattle.octets.proofs.Chunks.{sides}
use Rattle.rules.specs.State.{place_from}

module _ (f : ℕ → Bool) where
  pub place_from-none : (k : ℕ) → place_from f k 0 ≡ k
  unfolding place_from
  place_from-none k = refl

  pub place_from-found : (k n : ℕ) → f k ≡ true → place_from f k (suc n) ≡ k
  unfolding place_from
  place_from-found k n e = rw e

  pub place_from-passed : (k n : ℕ) → f k ≡ false → place_from f k (suc n) ≡ place_from f (suc k) n
  unfolding place_from
  place_from-passed k n e = rw e

  -- the only place that can be meant
  pub place_from-is : (k n p : ℕ) → k ≤ p → p ≤ k + n → ((i : ℕ) → k ≤ i → i < p → f i ≡ false) → (p < k + n → f p ≡ true) → place_from f k n ≡ p
  place_from-is k zero p low high before at = place_from-none k ∙ omega arith
  place_from-is k (suc n) p low high before at = ⊎_elim
      (λ (h : k < p). place_from-passed k n (before k (omega arith) h) ∙ place_from-is (suc k) n p h (omega arith) (λ i a b. before i (omega arith) b) (λ h'. at (omega arith)))
      (λ (h : p ≤ k).
      let e : p ≡ k = omega arith in
      place_from-found k n (subst (λ (x : ℕ). f x ≡ true) e (at (omega arith))) ∙ sym e)
      (sides k p)

  -- what the search gives
  pub record Place (k n p : ℕ) : Type 0 where
    pub low : k ≤ p
    pub high : p ≤ k + n
    pub before : (i : ℕ) → k ≤ i → i < p → f i ≡ false
    pub here : p < k + n → f p ≡ true

  pub place : (k n : ℕ) → Place k n (place_from f k n)
  unfolding place_from
  place k zero = record { low = omega arith; high = omega arith; before = λ i a b. absurd (omega arith); here = λ h. absurd (omega arith) }
  place k (suc n) = go (f k) refl (place (suc k) n)
    where
      go : (t : Bool) → f k ≡ t → Place (suc k) n (place_from f (suc k) n) → Place k (suc n) (pick t k (place_from f (suc k) n))
      go true e r = record { low = omega arith; high = omega arith; before = λ i a b. absurd (omega arith); here = λ h. e }
      go false e r = record {
        low = omega (arith, r.low);
        high = omega (arith, r.high);
        before = λ i a b. ⊎_elim (λ (h : k < i). r.before i h b) (λ (h : i ≤ k). subst (λ (x : ℕ). f x ≡ false) (omega arith) e) (sides k i);
        here = λ h. r.here (omega arith);
      }

-- a loop that looks among the n places from 0 on, and has passed k of them: the answer is that for the rest
pub record Passed (f : ℕ → Bool) (n k : ℕ) : Type 0 where
  pub within : k ≤ n
  pub rest : place_from f 0 n ≡ place_from f k (n - k)

pub passed_none : (f : ℕ → Bool) (n : ℕ) → Passed f n 0
passed_none f n = record { within = omega arith; rest = ap (place_from f 0) (omega arith) }

module _ {f : ℕ → Bool} {n k : ℕ} (passed : Passed f n k) where
  pub passed-more : k < n → f k ≡ false → Passed f n (k + 1)
  passed-more h e =
      let a : n - k ≡ suc (n - (k + 1)) = omega arith in
      record { within = omega arith; rest = passed.rest ∙ rw (a, add-one) (place_from-passed f k (n - suc k) e) }

  pub passed-found : k < n → f k ≡ true → (k ≡ place_from f 0 n) × (k ≤ n)
  passed-found h e =
      let a : n - k ≡ suc (n - (k + 1)) = omega arith in
      (sym (passed.rest ∙ rw a (place_from-found f k (n - (k + 1)) e)), passed.within)

  pub passed-all : n ≤ k → (k ≡ place_from f 0 n) × (k ≤ n)
  passed-all h =
      let a : n - k ≡ 0 = omega arith in
      (sym (passed.rest ∙ rw a (place_from-none f k)), passed.within)
