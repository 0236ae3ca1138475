-- `find` over the first n places is the search for a place.
use Rattle.std.proofs.Common.{◌≡◌, ℕ, ◌≤◌, ◌<◌, Bool, true, false, Option, Some, None, MatchOption, unwrap_or, sym, arith}
use Rattle.rules.specs.State.{place_from}
use Rattle.rules.proofs.Places.{place_from-is}
use Rattle.image.specs.Internal.Search.{Found}

module _ (f : ℕ → Bool) (n : ℕ) where
  -- what `first_from_Range` says, of the test f
  abbrev pub First : Option ℕ → Type 0
  First r = MatchOption r ((k : ℕ) → 0 ≤ k → k < n → f k ≡ false) (λ i. (0 ≤ i) × (i < n) × (f i ≡ true) × ((k : ℕ) → 0 ≤ k → k < i → f k ≡ false))

  pub found : (r : Option ℕ) → First r → Found (place_from f 0 n) n r
  found None h = place_from-is f 0 n n (omega arith) (omega arith) h (λ lt. absurd (omega arith))
  found (Some i) h = (sym (place_from-is f 0 n i (omega arith) (omega arith) h.3 (λ lt. h.2)), h.1)

  -- the same as a number: n where there is none
  pub found_or_all : (r : Option ℕ) → First r → (unwrap_or r n ≡ place_from f 0 n) × (unwrap_or r n ≤ n)
  found_or_all None h = (sym (found None h), omega arith)
  found_or_all (Some i) h = ((found (Some i) h).0, omega (arith, h.1))
