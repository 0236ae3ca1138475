-- What a search among the first places answers.
use Rattle.std.specs.Prelude.{ℕ, ◌≡◌, ◌<◌, Option, MatchOption}

-- place p of the n looked at, or nothing where the search ended at n
abbrev pub Found : ℕ → ℕ → Option ℕ → Type 0
Found p n r = MatchOption r (p ≡ n) (λ k. (k ≡ p) × (k < n))
