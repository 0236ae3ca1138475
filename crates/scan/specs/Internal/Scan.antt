-- What the functions that scan a line cite.
use Rattle.std.specs.Prelude.{ℕ, ◌≡◌, ◌≤◌, true, false, Option, MatchOption, List}
use Rattle.notation.specs.Reading.{is_number, of_decimal}

-- the number of the word w, if it is one of at most most
abbrev pub Bounded : ℕ → List ℕ → Option ℕ → Type 0
Bounded most w r = MatchOption r (is_number most w ≡ false) (λ n. (is_number most w ≡ true) × (n ≡ of_decimal 0 w) × (n ≤ most))
