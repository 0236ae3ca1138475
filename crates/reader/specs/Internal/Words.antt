-- What the functions that read a line cite.
use Rattle.std.specs.Prelude.{ℕ, ◌≡◌, true, false, Option, MatchOption, List}
use Rattle.rules.specs.declared.Step.{Step}
use Rattle.notation.specs.Reading.{fits, with_item}

-- the step p with what the word w says for item c, if it can stand for it
abbrev pub SaidBy : ℕ → List ℕ → Step → Option Step → Type 0
SaidBy c w p r = MatchOption r (fits c w ≡ false) (λ q. (fits c w ≡ true) × (q ≡ with_item c w p))
