-- Its refusal and its answer, each by its number.
use Rattle.std.proofs.Common.{◌≡◌, ◌∙◌}
use Rattle.std.specs.Prelude.{Result, Ok, Err, MatchResult}
use Rattle.rules.specs.declared.refusals.Refusal.{Refusal}
use Rattle.decisive.specs.declared.Compared.{Compared}
use Rattle.decisive.specs.Compared.{compared_in}
use Rattle.looking_c.proofs.looking_compare.Goals as goal

said : (r : Result Compared Refusal) (d : Compared) → MatchResult r (λ a. d ≡ a) (λ e. d ≡ record { relation = 0; newer = 0 }) → d ≡ compared_in r
said (Ok a) d h = h
said (Err e) d h = h

pub returns : goal.returns
returns c = (c.told.ensures.number ∙ c.compare.ensures.0, said _ _ c.told.ensures.answer ∙ c.compare.ensures.1)
