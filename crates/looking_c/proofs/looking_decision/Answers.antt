-- Its refusal and its answer, each by its number.
use Rattle.std.proofs.Common.{◌≡◌, ◌∙◌}
use Rattle.std.specs.Prelude.{Result, Ok, Err, MatchResult}
use Rattle.rules.specs.declared.refusals.Refusal.{Refusal}
use Rattle.decisive.specs.declared.Decision.{Decision}
use Rattle.decisive.specs.Decision.{decision_in}
use Rattle.looking_c.proofs.looking_decision.Goals as goal

said : (r : Result Decision Refusal) (d : Decision) → MatchResult r (λ a. d ≡ a) (λ e. d ≡ record { outcome = 0; transactor = 0 }) → d ≡ decision_in r
said (Ok a) d h = h
said (Err e) d h = h

pub returns : goal.returns
returns c = (c.told.ensures.number ∙ c.decide.ensures.0, said _ _ c.told.ensures.answer ∙ c.decide.ensures.1)
