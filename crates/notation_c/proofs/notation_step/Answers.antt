-- The line of the step.
use Rattle.notation_c.proofs.Giving.{gives}
use Rattle.notation_c.proofs.notation_step.Goals as goal

pub returns : goal.returns
returns c = gives _ _ _ _ _ c.step_line.ensures (c.give.ensures.answer, c.give.ensures.left)
