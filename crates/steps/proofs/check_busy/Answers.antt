-- What the image says of the transactor.
use Rattle.std.proofs.Common.{◌∙◌}
use Rattle.steps.proofs.Images.{busy-in}
use Rattle.steps.proofs.check_busy.Goals as goal

pub returns : goal.returns
returns c = busy-in _ _ _ _ _ c.busy.ensures c.opened.ensures (c.number-status.ensures.number ∙ c.status.ensures)
