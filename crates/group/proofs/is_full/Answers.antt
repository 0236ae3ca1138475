-- As many checkpoints as the session allows.
use Rattle.rules.proofs.Groups.Ready.{full_is}
use Rattle.group.proofs.is_full.Goals as goal

pub returns : goal.returns
returns c = rw c.checkpoints.ensures (full_is _ _ _ c.count.ensures)
