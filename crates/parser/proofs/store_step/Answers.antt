use Rattle.parser.proofs.Loops.{packed-put}
use Rattle.parser.proofs.store_step.Goals as goal

pub returns : goal.returns
returns c = packed-put _ _ _ _ c.write.ensures
