-- One byte, or two.
use Rattle.std.proofs.Common.{arith}
use Rattle.recast.proofs.Turns.{byte_put}
use Rattle.recast.proofs.put_number.Goals as goal

pub returns-then-this-eq1 : goal.returns-then-this-eq1
returns-then-this-eq1 g c = byte_put _ _ _ _ c.if-this-eq1.true (omega arith)
