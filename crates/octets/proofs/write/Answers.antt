-- The part is src.
use Rattle.std.proofs.Common.{arith}
use Rattle.octets.proofs.Move.{placed}
use Rattle.octets.proofs.write.Goals as goal

pub returns : goal.returns
returns c = rw c.copy_from_slice.ensures.after (placed _ _ _ _ (omega arith))
