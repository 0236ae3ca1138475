-- The zeros are put right behind the bytes that were moved.
use Rattle.std.proofs.Common.{arith}
use Rattle.octets.proofs.Move.{removed}
use Rattle.octets.proofs.remove.Goals as goal

pub returns : goal.returns
returns c = removed _ _ _ _ _ _ (omega arith) c.lower.ensures c.clear.ensures
