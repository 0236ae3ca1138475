-- The two numbers of eight bytes.
use Rattle.std.proofs.Common.{arith}
use Rattle.octets.proofs.Put.{octets-of}
use Rattle.octets.proofs.Alike.{same-8}
use Rattle.octets.proofs.same8.Goals as goal

pub returns : goal.returns
returns c = same-8 _ (octets-of _ c.type_inv.s) _ _ _ _ (omega arith) (omega arith) c.word.ensures c.word-2.ensures
