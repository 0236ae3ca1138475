-- The bytes, one by one.
use Rattle.std.proofs.Common.{arith}
use Rattle.octets.proofs.Numbers.{four_bytes}
use Rattle.octets.proofs.load32.Goals as goal

pub returns : goal.returns
returns c = rw four_bytes (omega (arith, c.from_be_bytes.ensures))
