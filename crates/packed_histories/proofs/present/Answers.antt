-- The first byte has the bit.
use Rattle.std.proofs.Common.{arith}
use Rattle.marks.specs.Packed.{width, places}
use Rattle.marks.proofs.Placed.{present-here}
use Rattle.packed_histories.proofs.present.Goals as goal

pub returns : goal.returns
returns c = present-here width places _ _ (omega arith)
