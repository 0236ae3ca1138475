-- The first byte has the count.
use Rattle.std.proofs.Common.{◌∙◌, arith}
use Rattle.marks.specs.Packed.{width, places}
use Rattle.marks.proofs.Placed.{count-here}
use Rattle.packed_histories.proofs.in_place.count.Goals as goal

pub returns : goal.returns
returns c = (c.from.ensures ∙ count-here width places _ _ (omega arith), omega (arith, c.from.ensures))
