-- The bytes after the first have the number.
use Rattle.std.proofs.Common.{◌∙◌, arith}
use Rattle.marks.specs.Packed.{width, places}
use Rattle.marks.proofs.Placed.{number-here}
use Rattle.packed_histories.proofs.in_place.number.Goals as goal

pub returns : goal.returns
returns c = c.load16.ensures ∙ number-here width places _ _ (omega arith)
