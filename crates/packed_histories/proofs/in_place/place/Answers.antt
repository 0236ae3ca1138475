-- The bytes of the place have the number.
use Rattle.std.proofs.Common.{◌∙◌, arith}
use Rattle.marks.specs.Packed.{width, places}
use Rattle.marks.proofs.Placed.{place_here}
use Rattle.packed_histories.proofs.in_place.place.Goals as goal

pub returns : goal.returns
returns c = c.load16.ensures ∙ place_here width places _ _ (omega arith) _ (omega arith)
