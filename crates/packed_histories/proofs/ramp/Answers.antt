-- Ones, the first half of them cleared.
use Rattle.marks.specs.Packed.{width, places, rest_size}
use Rattle.marks.proofs.Masked.{ramp-made}
use Rattle.packed_histories.proofs.ramp.Goals as goal

pub returns : goal.returns
returns c = ramp-made (rest_size width places) _ c.clear.ensures
