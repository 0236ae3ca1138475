-- Field by field.
use Rattle.std.proofs.Common.{arith}
use Rattle.marks.specs.Packed.{width, places}
use Rattle.marks.proofs.Placed.{load-history}
use Rattle.packed_histories.proofs.load.Goals as goal

pub returns : goal.returns
returns c = load-history width places _ _ (omega arith) _ _ c.load16.ensures c.load_numbers.ensures
