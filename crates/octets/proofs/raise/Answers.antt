-- The bytes that are copied are put.
use Rattle.std.proofs.Common.{arith, ◌∙◌}
use Rattle.octets.proofs.Move.{moved}
use Rattle.octets.proofs.raise.Goals as goal

pub returns : goal.returns
returns c = c.copy_within.ensures.after ∙ moved _ _ _ _ _ (omega arith) (omega arith)
