-- Field by field.
use Rattle.lists.proofs.Decoding.{step-fields}
use Rattle.lists.proofs.packed.decode.Goals as goal

pub returns : goal.returns
returns c = step-fields _ _ _ _ c.load16-message.ensures c.load32-value.ensures
