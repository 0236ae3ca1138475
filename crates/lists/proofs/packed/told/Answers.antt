-- Field by field.
use Rattle.lists.proofs.Decoding.{told-fields}
use Rattle.lists.proofs.packed.told.Goals as goal

pub returns : goal.returns
returns c = told-fields _ _ _ c.load16-message.ensures
