-- Field by field.
use Rattle.lists.proofs.Decoding.{reply-fields}
use Rattle.lists.proofs.packed.decode_reply.Goals as goal

pub returns : goal.returns
returns c = reply-fields _ _ _ _ c.load16-message.ensures c.load32-value.ensures
