-- The bytes stand in the list.
use Rattle.octets.proofs.Alike.{word-is}
use Rattle.octets.proofs.word.Goals as goal

pub returns : goal.returns
returns c = word-is _ _ _ c.from_le_bytes.ensures
