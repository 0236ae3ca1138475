-- Kept, its eight bytes.
use Rattle.thin.proofs.Gathering.{placed}
use Rattle.thin.proofs.place.Goals as goal

pub returns : goal.returns
returns c = placed c.if-not-kept.false c.write.ensures
