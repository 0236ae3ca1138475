-- The word, then the number.
use Rattle.inspection.proofs.Inspecting.{piece-said}
use Rattle.inspection.proofs.put.Goals as goal

pub returns : goal.returns
returns c = piece-said _ _ _ _ _ c.word.ensures c.number.ensures
