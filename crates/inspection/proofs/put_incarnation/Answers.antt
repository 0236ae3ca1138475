-- In brackets: the list, and the life number.
use Rattle.inspection.proofs.Inspecting.{incarnation-said}
use Rattle.inspection.proofs.put_incarnation.Goals as goal

pub returns : goal.returns
returns c = incarnation-said _ _ _ _ _ _ c.byte.ensures c.list-listed.ensures c.put.ensures c.byte-2.ensures
