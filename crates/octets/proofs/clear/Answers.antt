-- The bytes that are filled are n zeros.
use Rattle.std.proofs.Common.{arith, length-take, length-drop}
use Rattle.octets.proofs.Move.{cleared}
use Rattle.octets.proofs.clear.Goals as goal

pub returns : goal.returns
returns c = cleared _ _ _ _ _ _ (c.fill.ensures.after (λ y e. e)) (simp (length-take, length-drop) (omega arith)) (omega arith)
