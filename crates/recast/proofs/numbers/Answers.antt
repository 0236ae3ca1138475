-- One number more.
use Rattle.std.proofs.Common.{arith}
use Rattle.octets.proofs.Chunks.{fill_none}
use Rattle.marks.proofs.Placed.{number-filled, numbers-filled}
use Rattle.recast.proofs.numbers.Goals as goal

pub loop-i-init : goal.loop-i-init
loop-i-init g c = fill_none _

pub loop-i-preserved : goal.loop-i-preserved
loop-i-preserved g c = number-filled _ _ _ _ _ _ c.loop-i.invariant c.number.ensures (omega arith)

pub returns : goal.returns
returns g c = numbers-filled _ _ _ _ _ _ c.loop-i.invariant (omega arith) (omega arith)
