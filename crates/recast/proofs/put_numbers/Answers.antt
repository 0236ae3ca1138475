-- One number more.
use Rattle.std.proofs.Common.{arith}
use Rattle.octets.proofs.Chunks.{step, put-none}
use Rattle.marks.proofs.Placed.{number_put, numbers-put}
use Rattle.recast.proofs.put_numbers.Goals as goal

pub loop-i-init : goal.loop-i-init
loop-i-init g c = put-none _ _ _

pub loop-i-preserved : goal.loop-i-preserved
loop-i-preserved g c =
    number_put _ _ _ _ _ _ _ c.loop-i.invariant c.put_number.ensures (omega (arith, step g.row.W c.loop-i.i 16 c.loop-i-test.true))

pub returns : goal.returns
returns g c = numbers-put _ _ _ _ _ _ _ c.loop-i.invariant (omega arith)
