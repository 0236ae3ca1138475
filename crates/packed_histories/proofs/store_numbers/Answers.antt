-- One place more.
use Rattle.std.proofs.Common.{arith}
use Rattle.octets.proofs.Chunks.{put-none}
use Rattle.marks.proofs.Placed.{number_put, numbers-put}
use Rattle.packed_histories.proofs.store_numbers.Goals as goal

pub loop-i-init : goal.loop-i-init
loop-i-init c = put-none _ _ _

pub loop-i-preserved : goal.loop-i-preserved
loop-i-preserved c = number_put _ _ _ _ _ _ _ c.loop-i.invariant c.store16.ensures (omega arith)

pub returns : goal.returns
returns c = numbers-put _ _ _ _ _ _ _ c.loop-i.invariant (omega arith)
