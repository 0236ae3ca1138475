-- One history more.
use Rattle.std.proofs.Common.{arith}
use Rattle.octets.proofs.Chunks.{put-none}
use Rattle.recast.proofs.Stores.{histories-more, histories-all}
use Rattle.recast.proofs.histories.Goals as goal

pub loop-i-init : goal.loop-i-init
loop-i-init g c = put-none _ _ _

pub loop-i-preserved : goal.loop-i-preserved
loop-i-preserved g c = histories-more _ _ 15 _ _ _ c.requires.1 _ _ _ _ c.loop-i.invariant c.loop-i-test.true _ c.history.ensures c.requires.2

pub returns : goal.returns
returns g c = histories-all _ _ 15 _ _ _ c.requires.1 _ _ _ _ c.loop-i.invariant (omega arith)
