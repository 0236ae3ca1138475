use Rattle.impediments.proofs.Reaching.{reached-first, reached-more}
use Rattle.impediments.proofs.ways.reach_of.Goals as goal

pub loop-k-init : goal.loop-k-init
loop-k-init c = let d = c.direct-reach.ensures in reached-first _ c.all_resting.ensures d.0 d.1

pub loop-k-preserved : goal.loop-k-preserved
loop-k-preserved c = let d = c.one_more-reach.ensures in reached-more c.loop-k.invariant c.loop-k-test.true c.requires d.0 d.1
