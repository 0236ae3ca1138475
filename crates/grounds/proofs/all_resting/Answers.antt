use Rattle.std.proofs.Common.{arith, ◌≡◌}
use Rattle.rules.specs.Layout.{base}
use Rattle.grounds.proofs.Words.{listed_none, listed-more}
use Rattle.grounds.proofs.all_resting.Goals as goal

pub loop-u-init : goal.loop-u-init
loop-u-init c = listed_none base _ _

pub loop-u-preserved : goal.loop-u-preserved
loop-u-preserved c = listed-more c.loop-u.invariant (omega arith) _ c.resting.ensures

pub returns : goal.returns
returns c = let e : c.loop-u.u ≡ 16 = omega arith in rw e at c.loop-u.invariant
