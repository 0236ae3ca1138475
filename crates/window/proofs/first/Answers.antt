-- One reply more: the laws of the count.
use Rattle.std.proofs.Common.{rules}
use Rattle.window.proofs.Windows.{rollbacks-none, rollbacks-more, rollbacks-sum}
use Rattle.window.proofs.first.Goals as goal

pub loop-i-init : goal.loop-i-init
loop-i-init c = rollbacks-none _ _

pub overflow_add-count : goal.overflow_add-count
overflow_add-count c = let h = rollbacks-sum _ _ _ _ _ _ c.loop-i.invariant c.rollback-count.ensures in search rules

pub loop-i-preserved : goal.loop-i-preserved
loop-i-preserved c = rollbacks-more _ _ _ _ c.loop-i.invariant c.rollback-count.ensures
