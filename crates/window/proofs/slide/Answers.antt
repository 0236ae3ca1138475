-- One place further: the laws of the count that moves along and of the worst so far.
use Rattle.std.proofs.Common.{rules}
use Rattle.window.proofs.Windows.{rollbacks-sum, rollbacks-moved, rollbacks-left, up_to-first, up_to-more}
use Rattle.window.proofs.slide.Goals as goal

pub loop-place-init : goal.loop-place-init
loop-place-init c = record { counted = c.first-count.ensures; best_so_far = up_to-first _ _ _ c.first-count.ensures }

pub overflow_add-count : goal.overflow_add-count
overflow_add-count c = let h = rollbacks-sum _ _ _ _ _ _ c.loop-place.invariant.counted c.rollback.ensures in search rules

pub overflow_sub-count : goal.overflow_sub-count
overflow_sub-count c = rollbacks-left _ _ _ _ _ _ c.loop-place.invariant.counted c.rollback.ensures c.rollback-in-loop-place.ensures

pub loop-place-preserved : goal.loop-place-preserved
loop-place-preserved c =
    let e = rollbacks-moved _ _ _ _ _ _ c.loop-place.invariant.counted c.rollback.ensures c.rollback-in-loop-place.ensures in
    record { counted = e; best_so_far = up_to-more _ _ _ _ _ _ c.loop-place.invariant.best_so_far e c.worse-best.ensures }
