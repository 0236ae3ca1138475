use Rattle.std.proofs.Common.{arith, rules, ◌≡◌}
use Rattle.plans.proofs.Writing.{stored-none, stored_more}
use Rattle.plans.proofs.store_tasks.Goals as goal

pub loop-c-init : goal.loop-c-init
loop-c-init c = (stored-none _ _ _ _ c.next-number.ensures, search rules)

pub store_task-at-requires : goal.store_task-at-requires
store_task-at-requires c = let i = c.loop-c.invariant in (omega (arith, i.0.short, c.requires, c.loop-c-test.true), c.loop-c-test.true)

pub number_after-number-requires : goal.number_after-number-requires
number_after-number-requires c = let i = c.loop-c.invariant in omega (arith, i.1, c.loop-c-test.true)

pub loop-c-preserved : goal.loop-c-preserved
loop-c-preserved c =
    let i = c.loop-c.invariant in
    (stored_more i.0 c.loop-c-test.true c.requires c.task_for-task.ensures c.store_task-at.ensures.0 c.store_task-at.ensures.1 c.number_after-number.ensures.0, omega (arith, i.1, c.number_after-number.ensures.1))

pub returns : goal.returns
returns c = let i = c.loop-c.invariant in let e : c.loop-c.c ≡ 16 = omega arith in (rw e at i.0.written, omega (arith, i.0.short, e))
