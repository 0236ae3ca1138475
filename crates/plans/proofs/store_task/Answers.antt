-- No step; one; or three, each behind the one before.
use Rattle.std.proofs.Common.{arith, ◌≡◌, ◌∙◌, ap, Option, Some}
use Rattle.plans.specs.declared.Task.{Task}
use Rattle.plans.specs.declared.Task.TheVariants.{Freeze, Wake}
use Rattle.plans.proofs.Writing.{tasked-none, tasked-freeze, tasked-wake}
use Rattle.plans.proofs.store_task.Goals as goal

pub returns-in_default : goal.returns-in_default
returns-in_default c = rw c.in_default.is (tasked-none c.args.at c.args.c c.args.number c.args.out.now, omega arith)

pub returns-in-Freeze : goal.returns-in-Freeze
returns-in-Freeze c =
    let e : ◌≡◌ {A = Option Task} c.args.task (Some Freeze) = c.in-Some.is ∙ ap Some c.in-Freeze.is in
    rw e (tasked-freeze c.args.at c.args.c c.args.number _ _ c.store.ensures, omega arith)

pub returns-in-Wake : goal.returns-in-Wake
returns-in-Wake c =
    let e : ◌≡◌ {A = Option Task} c.args.task (Some Wake) = c.in-Some.is ∙ ap Some c.in-Wake.is in
    rw e (tasked-wake _ _ _ _ c.requires.0 _ _ _ c.store-in-Wake.ensures c.store-in-Wake-2.ensures c.store-in-Wake-3.ensures, omega arith)
