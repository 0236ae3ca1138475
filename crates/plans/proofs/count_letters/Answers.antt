use Rattle.std.proofs.Common.{arith, ◌≡◌, ◌∙◌}
use Rattle.rules.proofs.Groups.Counting.{many-none, many-on, many-off}
use Rattle.plans.proofs.Writing.{wake-on, wake-off, letters-is}
use Rattle.plans.proofs.count_letters.Goals as goal
use Rattle.plans.proofs.count_letters.Goals.{in-Some-Wake, in-Some+in-Freeze-1, in-None-1}

pub loop-c-init : goal.loop-c-init
loop-c-init c = (many-none _, omega arith)

pub loop-c-preserved : goal.loop-c-preserved
loop-c-preserved c =
    let b = c.loop-c.invariant in
    elim c.match-task_for.branch [
      | in-Some-Wake w ↦ (w.n-is ∙ many-on _ _ _ b.0 (wake-on _ _ _ _ c.task_for.ensures cc), omega (arith, w.n-is, b.1))
      | in-Some+in-Freeze-1 w ↦ (w.n-is ∙ many-off _ _ _ b.0 (wake-off _ _ _ _ c.task_for.ensures (λ e. cc)), omega (arith, w.n-is, b.1))
      | in-None-1 w ↦ (w.n-is ∙ many-off _ _ _ b.0 (wake-off _ _ _ _ c.task_for.ensures (λ e. cc)), omega (arith, w.n-is, b.1))
    ]

pub returns : goal.returns
returns c = let l = c.loop-c.invariant in let e : c.loop-c.c ≡ 16 = omega arith in (letters-is _ _ _ (rw e at l.0), omega (arith, l.1))
