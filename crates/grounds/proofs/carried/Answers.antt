use Rattle.std.proofs.Common.{arith, sym, ◌∙◌}
use Rattle.rules.proofs.Groups.Counting.{many-none, many-on, many-off}
use Rattle.grounds.proofs.carried.Goals as goal
use Rattle.grounds.proofs.carried.Goals.{then-carries, else-carries}

pub loop-k-init : goal.loop-k-init
loop-k-init c = (many-none _, omega arith)

pub loop-k-preserved : goal.loop-k-preserved
loop-k-preserved c =
    let b = c.loop-k.invariant in
    elim c.if-carries.branch [
      | then-carries w ↦ (w.count-is ∙ many-on _ _ _ b.0 (sym c.carries.ensures ∙ w.if-carries.true), omega (arith, w.count-is, b.1))
      | else-carries w ↦ (w.count-is ∙ many-off _ _ _ b.0 (sym c.carries.ensures ∙ w.if-carries.false), omega (arith, w.count-is, b.1))
    ]
