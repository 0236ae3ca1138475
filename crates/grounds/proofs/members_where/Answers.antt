use Rattle.rules.specs.Refusals.{group_bits}
use Rattle.rules.proofs.Bits.{shifted}
use Rattle.grounds.proofs.Words.{marked-on, marked-off}
use Rattle.grounds.proofs.members_where.Goals as goal
use Rattle.grounds.proofs.members_where.Goals.{then-holds, else-holds}

pub loop-t-preserved : goal.loop-t-preserved
loop-t-preserved g c = elim c.if-holds.branch [
  | then-holds w ↦ rw w.group-is (marked-on c.loop-t.invariant _ (shifted _ group_bits c.loop-t-test.true) (rw w.if-holds.true at c.holds.ensures))
  | else-holds w ↦ rw w.group-is (marked-off c.loop-t.invariant (rw w.if-holds.false at c.holds.ensures))
]
