use Rattle.std.proofs.Common.{rules, arith, sym, ◌-◌, ◌∙◌}
use lib.Bits.{and_le_r}
use Rattle.needs.proofs.Counting.{counted_none, counted-few, counted-end, counted-other, counted-on, counted-off}
use Rattle.needs.proofs.closure.count.Goals as goal
use Rattle.needs.proofs.closure.count.Goals.{then-group-size+then-meets, else-group-size, else-group-size-via-then-group-size+else-meets, else-group-size-via-else-group-size}

pub loop-group-init : goal.loop-group-init
loop-group-init c = (search rules, counted_none _ _ _ (search rules))

pub overflow_add-n : goal.overflow_add-n
overflow_add-n c = omega (arith, counted-few c.loop-group.invariant.1)

pub loop-group-preserved : goal.loop-group-preserved
loop-group-preserved c =
    let l = c.loop-group in (
      and_le_r (l.group - 1) c.args.needs.able,
      elim c.if-group-size.branch [
        | then-group-size+then-meets w ↦ rw w.n-is (counted-on l.invariant.1 (search rules) (search rules) w.if-group-size.true (sym w.meets.ensures ∙ w.if-meets.true))
        | else-group-size w ↦ rw w.n-is (elim w.else-group-size.branch [
          | else-group-size-via-then-group-size+else-meets x ↦ counted-off l.invariant.1 (search rules) (search rules) x.if-group-size.true (sym x.meets.ensures ∙ x.if-meets.false)
          | else-group-size-via-else-group-size x ↦ counted-other l.invariant.1 (search rules) (search rules) x.if-group-size.false
        ])
      ],
    )

pub returns : goal.returns
returns c = counted-end c.loop-group.invariant.1 (omega arith) (search rules)
