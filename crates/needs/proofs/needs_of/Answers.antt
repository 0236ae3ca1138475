use Rattle.std.proofs.Common.{arith, refl, ◌≡◌}
use Rattle.rules.specs.Layout.{base}
use Rattle.rules.specs.Refusals.{group_bits}
use Rattle.rules.proofs.Bits.{shifted}
use Rattle.rules.proofs.Groups.Needs.{gathered-all, gathered-able, gathered-off}
use Rattle.group.proofs.Presenting.{all_stable}
use Rattle.needs.proofs.needs_of.Goals as goal
use Rattle.needs.proofs.needs_of.Goals.{in-Some, in_default}

pub loop-t-preserved : goal.loop-t-preserved
loop-t-preserved c =
    let l = c.loop-t in
    elim c.match-need_of.branch [
      | in-Some w ↦ rw (w.list-is, w.able-is) (gathered-able l.invariant c.loop-t-test.true w.in-Some.ensures _ (shifted _ group_bits c.loop-t-test.true))
      | in_default w ↦ rw (w.list-is, w.able-is) (gathered-off l.invariant w.in_default.ensures)
    ]

pub returns : goal.returns
returns c =
    let e : c.loop-t.t ≡ 16 = omega arith in
    gathered-all (rw e at c.loop-t.invariant) (all_stable base _ refl c.presents-kept.ensures)
