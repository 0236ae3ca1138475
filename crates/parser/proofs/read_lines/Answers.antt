use Rattle.std.proofs.Common.{arith, rules}
use Rattle.parser.proofs.Loops.{upto-start, upto-end, upto-fault, upto-again, said-fits, lack-inside, turn-wide, cut_inside}
use Rattle.parser.proofs.read_lines.Goals as goal

pub loop-from-init : goal.loop-from-init
loop-from-init c = upto-start _ _ _ _

pub slice_bounds-line_of-end : goal.slice_bounds-line_of-end
slice_bounds-line_of-end c = let h = cut_inside _ _ _ (omega arith) c.find-end.ensures in search rules

pub overflow_add-result : goal.overflow_add-result
overflow_add-result c = omega (arith, lack-inside _ _ _ _ _ _ _ _ c.loop-from.invariant c.loop-from-test.true _ c.find-end.ensures c.in-Err.lack c.in-Err.ensures)

pub returns-in-Err : goal.returns-in-Err
returns-in-Err c = upto-fault _ _ _ _ _ _ _ _ c.loop-from.invariant c.loop-from-test.true _ c.find-end.ensures c.in-Err.lack c.in-Err.ensures

pub put_line-at-requires : goal.put_line-at-requires
put_line-at-requires c = (
  turn-wide _ _ _ _ _ _ _ _ c.loop-from.invariant c.loop-from-test.true _ c.find-end.ensures _ c.requires,
  said-fits _ _ _ _ _ _ _ _ c.loop-from.invariant c.loop-from-test.true _ c.find-end.ensures c.in-Ok.said c.in-Ok.ensures,
)

pub overflow_add-line : goal.overflow_add-line
overflow_add-line c = omega (arith, c.loop-from.invariant.number)

pub overflow_add-from : goal.overflow_add-from
overflow_add-from c = let h = cut_inside _ _ _ c.loop-from-test.true c.find-end.ensures in omega arith

pub loop-from-smaller : goal.loop-from-smaller
loop-from-smaller c = omega (arith, c.find-end.ensures)

pub loop-from-preserved : goal.loop-from-preserved
loop-from-preserved c =
    upto-again _ _ _ _ _ _ _ _ c.loop-from.invariant c.loop-from-test.true _ c.find-end.ensures c.in-Ok.said c.in-Ok.ensures
    c.requires _ _ c.put_line-at.auto.out c.put_line-at.ensures

pub returns : goal.returns
returns c = upto-end _ _ _ _ _ _ _ _ c.loop-from.invariant c.loop-from-test.false
