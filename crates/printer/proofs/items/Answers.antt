use Rattle.std.proofs.Common.{arith, rules, refl}
use Rattle.lines.proofs.Lining.{plus_none, plus-settled}
use Rattle.printer.proofs.Printer.{items-all, items_more}
use Rattle.printer.proofs.items.Goals as goal

pub loop-i-init : goal.loop-i-init
loop-i-init c = record { all = refl; fits = plus_none _ (search rules) }

pub loop-i-preserved : goal.loop-i-preserved
loop-i-preserved c = record {
  all = items_more _ _ c.loop-i.i-index _ _ c.loop-i.invariant.all c.loop-i-test.true _ _ refl _ _ c.byte.ensures c.item-r.ensures;
  fits = plus-settled _ _ _ c.item-r.ensures;
}

pub returns : goal.returns
returns c = rw (← c.template_of-i-items.ensures) (items-all _ _ c.loop-i.i-index _ _ c.loop-i.invariant.all c.loop-i.invariant.fits (omega arith))
