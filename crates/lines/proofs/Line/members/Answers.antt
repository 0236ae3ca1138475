use Rattle.std.proofs.Common.{arith, rules, refl}
use Rattle.lines.proofs.Lining.{plus_none, plus-settled, member-more, members-all}
use Rattle.lines.proofs.Line.members.Goals as goal

pub loop-t-init : goal.loop-t-init
loop-t-init c = record { all = refl; fits = plus_none _ (search rules) }

pub loop-t-preserved : goal.loop-t-preserved
loop-t-preserved c = record {
  all = member-more _ _ _ _ _ c.loop-t.invariant.all c.member-r.ensures (omega arith);
  fits = plus-settled _ _ _ c.member-r.ensures;
}

pub returns : goal.returns
returns c = members-all _ _ _ _ c.loop-t.invariant.all c.loop-t.invariant.fits (omega arith)
