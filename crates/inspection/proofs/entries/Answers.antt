use Rattle.std.proofs.Common.{arith, rules}
use Rattle.inspection.proofs.Inspecting.{entries_none, entries-more, entries-all}
use Rattle.inspection.proofs.entries.Goals as goal

pub loop-i-init : goal.loop-i-init
loop-i-init c = record { said = entries_none _ _; sized = search rules }

pub loop-i-preserved : goal.loop-i-preserved
loop-i-preserved c = record {
  said = entries-more _ _ _ _ _ c.loop-i.invariant.said c.byte.ensures c.number-r.ensures;
  sized = search rules;
}

pub returns : goal.returns
returns c = entries-all _ _ _ c.loop-i.invariant.said (omega arith) c.requires c.loop-i.invariant.sized
