-- Opened, and the next parcel.
use Rattle.lines.proofs.Lining.{written-empty}
use Rattle.inspection.specs.Inspection.{counters_text}
use Rattle.inspection.proofs.Inspecting.{two-say}
use borrow.Author.Rules.{rules}
use Rattle.inspection.proofs.counters.Goals as goal

pub returns : goal.returns
unfolding counters_text
returns c = two-say _ (search rules) _ _ _ (written-empty _) _ _ _ _ _ _ c.opened-opened.ensures c.next-next.ensures c.put.ensures c.put-2.ensures c.byte.ensures (search rules)
