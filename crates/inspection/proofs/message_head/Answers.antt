-- Number, addressee and text.
use Rattle.lines.proofs.Lining.{written-empty}
use Rattle.inspection.specs.Inspection.{message_text}
use Rattle.inspection.proofs.Inspecting.{three-say}
use borrow.Author.Rules.{rules}
use Rattle.inspection.proofs.message_head.Goals as goal

pub returns : goal.returns
unfolding message_text
returns c = three-say _ (search rules) _ _ _ (written-empty _) _ _ _ _ _ _ c.number_of-number.ensures c.addressee-to.ensures.0 c.put.ensures c.put-sent.ensures _ _ _ _ c.content-text.ensures c.put-2.ensures c.byte.ensures (search rules)
