-- Takes, parcels and signings.
use Rattle.lines.proofs.Lining.{written-empty}
use Rattle.inspection.specs.Inspection.{limits_text}
use Rattle.inspection.proofs.Inspecting.{three-say}
use borrow.Author.Rules.{rules}
use Rattle.inspection.proofs.session_limits.Goals as goal

pub returns : goal.returns
unfolding limits_text
returns c = three-say _ (search rules) _ _ _ (written-empty _) _ _ _ _ _ _ c.transactors-transactors.ensures c.messages-messages.ensures c.put.ensures c.put-said.ensures _ _ _ _ c.checkpoints-checkpoints.ensures c.put-2.ensures c.byte.ensures (search rules)
