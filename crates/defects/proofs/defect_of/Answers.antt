-- The front, or the transactors, or the messages.
use Rattle.std.proofs.Common.{rules, ◌∙◌, sym, arith}
use Rattle.rules.specs.Layout.{base}
use Rattle.defects.proofs.Finding.{in-front, in-transactors, in-messages}
use Rattle.defects.proofs.Sound.{front-room}
use Rattle.defects.proofs.defect_of.Goals as goal

pub returns-in-Some : goal.returns-in-Some
returns-in-Some c = in-front _ _ c.in-Some.ensures

pub invariant_of-front : goal.invariant_of-front
invariant_of-front c = record {
  headed = record { long = search rules; many = search rules; most = search rules; within = omega (arith, c.checkpoints.ensures, front-room base _ (sym c.in_default.is ∙ c.head_defect.ensures)) };
  waits = search rules;
  numbered = search rules;
}

pub returns-in-Some-transactors : goal.returns-in-Some-transactors
returns-in-Some-transactors c = in-transactors _ (sym c.in_default.is ∙ c.head_defect.ensures) _ (sym c.in-Some-transactors.is ∙ c.transactors.ensures)

pub returns : goal.returns
returns c = in-messages _ (sym c.in_default.is ∙ c.head_defect.ensures) (sym c.in_default-transactors.is ∙ c.transactors.ensures) _ c.all_messages.ensures
