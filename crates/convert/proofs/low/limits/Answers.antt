-- A limit other than that of the old form, or the last is what is left.
use Rattle.std.proofs.Common.{◌∙◌, sym}
use borrow.Author.Tests.{eqb-true, eqb-false}
use Rattle.convert.proofs.Within.{transactors-other, messages-other, checkpoints-left}
use Rattle.convert.proofs.low.limits.Goals as goal
use Rattle.convert.proofs.low.limits.Goals.{then-from-eq-TRANSACTORS, else-from-eq-TRANSACTORS}

pub returns-then-from-eq-MESSAGES : goal.returns-then-from-eq-MESSAGES
returns-then-from-eq-MESSAGES c =
    let a = c.from.ensures ∙ c.transactors.ensures in
    elim c.if-from-eq-TRANSACTORS.branch [
      | then-from-eq-TRANSACTORS w ↦
          checkpoints-left _ _ a w.if-from-eq-TRANSACTORS.true _ (w.from-then-from-eq-TRANSACTORS.ensures ∙ w.messages.ensures) (eqb-true _ _ (sym w.value-is ∙ c.if-from-eq-MESSAGES.true)) _
          (c.from-then-from-eq-MESSAGES.ensures ∙ c.checkpoints.ensures)
      | else-from-eq-TRANSACTORS w ↦ absurd (w.if-from-eq-TRANSACTORS.false (eqb-true _ _ (sym w.value-is ∙ c.if-from-eq-MESSAGES.true)))
    ]

pub returns-else-from-eq-MESSAGES : goal.returns-else-from-eq-MESSAGES
returns-else-from-eq-MESSAGES c =
    let a = c.from.ensures ∙ c.transactors.ensures in
    elim c.if-from-eq-TRANSACTORS.branch [
      | then-from-eq-TRANSACTORS w ↦
          c.if-from-eq-MESSAGES.false
          ∙ messages-other _ _ a w.if-from-eq-TRANSACTORS.true _ (w.from-then-from-eq-TRANSACTORS.ensures ∙ w.messages.ensures) (eqb-false _ _ (sym w.value-is ∙ c.if-from-eq-MESSAGES.false))
      | else-from-eq-TRANSACTORS w ↦ c.if-from-eq-MESSAGES.false ∙ transactors-other _ _ a w.if-from-eq-TRANSACTORS.false
    ]
