-- Other limits, a transactor with too large a number, or the messages are what is left.
use Rattle.std.proofs.Common.{◌∙◌, sym}
use Rattle.octets.proofs.Tests.{never}
use Rattle.convert.proofs.Within.{limits-other, transactors-over, messages-left}
use Rattle.convert.proofs.low.image.Goals as goal
use Rattle.convert.proofs.low.image.Goals.{then-limits, else-limits}

pub returns-then-transactors : goal.returns-then-transactors
returns-then-transactors c = elim c.if-limits.branch [
  | then-limits w ↦
      messages-left _ _ (sym c.limits.ensures ∙ w.if-limits.true) (sym w.transactors.ensures ∙ sym w.value-is ∙ c.if-transactors.true) c.waiting.ensures.0 _ c.messages.ensures
  | else-limits w ↦ never (sym (sym w.if-limits.false ∙ sym w.value-is ∙ c.if-transactors.true))
]

pub returns-else-transactors : goal.returns-else-transactors
returns-else-transactors c = elim c.if-limits.branch [
  | then-limits w ↦
      c.if-transactors.false ∙ transactors-over _ (sym c.limits.ensures ∙ w.if-limits.true) (sym w.transactors.ensures ∙ sym w.value-is ∙ c.if-transactors.false)
  | else-limits w ↦ c.if-transactors.false ∙ limits-other _ (sym c.limits.ensures ∙ w.if-limits.false)
]
