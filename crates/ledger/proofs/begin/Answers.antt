-- The length, a limit out of range, or an image of zeros into which the limits are put.
use Rattle.std.proofs.Common.{sym, ◌∙◌, arith}
use Rattle.rules.specs.Layout.{base}
use Rattle.rules.proofs.Ranges.{in-range-exactly}
use Rattle.rules.proofs.Calls.Begin.{begin-16, begin-33, begin-0}
use Rattle.ledger.proofs.Refreshing.{fresh-stored}
use Rattle.ledger.proofs.begin.Goals as goal

pub returns-then-image-ne-IMAGE : goal.returns-then-image-ne-IMAGE
returns-then-image-ne-IMAGE c = begin-16 base _ _ c.if-image-ne-IMAGE.true

pub returns-then-not-in_range : goal.returns-then-not-in_range
returns-then-not-in_range c = begin-33 base _ _ c.if-image-ne-IMAGE.false (sym c.in_range.ensures ∙ c.if-not-in_range.true)

pub overflow_cast-transactors : goal.overflow_cast-transactors
overflow_cast-transactors c = omega (arith, ((in-range-exactly _).0 (sym c.in_range.ensures ∙ c.if-not-in_range.false)).transactors.1)

pub overflow_cast-messages : goal.overflow_cast-messages
overflow_cast-messages c = omega (arith, ((in-range-exactly _).0 (sym c.in_range.ensures ∙ c.if-not-in_range.false)).messages.1)

pub overflow_cast-checkpoints : goal.overflow_cast-checkpoints
overflow_cast-checkpoints c = omega (arith, ((in-range-exactly _).0 (sym c.in_range.ensures ∙ c.if-not-in_range.false)).checkpoints.1)

pub returns : goal.returns
returns c = begin-0 base _ _ c.if-image-ne-IMAGE.false (sym c.in_range.ensures ∙ c.if-not-in_range.false) _ (fresh-stored base _ _ _ c.refresh.ensures c.store.ensures)
