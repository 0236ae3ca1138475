-- From where the map stands on, as many bytes as it has.
use Rattle.std.proofs.Common.{refl, ◌∙◌, arith}
use Rattle.rules.specs.Layout.{base}
use Rattle.ledger.proofs.Showing.{part-refused, part-shown, part-within}
use Rattle.steps.proofs.Refused.{refusal-high}
use Rattle.ledger.proofs.show.Goals as goal

pub overflow_add-end : goal.overflow_add-end
overflow_add-end c = let a = c.in-Ok.ensures in omega (arith, part-within base _ _ _ a.1 refl _ a.0)

pub slice_bounds-result-end : goal.slice_bounds-result-end
slice_bounds-result-end c = let a = c.in-Ok.ensures in omega (arith, part-within base _ _ _ a.1 refl _ a.0)

pub returns-in-Ok : goal.returns-in-Ok
returns-in-Ok c = let a = c.in-Ok.ensures in (part-shown base _ _ _ a.1 refl _ a.0, a.1)

pub returns-in-Err : goal.returns-in-Err
returns-in-Err c = let a = c.in-Err.ensures in (part-refused base _ _ _ a.1 (λ z. omega (arith, refusal-high c.in-Err.r)), c.number.ensures.number ∙ a.1)
