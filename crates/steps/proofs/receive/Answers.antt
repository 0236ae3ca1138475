-- Not waiting, its receiver gone or not idle, from the last incarnation, or taken in; the message is gone then.
use Rattle.std.proofs.Common.{◌≡◌, refl, sym, ap, ◌∙◌, arith, rules}
use Rattle.std.proofs.lemmas.Result.{err_from_is_err_and}
use Rattle.rules.specs.Internal.Guards.{receiver_refusal}
use Rattle.rules.proofs.ByKind.Guards.{receiver-idle}
use Rattle.steps.proofs.Refused.{not_none, refusal-high, outcome-low}
use Rattle.steps.proofs.Receiving.{found-at, text-done, text-none, receive-missing, receive-status, receive-refused, refused-counted, receive-good, receive-waiting, receive-done, receive-counted}
use denote.Enum.Bare.{same_true, same_false}
use Rattle.rules.specs.contracts.outcomes.Outcome.{the_type}
use Rattle.rules.specs.declared.outcomes.Outcome.{Outcome}
use Rattle.rules.specs.declared.outcomes.Outcome.TheVariants.{Done}
use Rattle.rules.specs.Numbers.{outcome_number}
use Rattle.steps.proofs.receive.Goals as goal
use Rattle.steps.proofs.receive.Goals.{then-eq, else-eq}

not-done : (o : Outcome) → (o ≡ Done → ⊥) → outcome_number o ≡ 0 → ⊥
not-done o n e = grind arith

pub returns-in_default : goal.returns-in_default
returns-in_default c = (receive-missing _ _ c.requires.0 _ (sym c.in_default.ensures) _ (omega (arith, c.requires.1.is)) refl, c.requires.1)

pub returns-in_err-receiver : goal.returns-in_err-receiver
returns-in_err-receiver c =
    let p = err_from_is_err_and c.from_residual.result c.from_residual.ensures.1 in
    let r = c.in_err-receiver.field-0.0 in
    rw (p.1, p.2)
    (receive-status (found-at c.requires.0 c.requires.1 c.in-Some.ensures c.addressee-t.ensures.0) _ _ (c.in_err-receiver.ensures ∙ ap receiver_refusal (c.number.ensures.number ∙ c.status.ensures)) (not_none r refl) refl, c.requires.1)

pub returns-in_err-outcome : goal.returns-in_err-outcome
returns-in_err-outcome c =
    let found = found-at c.requires.0 c.requires.1 c.in-Some.ensures c.addressee-t.ensures.0 in
    let rests = receiver-idle _ (sym (c.in_ok-receiver.ensures ∙ ap receiver_refusal (c.number.ensures.number ∙ c.status.ensures))) in
    let p = err_from_is_err_and c.from_residual-in_err-outcome.result c.from_residual-in_err-outcome.ensures.1 in
    let high = refusal-high c.in_err-outcome.field-0.0 in
    rw (p.1, p.2)
    (receive-refused found rests c.in_err-outcome.ensures high _ refl, refused-counted found rests c.in_err-outcome.ensures high c.requires.1)

pub remove-requires : goal.remove-requires
remove-requires c =
    let found = found-at c.requires.0 c.requires.1 c.in-Some.ensures c.addressee-t.ensures.0 in
    let rests = receiver-idle _ (sym (c.in_ok-receiver.ensures ∙ ap receiver_refusal (c.number.ensures.number ∙ c.status.ensures))) in
    let low = outcome-low c.in_ok-outcome.field-0.outcome in
    let g = receive-good found rests c.in_ok-outcome.ensures low in
    (g.long, g.back, c.requires.1.is ∙ sym (receive-waiting found rests c.in_ok-outcome.ensures low), c.requires.1.few, c.in-Some.ensures.1)

pub returns : goal.returns
returns c =
    let found = found-at c.requires.0 c.requires.1 c.in-Some.ensures c.addressee-t.ensures.0 in
    let rests = receiver-idle _ (sym (c.in_ok-receiver.ensures ∙ ap receiver_refusal (c.number.ensures.number ∙ c.status.ensures))) in
    let o = c.in_ok-outcome.field-0.outcome in
    let low = outcome-low o in
    rw c.number-2.ensures.number (
      receive-done found rests c.in_ok-outcome.ensures low _ _
          (elim c.if-eq.branch [
            | then-eq w ↦ text-done (outcome_number o) _ _ (ap outcome_number (same_true the_type (search rules) o Done (sym w.if-eq.ensures))) (w.value-is ∙ c.content-content.ensures)
            | else-eq w ↦ text-none (outcome_number o) _ _ (not-done o (same_false the_type o Done (sym w.if-eq.ensures))) w.value-is
          ])
          c.remove.ensures,
      receive-counted found rests c.in_ok-outcome.ensures low _ _ c.requires.1 c.remove.ensures,
    )
