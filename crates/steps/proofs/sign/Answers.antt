-- The group's refusal, or not ready, or checkpointed.
use Rattle.std.proofs.Common.{ℕ, not, sym, ap, ◌∙◌, rules}
use Rattle.std.proofs.lemmas.Result.{err_from_is_err_and}
use Rattle.steps.proofs.Refused.{not_none, told}
use Rattle.rules.proofs.ByKind.Guards.{state-room}
use Rattle.steps.proofs.Images.{sign-refused, sign-unready, sign-done}
use Rattle.rules.specs.Rules.{answer}
use Rattle.image.proofs.Lent.{formed-good}
use Rattle.steps.proofs.sign.Goals as goal

pub invariant_of-formed : goal.invariant_of-formed
invariant_of-formed c = record { octets = search rules; long = c.requires.good.long; formed = formed-good c.requires.good }

pub returns-in_err-check : goal.returns-in_err-check
returns-in_err-check c =
    let p = err_from_is_err_and c.from_residual.result c.from_residual.ensures.1 in
    let r = c.in_err-check.field-0.0 in
    rw (p.1, p.2) (sign-refused _ _ c.requires _ (not_none r c.in_err-check.ensures) (told r c.in_err-check.ensures))

pub returns-then-not-ready : goal.returns-then-not-ready
returns-then-not-ready c = sign-unready _ _ c.requires (sym c.in_ok-check.ensures) _ (ap not (sym c.ready.ensures ∙ c.if-not-ready.true)) (c.answered.ensures ∙ ap (λ (n : ℕ). answer n 0 0 0) c.number.ensures.number)

pub checkpoint-requires : goal.checkpoint-requires
checkpoint-requires c = (search rules, state-room _ _ (search rules) (sym c.in_ok-check.ensures))

pub returns : goal.returns
returns c = sign-done _ _ c.requires (sym c.in_ok-check.ensures) _ _ (ap not (sym c.ready.ensures ∙ c.if-not-ready.false)) (c.answered-2.ensures ∙ ap (λ (n : ℕ). answer n 0 0 0) c.number-2.ensures.number) c.checkpoint.ensures
