-- Each return by its law.
use Rattle.std.proofs.Common.{arith, refl, ◌∙◌}
use Rattle.std.proofs.lemmas.Result.{err_from_is_err_and}
use Rattle.decisive.proofs.Judging.{number-missing, number-refused, number-idle}
use Rattle.decisive.proofs.receipt.judge_numbered.Goals as goal

pub returns-in_default : goal.returns-in_default
returns-in_default c = let e = c.in_default.ensures in number-missing _ _ _ refl (omega (arith, c.waiting-n.ensures.0)) refl

pub returns-in_err-receiver : goal.returns-in_err-receiver
returns-in_err-receiver c =
    let p = err_from_is_err_and c.from_residual.result c.from_residual.ensures.1 in
    let k = c.in-Some.ensures in
    rw (p.1, p.2)
    (number-refused _ _ _ k.0 (omega (arith, k.1, c.waiting-n.ensures.0)) c.addressee-t.ensures.0 (c.number.ensures.number ∙ c.status.ensures) c.in_err-receiver.field-0.0 c.in_err-receiver.ensures)

pub returns : goal.returns
returns c =
    let k = c.in-Some.ensures in
    number-idle _ _ _ k.0 (omega (arith, k.1, c.waiting-n.ensures.0)) c.addressee-t.ensures.0 (c.number.ensures.number ∙ c.status.ensures) c.in_ok-receiver.ensures c.judge.ensures
