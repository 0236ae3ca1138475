-- The image, and as judged.
use Rattle.std.proofs.lemmas.Result.{err_from_is_err_and}
use Rattle.decisive.proofs.Judging.{decide-refused, decide-judged}
use Rattle.decisive.proofs.receipt.decide.Goals as goal

pub returns-in_err-formed : goal.returns-in_err-formed
returns-in_err-formed c =
    let p = err_from_is_err_and c.from_residual.result c.from_residual.ensures.1 in
    rw (p.1, p.2) (decide-refused _ _ c.in_err-formed.field-0.0 c.in_err-formed.ensures.refused)

pub returns : goal.returns
returns c = decide-judged _ _ c.in_ok-formed.ensures.refused (rw c.in_ok-formed.ensures.lent at c.judge_numbered.ensures)
