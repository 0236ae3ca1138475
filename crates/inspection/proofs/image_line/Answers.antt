use Rattle.std.proofs.Common.{arith}
use Rattle.std.proofs.lemmas.Result.{err_from_is_err_and}
use Rattle.inspection.proofs.Inspecting.{inspect-refused, inspect-end, inspect-line, inspect-long}
use Rattle.inspection.proofs.image_line.Goals as goal

pub returns-in_err-check_image : goal.returns-in_err-check_image
returns-in_err-check_image c =
    let l = inspect-refused _ c.args.n _ c.in_err-check_image.ensures.refused in
    let p = err_from_is_err_and c.from_residual.result c.from_residual.ensures.1 in rw (p.1, p.2) l

pub returns-then-past : goal.returns-then-past
returns-then-past c = inspect-end _ c.args.n c.in_ok-check_image.ensures.refused (omega arith)

pub line_of-requires : goal.line_of-requires
line_of-requires c = (inspect-long _ c.args.n c.in_ok-check_image.ensures.refused, omega arith)

pub returns : goal.returns
returns c = inspect-line _ c.args.n c.in_ok-check_image.ensures.refused _ (omega arith) c.line_of.ensures
