use Rattle.std.proofs.lemmas.Result.{err_from_is_err_and}
use Rattle.parser.proofs.Loops.{parsed-fault, parsed-steps, parsed-never}
use Rattle.parser.proofs.parse.Goals as goal

pub returns-in_err-read_lines : goal.returns-in_err-read_lines
returns-in_err-read_lines c =
    let g = rw c.in_err-read_lines.was at c.read_lines.ensures in
    let p = err_from_is_err_and c.from_residual.result c.from_residual.ensures.1 in
    rw (p.1, p.2) (parsed-fault _ _ _ _ g)

pub returns-in_err-length : goal.returns-in_err-length
returns-in_err-length c =
    let g = rw c.in_ok-read_lines.was at c.read_lines.ensures in
    let h = rw c.in_err-length.was at c.read_lines-2.ensures in
    absurd (parsed-never _ _ _ _ g _ _ h)

pub returns : goal.returns
returns c =
    let g = rw c.in_ok-read_lines.was at c.read_lines.ensures in
    let h = rw c.in_ok-length.was at c.read_lines-2.ensures in
    parsed-steps _ _ _ _ g _ _ h
