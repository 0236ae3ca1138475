use Rattle.std.proofs.lemmas.Result.{err_from_is_err_and}
use Rattle.parser.proofs.Loops.{bare-none, bare-fault, bare-full, bare_step}
use Rattle.parser.proofs.bare_line.Goals as goal

pub returns-then-s-at : goal.returns-then-s-at
returns-then-s-at c = bare-none _ _ _ c.skip-at.ensures c.if-s-at.true

pub returns-in_err-r : goal.returns-in_err-r
returns-in_err-r c =
    let l = bare-fault _ c.args.free _ c.skip-at.ensures c.if-s-at.false _ c.in_err-r.ensures in
    let p = err_from_is_err_and c.from_residual.result c.from_residual.ensures.1 in rw (p.1, p.2) l

pub returns-then-not-free : goal.returns-then-not-free
returns-then-not-free c = bare-full _ _ _ c.skip-at.ensures c.if-s-at.false c.in_ok-r.r c.in_ok-r.ensures c.if-not-free.true

pub returns : goal.returns
returns c = bare_step _ _ _ c.skip-at.ensures c.if-s-at.false c.in_ok-r.r c.in_ok-r.ensures c.if-not-free.false
