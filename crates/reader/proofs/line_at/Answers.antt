use Rattle.std.proofs.Common.{rules}
use Rattle.std.proofs.lemmas.Result.{err_from_is_err_and}
use Rattle.scan.proofs.Walking.{word-inside}
use Rattle.reader.proofs.Picks.{lacking, line-none, line-some, line-off, same-answer}
use Rattle.reader.proofs.line_at.Goals as goal

pub slice_bounds-row_named-end : goal.slice_bounds-row_named-end
slice_bounds-row_named-end c = let h = word-inside _ _ _ c.requires c.word_end-end.ensures in search rules

pub returns-in_default : goal.returns-in_default
returns-in_default c = lacking _ _ _ _ (line-none _ _ _ c.requires c.word_end-end.ensures c.in_default.ensures)

pub returns-in_err-all : goal.returns-in_err-all
returns-in_err-all c =
    let l = line-off _ _ _ c.requires c.word_end-end.ensures _ c.in-Some.ensures.0 c.in-Some.ensures.1 _ c.in_err-all.ensures in
    let p = err_from_is_err_and c.from_residual.result c.from_residual.ensures.1 in rw (p.1, p.2) l

pub returns : goal.returns
returns c = same-answer _ _ _ c.ended_at.ensures (line-some _ _ _ c.requires c.word_end-end.ensures _ c.in-Some.ensures.0 c.in-Some.ensures.1 c.in_ok-all.all c.in_ok-all.ensures)
