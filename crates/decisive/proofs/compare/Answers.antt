-- Refused, or compared.
use Rattle.std.proofs.Common.{arith, ◌∙◌}
use Rattle.std.proofs.lemmas.Result.{err_from_is_err_and}
use Rattle.marks.specs.Packed.{width, places}
use Rattle.marks.proofs.Packed.{loaded-count}
use Rattle.decisive.proofs.Comparing.{bit-byte, compare-refused, left-length, right-length, compare-answered}
use Rattle.decisive.proofs.compare.Goals as goal

pub returns-in_err-check : goal.returns-in_err-check
returns-in_err-check c =
    let p = err_from_is_err_and c.from_residual.result c.from_residual.ensures.1 in
    rw (p.1, p.2) (compare-refused _ _ c.in_err-check.field-0.0 c.in_err-check.ensures)

pub load-a-requires : goal.load-a-requires
load-a-requires c = omega (arith, left-length _ _ c.in_ok-check.ensures)

pub load-b-requires : goal.load-b-requires
load-b-requires c = omega (arith, right-length _ _ c.in_ok-check.ensures)

pub compare-requires : goal.compare-requires
compare-requires c = (loaded-count width places _ _ (omega arith) c.load-a.ensures, loaded-count width places _ _ (omega arith) c.load-b.ensures)

pub returns : goal.returns
returns c = compare-answered _ _ c.in_ok-check.ensures c.load-a.ensures c.load-b.ensures (c.number.ensures ∙ c.compare.ensures) (bit-byte c.from.ensures c.older.ensures)
