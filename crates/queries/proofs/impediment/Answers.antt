-- Each return by its law. A query that is not refused has a well-formed image, and its transactor is opened.
use Rattle.std.proofs.Common.{refl, sym}
use Rattle.std.proofs.lemmas.Result.{err_from_is_err_and}
use Rattle.rules.specs.Layout.{base}
use Rattle.rules.proofs.Refused.{refused}
use Rattle.rules.proofs.Calls.Query.{query-accepted}
use Rattle.queries.proofs.Impeding.{impediment-refused, impediment-0}
use Rattle.queries.proofs.impediment.Goals as goal

pub returns-in_err-formed : goal.returns-in_err-formed
returns-in_err-formed c =
    let p = err_from_is_err_and c.from_residual.result c.from_residual.ensures.1 in
    rw (p.1, p.2) (impediment-refused base _ _ _ c.in_err-formed.ensures.refused (refused c.in_err-formed.field-0.0))

pub impediment_of-requires : goal.impediment_of-requires
impediment_of-requires c = (query-accepted base _ _ (sym c.in_ok-formed.ensures.refused)).below

pub returns : goal.returns
returns c = impediment-0 base _ _ _ c.in_ok-formed.ensures.refused refl _ (rw c.in_ok-formed.ensures.lent at c.impediment_of.ensures)
