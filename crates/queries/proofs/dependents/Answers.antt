-- Each return by its law. A query that is not refused has a well-formed image, and its transactor is opened. The closure of who rests on each is
-- who rests on it through others.
use Rattle.std.proofs.Common.{rules, refl, sym}
use Rattle.std.proofs.lemmas.Result.{err_from_is_err_and}
use Rattle.rules.specs.Layout.{base}
use Rattle.rules.proofs.Refused.{refused}
use Rattle.rules.proofs.Calls.Query.{query-accepted}
use Rattle.rules.proofs.Groups.Dependents.{dependents-refused, dependents-0}
use Rattle.rules.proofs.Groups.Through.{closure-through}
use Rattle.queries.proofs.dependents.Goals as goal

pub returns-in_err-formed : goal.returns-in_err-formed
returns-in_err-formed c =
    let p = err_from_is_err_and c.from_residual.result c.from_residual.ensures.1 in
    rw (p.1, p.2) (dependents-refused base _ _ _ c.in_err-formed.ensures.refused (refused c.in_err-formed.field-0.0))

pub closure-through-requires : goal.closure-through-requires
closure-through-requires c = (query-accepted base _ _ (sym c.in_ok-formed.ensures.refused)).below

pub dependents_of-requires : goal.dependents_of-requires
dependents_of-requires c =
    let a = query-accepted base _ _ (sym c.in_ok-formed.ensures.refused) in
    (a.below, closure-through _ base refl c.all_resting.ensures a.below (search rules) c.closure-through.ensures)

pub returns : goal.returns
returns c = dependents-0 base _ _ _ c.in_ok-formed.ensures.refused refl _ (rw c.in_ok-formed.ensures.lent at c.dependents_of.ensures)
