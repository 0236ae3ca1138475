-- Each return by its law. A query that is not refused has an image of the right length, and its transactor is within it.
use Rattle.std.proofs.Common.{arith, refl, sym}
use Rattle.std.proofs.lemmas.Result.{err_from_is_err_and}
use Rattle.rules.specs.Layout.{base}
use Rattle.rules.proofs.Refused.{refused}
use Rattle.rules.proofs.Calls.Query.{query-accepted}
use Rattle.rules.proofs.Calls.Heard.{heard-refused, heard-state, heard-creation}
use Rattle.queries.proofs.all_heard_stable.Goals as goal

pub returns-in_err-check_query : goal.returns-in_err-check_query
returns-in_err-check_query c =
    let p = err_from_is_err_and c.from_residual.result c.from_residual.ensures.1 in
    rw (p.1, p.2) (heard-refused base _ _ _ c.in_err-check_query.ensures.refused (refused c.in_err-check_query.field-0.0))

pub overflow_mul-at : goal.overflow_mul-at
overflow_mul-at c = omega (arith, (query-accepted base _ _ (sym c.in_ok-check_query.ensures.refused)).below)

pub overflow_add-at : goal.overflow_add-at
overflow_add-at c = omega (arith, (query-accepted base _ _ (sym c.in_ok-check_query.ensures.refused)).below)

pub overflow_add-at-2 : goal.overflow_add-at-2
overflow_add-at-2 c = omega (arith, (query-accepted base _ _ (sym c.in_ok-check_query.ensures.refused)).below)

pub others_stable-requires : goal.others_stable-requires
others_stable-requires c = let a = query-accepted base _ _ (sym c.in_ok-check_query.ensures.refused) in omega (arith, a.below, a.long)

pub returns-then-not-others_stable : goal.returns-then-not-others_stable
returns-then-not-others_stable c = heard-state base _ _ _ c.in_ok-check_query.ensures.refused refl _ c.others_stable.ensures c.if-not-others_stable.true

pub overflow_add-at-3 : goal.overflow_add-at-3
overflow_add-at-3 c = omega (arith, (query-accepted base _ _ (sym c.in_ok-check_query.ensures.refused)).below)

pub others_stable-requires-2 : goal.others_stable-requires-2
others_stable-requires-2 c = let a = query-accepted base _ _ (sym c.in_ok-check_query.ensures.refused) in omega (arith, a.below, a.long)

pub returns : goal.returns
returns c = heard-creation base _ _ _ c.in_ok-check_query.ensures.refused refl _ c.others_stable.ensures c.if-not-others_stable.false _ c.others_stable-2.ensures
