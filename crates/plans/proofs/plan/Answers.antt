-- Each return by its law. A query that is not refused has a well-formed image, and its transactor is opened.
use Rattle.std.proofs.Common.{refl, sym, ap, ◌∙◌}
use Rattle.std.proofs.lemmas.Result.{err_from_is_err_and}
use Rattle.rules.specs.Layout.{base}
use Rattle.rules.specs.Plan.{mendable}
use Rattle.rules.proofs.Refused.{refused}
use Rattle.rules.proofs.Calls.Query.{query-accepted}
use Rattle.plans.proofs.Writing.{resting-group-is, plan-refused, plan-room, plan-lasting, plan-some, cleared}
use Rattle.plans.proofs.plan.Goals as goal

pub returns-in_err-formed : goal.returns-in_err-formed
returns-in_err-formed c =
    let p = err_from_is_err_and c.from_residual.result c.from_residual.ensures.1 in
    rw (p.1, p.2) (plan-refused _ _ _ _ c.in_err-formed.ensures.refused (refused c.in_err-formed.field-0.0))

pub returns-then-out-ne-PLAN : goal.returns-then-out-ne-PLAN
returns-then-out-ne-PLAN c = plan-room _ _ _ _ c.in_ok-formed.ensures.refused refl c.if-out-ne-PLAN.true

pub reach_of-reach-requires : goal.reach_of-reach-requires
reach_of-reach-requires c = (query-accepted base _ _ (sym c.in_ok-formed.ensures.refused)).below

pub impediment_in-requires : goal.impediment_in-requires
impediment_in-requires c = ((query-accepted base _ _ (sym c.in_ok-formed.ensures.refused)).below, c.reach_of-reach.ensures)

pub returns-then-not-is_mendable : goal.returns-then-not-is_mendable
returns-then-not-is_mendable c =
    plan-lasting _ _ _ _ c.in_ok-formed.ensures.refused refl c.if-out-ne-PLAN.false _ c.clear.ensures
    (sym (ap mendable (rw c.in_ok-formed.ensures.lent at c.impediment_in.ensures)) ∙ sym c.is_mendable.ensures ∙ c.if-not-is_mendable.true)

pub resting_group-group-requires : goal.resting_group-group-requires
resting_group-group-requires c = (query-accepted base _ _ (sym c.in_ok-formed.ensures.refused)).below

pub store_plan-requires : goal.store_plan-requires
store_plan-requires c = cleared _ _ c.if-out-ne-PLAN.false c.clear.ensures

pub returns : goal.returns
returns c =
    let a = query-accepted base _ _ (sym c.in_ok-formed.ensures.refused) in
    let lent = c.in_ok-formed.ensures.lent in
    plan-some _ _ _ _ c.in_ok-formed.ensures.refused refl c.if-out-ne-PLAN.false _
    (resting-group-is _ _ (rw lent at c.reach_of-reach.ensures) a.below _ c.resting_group-group.ensures) _ _ (rw lent at c.store_plan.ensures)
    (sym (ap mendable (rw lent at c.impediment_in.ensures)) ∙ sym c.is_mendable.ensures ∙ c.if-not-is_mendable.false)
