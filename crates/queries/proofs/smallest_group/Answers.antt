-- Each return by its law. A query that is not refused has a well-formed image, and its transactor is opened.
use Rattle.std.proofs.Common.{rules, refl, sym}
use Rattle.std.proofs.lemmas.Result.{err_from_is_err_and}
use Rattle.octets.specs.Numbers.{bound}
use Rattle.octets.proofs.Put.{octets-of}
use Rattle.rules.specs.Layout.{base}
use Rattle.rules.proofs.Good.{good-formed}
use Rattle.rules.proofs.Refused.{refused}
use Rattle.rules.proofs.Calls.Query.{query-accepted}
use Rattle.rules.proofs.Groups.Smallest.{grouped-refused, grouped-none, grouped-some}
use Rattle.queries.proofs.smallest_group.Goals as goal

pub returns-in_err-formed : goal.returns-in_err-formed
returns-in_err-formed c =
    let p = err_from_is_err_and c.from_residual.result c.from_residual.ensures.1 in
    rw (p.1, p.2) (grouped-refused base _ _ _ c.in_err-formed.ensures.refused (refused c.in_err-formed.field-0.0))

pub closure-group-requires : goal.closure-group-requires
closure-group-requires c = (query-accepted base _ _ (sym c.in_ok-formed.ensures.refused)).below

pub returns-then-is_inside : goal.returns-then-is_inside
unfolding bound
returns-then-is_inside c =
    let a = query-accepted base _ _ (sym c.in_ok-formed.ensures.refused) in
    grouped-some base _ _ _ c.in_ok-formed.ensures.refused refl (good-formed _ a.long (octets-of _ c.type_inv.image) a.formed).well refl (rw c.in_ok-formed.ensures.lent at c.needs_of-needs.ensures) _ c.closure-group.ensures _ c.is_inside.ensures (search rules) c.if-is_inside.true

pub returns : goal.returns
returns c =
    let a = query-accepted base _ _ (sym c.in_ok-formed.ensures.refused) in
    grouped-none base _ _ _ c.in_ok-formed.ensures.refused refl (good-formed _ a.long (octets-of _ c.type_inv.image) a.formed).well refl (rw c.in_ok-formed.ensures.lent at c.needs_of-needs.ensures) _ c.closure-group.ensures _ c.is_inside.ensures c.if-is_inside.false
