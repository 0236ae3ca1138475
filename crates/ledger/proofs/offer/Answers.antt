-- Each return by its law. A query that is not refused has a well-formed image of the right length.
use Rattle.std.proofs.Common.{refl, sym, arith}
use Rattle.std.proofs.lemmas.Result.{err_from_is_err_and}
use Rattle.octets.proofs.Put.{octets-of}
use Rattle.rules.specs.Layout.{base}
use Rattle.rules.proofs.Form.State.{formed-state}
use Rattle.rules.proofs.Calls.Query.{query-accepted}
use Rattle.rules.proofs.Calls.Offer.{offered-refused, offered-none, offered-some}
use Rattle.steps.proofs.Refused.{refusal-high}
use Rattle.ledger.proofs.offer.Goals as goal

pub returns-in_err-check_query : goal.returns-in_err-check_query
returns-in_err-check_query c =
    let p = err_from_is_err_and c.from_residual.result c.from_residual.ensures.1 in
    rw (p.1, p.2) (offered-refused base _ _ _ c.in_err-check_query.ensures.refused (λ z. omega (arith, refusal-high c.in_err-check_query.field-0.0)))

pub waiting-n-requires : goal.waiting-n-requires
waiting-n-requires c = (query-accepted base _ _ (sym c.in_ok-check_query.ensures.refused)).long

pub place_to-requires : goal.place_to-requires
place_to-requires c = ((query-accepted base _ _ (sym c.in_ok-check_query.ensures.refused)).long, c.waiting-n.ensures.0, c.waiting-n.ensures.1)

pub number_of-requires : goal.number_of-requires
number_of-requires c = ((query-accepted base _ _ (sym c.in_ok-check_query.ensures.refused)).long, omega (arith, c.waiting-n.ensures.0, c.in-Some.ensures.1))

pub returns-in-None : goal.returns-in-None
returns-in-None c = offered-none base _ _ _ c.in_ok-check_query.ensures.refused refl _ _ c.waiting-n.ensures.0 (sym c.in-None.ensures) (omega arith)

pub returns-in-Some : goal.returns-in-Some
returns-in-Some c =
    let a = query-accepted base _ _ (sym c.in_ok-check_query.ensures.refused) in
    let well = formed-state base _ a.long (octets-of _ c.type_inv.image) a.formed in
    offered-some base _ _ _ c.in_ok-check_query.ensures.refused refl _ _ c.waiting-n.ensures.0 c.in-Some.ensures.0 _ well c.in-Some.ensures.1 c.number_of.ensures
