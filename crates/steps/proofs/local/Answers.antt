-- Not opened, or what its bytes do.
use Rattle.std.proofs.Common.{refl, arith, rules}
use Rattle.std.proofs.lemmas.Result.{err_from_is_err_and}
use Rattle.transactor.proofs.Lent.{good-lent}
use Rattle.steps.proofs.Refused.{refusal-high, outcome-low}
use Rattle.steps.proofs.Locals.{local-unopened, local-refused, local-done}
use Rattle.steps.proofs.local.Goals as goal

pub returns-then-opened-t : goal.returns-then-opened-t
returns-then-opened-t c = local-unopened _ _ c.requires.0 c.requires.2 c.requires.4 c.requires.5 _ (search rules) refl

pub act-requires : goal.act-requires
act-requires c = (good-lent _ c.requires.0 _ c.requires.1.transactor, search rules, omega (arith, c.requires.3), omega (arith, c.requires.3))

pub returns-in_err-acted : goal.returns-in_err-acted
returns-in_err-acted c =
    let p = err_from_is_err_and c.from_residual.result c.from_residual.ensures.1 in
    let acts = rw c.requires.3 at c.in_err-acted.ensures in
    rw (p.1, p.2) (local-refused _ _ c.requires.0 c.requires.2 c.requires.4 c.requires.5 (search rules) _ _ _ acts _ (refusal-high c.in_err-acted.field-0.0) refl)

pub returns : goal.returns
returns c =
    let acts = rw c.requires.3 at c.in_ok-acted.ensures in
    rw c.number.ensures.number (local-done _ _ c.requires.0 c.requires.2 c.requires.4 c.requires.5 (search rules) _ _ _ acts (outcome-low c.in_ok-acted.acted.outcome))
