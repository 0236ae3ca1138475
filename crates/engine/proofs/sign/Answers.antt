-- Malformed, refused, not all stable, or as the walk says.
use Rattle.std.proofs.Common.{refl, sym}
use Rattle.std.proofs.lemmas.Result.{err_from_is_err_and}
use Rattle.rules.proofs.Refused.{refused}
use Rattle.engine_tables.proofs.Outcomes.{sign-malformed, sign-refused}
use Rattle.engine.proofs.Advancing.{group-any, group-unstable, group-stable}
use Rattle.engine.proofs.sign.Goals as goal

pub returns-then-malformed : goal.returns-then-malformed
returns-then-malformed c = group-any _ _ _ _ _ _ _ (λ g. sign-malformed _ _ _ (sym c.if-malformed.ensures) g _ refl)

pub returns-in_err-group : goal.returns-in_err-group
returns-in_err-group c =
    let k = err_from_is_err_and c.from_residual.result c.from_residual.ensures.1 in
    rw (k.1, k.2) (group-any _ _ _ _ _ _ _ (λ g. sign-refused _ _ _ (sym c.if-malformed.ensures) c.requires.1 _ c.in_err-group.ensures (refused _) g _ refl))

pub returns-then-unstable : goal.returns-then-unstable
returns-then-unstable c = group-unstable _ _ _ _ _ _ _ _ c.unstable.ensures c.if-unstable.true c.sign.ensures

pub returns : goal.returns
returns c = group-stable _ _ _ _ _ _ _ _ c.unstable.ensures c.if-unstable.false _ c.grounded.ensures c.sign-2.ensures
