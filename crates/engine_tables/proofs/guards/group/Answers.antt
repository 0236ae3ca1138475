-- Those of the group alone, and then those of its members.
use Rattle.std.proofs.Common.{◌∙◌, refl}
use Rattle.std.proofs.lemmas.Result.{err_from_is_err_and}
use Rattle.rules.proofs.ByKind.Guards.{group-names, group-named}
use Rattle.rules.proofs.Refused.{refused}
use Rattle.engine_tables.proofs.guards.group.Goals as goal

pub returns-in_err-group : goal.returns-in_err-group
returns-in_err-group c = let p = err_from_is_err_and c.from_residual.result c.from_residual.ensures.1 in rw (p.1, p.2) (group-names _ _ _ _ _ _ c.in_err-group.ensures (refused _))

pub returns : goal.returns
returns c = c.blocked.ensures ∙ group-named _ _ _ _ _ _ c.in_ok-group.ensures refl
