-- Those of the group alone, and then those of its members.
use Rattle.rules.proofs.Refused.{refused}
use Rattle.std.proofs.Common.{ℕ, refl, ap, ◌∙◌}
use Rattle.std.proofs.lemmas.Result.{err_from_is_err_and}
use Rattle.rules.specs.Internal.Guards.{names_refusal}
use Rattle.rules.proofs.ByKind.Guards.{group-names, group-named}
use Rattle.group.proofs.check.Goals as goal

pub returns-in_err-group : goal.returns-in_err-group
returns-in_err-group c =
    let p = err_from_is_err_and c.from_residual.result c.from_residual.ensures.1 in
    rw (p.1, p.2)
    (group-names _ _ _ _ _ _ (c.in_err-group.ensures ∙ ap (λ (n : ℕ). names_refusal n c.args.group) c.opened.ensures) (refused c.in_err-group.field-0.0))

pub returns : goal.returns
returns c =
    c.check_members.ensures ∙ group-named _ _ _ _ _ _ (c.in_ok-group.ensures ∙ ap (λ (n : ℕ). names_refusal n c.args.group) c.opened.ensures) refl
