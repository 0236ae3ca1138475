-- Each return by its law.
use Rattle.std.proofs.Common.{rules, refl, ◌≡◌, ℕ, None}
use Rattle.std.proofs.lemmas.Result.{err_from_is_err_and}
use Rattle.rules.specs.Layout.{base}
use Rattle.rules.specs.Obstacle.{obstacle_numbers, obstacle_refusal, obstacle_answer}
use Rattle.rules.proofs.Refused.{refused}
use Rattle.rules.proofs.Groups.Obstacles.{obstacle-16, obstacle-19, obstacle-21, obstacle-refused, obstacle-0}
use Rattle.form.proofs.Unsound.{image-refused, sound-long, sound-not}
use Rattle.queries.proofs.obstacle.Goals as goal

pub returns-in_err-formed : goal.returns-in_err-formed
returns-in_err-formed c =
    let p = err_from_is_err_and c.from_residual.result c.from_residual.ensures.1 in
    rw (p.1, p.2) (image-refused base _ _ c.in_err-formed.ensures.refused
    (λ (n : ℕ). (n ≡ obstacle_refusal base c.args.image.now c.args.members) × (obstacle_numbers None ≡ obstacle_numbers (obstacle_answer base c.args.image.now c.args.members)))
    (obstacle-16 base _ _) (obstacle-19 base _ _) (refused c.in_err-formed.field-0.0))

pub returns-in_default : goal.returns-in_default
returns-in_default c = let e = c.in_ok-formed.ensures.refused in obstacle-21 base _ _ (sound-long base _ _ e refl) (sound-not base _ _ e refl) (search rules)

pub returns-in_err-check : goal.returns-in_err-check
returns-in_err-check c =
    let e = c.in_ok-formed.ensures.refused in
    let lent = c.in_ok-formed.ensures.lent in
    let p = err_from_is_err_and c.from_residual-in_err-check.result c.from_residual-in_err-check.ensures.1 in
    let g : c.in-Ok.group ≡ c.args.members = search rules in
    rw (p.1, p.2) (obstacle-refused base _ _ (sound-long base _ _ e refl) (sound-not base _ _ e refl) (search rules) _ (rw (lent, g) at c.in_err-check.ensures) (refused c.in_err-check.field-0.0))

pub returns : goal.returns
returns c =
    let e = c.in_ok-formed.ensures.refused in
    let lent = c.in_ok-formed.ensures.lent in
    let g : c.in-Ok.group ≡ c.args.members = search rules in
    obstacle-0 base _ _ (sound-long base _ _ e refl) (sound-not base _ _ e refl) (search rules) _ (rw (lent, g) at c.in_ok-check.ensures) refl _ (rw (lent, g) at c.obstacle_of.ensures)
