-- Those of the image, and then as an acting transactor is refused.
use Rattle.rules.proofs.Refused.{refused}
use Rattle.std.proofs.Common.{◌≡◌, ℕ, ◌∙◌, refl}
use Rattle.std.proofs.lemmas.Result.{err_from_is_err_and}
use Rattle.rules.specs.Layout.{base}
use Rattle.rules.specs.Calls.{query_refusal}
use Rattle.rules.proofs.Calls.Query.{few-opened, query-16, query-19, query-acting}
use Rattle.form.proofs.Unsound.{image-refused, sound-long, sound-not}
use Rattle.form.proofs.check_query.Goals as goal

pub returns-in_err-formed-clause-refused : goal.returns-in_err-formed-clause-refused
returns-in_err-formed-clause-refused c =
    let p = err_from_is_err_and c.from_residual.result c.from_residual.ensures.1 in
    rw (p.1, p.2)
    (image-refused base _ _ c.in_err-formed.ensures.refused (λ (n : ℕ). n ≡ query_refusal base c.args.image.now c.args.transactor) (query-16 base _ _) (query-19 base _ _) (refused c.in_err-formed.field-0.0))

pub check-requires : goal.check-requires
check-requires c =
    let e = c.in_ok-formed.ensures.refused in
    (sound-long base _ _ e refl, few-opened base _ (sound-not base _ _ e refl))

pub returns-in_err-check-clause-refused : goal.returns-in_err-check-clause-refused
returns-in_err-check-clause-refused c =
    let e = c.in_ok-formed.ensures.refused in
    let p = err_from_is_err_and c.from_residual-in_err-check.result c.from_residual-in_err-check.ensures.1 in
    rw (p.1, p.2) c.in_err-check.ensures ∙ query-acting base _ _ (sound-long base _ _ e refl) (sound-not base _ _ e refl)

pub returns-clause-refused : goal.returns-clause-refused
returns-clause-refused c =
    let e = c.in_ok-formed.ensures.refused in
    c.in_ok-check.ensures ∙ query-acting base _ _ (sound-long base _ _ e refl) (sound-not base _ _ e refl)
