-- The refusals of the image, the place of the message, and where its map stands there.
use Rattle.std.proofs.Common.{◌≡◌, ℕ, refl, arith}
use Rattle.std.proofs.lemmas.Result.{err_from_is_err_and}
use Rattle.rules.specs.Layout.{base}
use Rattle.rules.specs.Calls.{show_refusal}
use Rattle.ledger.specs.Internal.Shown.{shown_at}
use Rattle.form.proofs.Unsound.{image-refused, sound-long, sound-not}
use Rattle.ledger.proofs.Showing.{shown-16, shown-19, shown-24, shown-place}
use Rattle.steps.proofs.Refused.{refusal-high}
use Rattle.ledger.proofs.shown_at.Goals as goal

pub returns-in_err-check_image : goal.returns-in_err-check_image
returns-in_err-check_image c =
    let p = err_from_is_err_and c.from_residual.result c.from_residual.ensures.1 in
    rw (p.1, p.2)
    (image-refused base _ _ c.in_err-check_image.ensures.refused (λ (n : ℕ). (0 ≡ shown_at base c.args.image.now c.args.number) × (n ≡ show_refusal base c.args.image.now c.args.number))
    (shown-16 base _ _) (shown-19 base _ _) (λ z. omega (arith, refusal-high c.in_err-check_image.field-0.0)))

pub waiting-n-requires : goal.waiting-n-requires
waiting-n-requires c = sound-long base _ _ c.in_ok-check_image.ensures.refused refl

pub place_numbered-requires : goal.place_numbered-requires
place_numbered-requires c = (sound-long base _ _ c.in_ok-check_image.ensures.refused refl, c.waiting-n.ensures.0, c.waiting-n.ensures.1)

pub returns-in-None : goal.returns-in-None
returns-in-None c =
    let e = c.in_ok-check_image.ensures.refused in
    shown-24 base _ _ (sound-long base _ _ e refl) (sound-not base _ _ e refl) (omega (arith, c.waiting-n.ensures.0, c.in-None.ensures))

pub returns-in-Some : goal.returns-in-Some
returns-in-Some c =
    let e = c.in_ok-check_image.ensures.refused in
    shown-place base _ _ (sound-long base _ _ e refl) (sound-not base _ _ e refl) _ c.in-Some.ensures.0 (omega (arith, c.waiting-n.ensures.0, c.in-Some.ensures.1)) _ c.map_at.ensures
