-- The number of the one transactor that a step acts for, which is below 16.
use Rattle.std.proofs.Common.{ℕ, ◌≡◌, ◌<◌, ◌∙◌, sym, ap, refl, arith}
use Rattle.std.specs.Prelude.{Option, Some, None, Result, Ok, Err}
use Rattle.std.specs.Result.{result_unwrap_or}
use Rattle.rules.specs.declared.refusals.Refusal.{Refusal}
use Rattle.rules.proofs.Bits.{shifted}
use Rattle.actors.specs.declared.Actor.{Actor}
use Rattle.actors.specs.declared.Actor.TheVariants.{One}
use Rattle.actors.specs.Actor.{actor_in, actor_answer}
use Rattle.rules.specs.Layout.{base}
use Rattle.actors.proofs.Members.{one_below}
use Rattle.ledger_c.specs.Interface.{acting_for}
use Rattle.ledger_c.proofs.ledger_actor.Goals as goal

acting : (call : Result (Option Actor) Refusal) → result_unwrap_or call None ≡ actor_in call
acting (Ok a) = refl
acting (Err r) = refl

told-one : (call : Result (Option Actor) Refusal) (x a : Option Actor) (b : Actor) (t : ℕ) → actor_in call ≡ x → a ≡ result_unwrap_or call None → a ≡ Some b → b ≡ One t → x ≡ Some (One t)
told-one call x a b t f e g h = sym f ∙ sym (acting call) ∙ sym e ∙ g ∙ ap Some h

pub overflow_shl-result : goal.overflow_shl-result
overflow_shl-result c =
    let e = told-one c.for_whom.result (actor_answer base c.args.image.now c.args.step.now) c.told.result c.in-Some-One.field-0 c.in-Some-One.t c.for_whom.ensures.1 c.told.ensures.answer c.in-Some-One.is c.in-Some-One.field-0-is in
    omega (arith, one_below c.args.image.now c.args.step.now e)

pub returns-in-Some-One : goal.returns-in-Some-One
returns-in-Some-One c =
    let e = told-one c.for_whom.result (actor_answer base c.args.image.now c.args.step.now) c.told.result c.in-Some-One.field-0 c.in-Some-One.t c.for_whom.ensures.1 c.told.ensures.answer c.in-Some-One.is c.in-Some-One.field-0-is in
    let below : c.in-Some-One.t < 64 = omega (arith, one_below c.args.image.now c.args.step.now e) in
    (c.told.ensures.number ∙ c.for_whom.ensures.0, ap (λ (n : ℕ). record { kind = 2; takes = n }) (shifted c.in-Some-One.t 64 below) ∙ ap acting_for (sym e))
