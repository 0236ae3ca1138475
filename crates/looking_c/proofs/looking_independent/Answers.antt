-- The answer's number.
use Rattle.std.proofs.Common.{ℕ, ◌≡◌, ◌≤◌, ◌∙◌, Bool, true, false, eqb, sym, refl, ap, subst, arith}
use Rattle.std.specs.Prelude.{Result, Ok, Err, MatchResult}
use mir.Val.{bool_byte}
use Rattle.rules.specs.declared.refusals.Refusal.{Refusal}
use Rattle.rules.specs.Layout.{base}
use Rattle.rules.specs.Independent.{IndependentAnswer}
use Rattle.independence.specs.Answer.{is_independent}
use Rattle.looking_c.proofs.looking_independent.Goals as goal

said : (r : Result Bool Refusal) (d : Bool) → MatchResult r (λ a. d ≡ a) (λ e. d ≡ false) → d ≡ is_independent r
said (Ok a) d h = h
said (Err e) d h = h

one_or_less : (b : Bool) → bool_byte b ≤ 1
one_or_less true = omega arith
one_or_less false = omega arith

told-by : (b : Bool) → b ≡ eqb (bool_byte b) 1
told-by true = refl
told-by false = refl

pub returns : goal.returns
returns c =
    let e : c.from.result ≡ bool_byte c.told.result = c.from.ensures in
    let s = said _ _ c.told.ensures.answer in (
      omega (arith, e, one_or_less c.told.result),
      (
        c.told.ensures.number ∙ c.independent.ensures.0,
        subst (IndependentAnswer base _ _ _) (sym s ∙ told-by c.told.result ∙ ap (λ (n : ℕ). eqb n 1) (sym e)) c.independent.ensures.1,
      ),
    )
