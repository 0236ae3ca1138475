-- Each way is a case of the rule.
use Rattle.std.proofs.Common.{rules, tests, arith, sym, refl, ◌∙◌, ◌≡◌, true}
use borrow.Author.Tests.{not-true, not-false}
use Rattle.rules.specs.Numbers.{kind_number}
use Rattle.rules.specs.Step.{fall}
use Rattle.rules.specs.Layout.{base}
use Rattle.transactor.proofs.Bytes.{acted-alone, unstable-rolls, unstable-fall, unstable-fail, acts-as}
use Rattle.transactor.proofs.rollback_unless_stable.Goals as goal
use Rattle.transactor.proofs.rollback_unless_stable.Goals.{then-eq, else-eq}

pub returns-then-not-own : goal.returns-then-not-own
returns-then-not-own c = acts-as (unstable-rolls base _ _ c.own.ensures _ (not-true _ c.if-not-own.true)) c.rollback.ensures

pub returns : goal.returns
returns c =
    let stable : c.own.result.stable ≡ true = not-false _ c.if-not-own.false in
    elim c.if-eq.branch [
      | then-eq w ↦
          let fell : kind_number c.args.kind ≡ fall = search (rules, tests) in
          acted-alone (unstable-fall base _ _ c.own.ensures _ stable fell) c.outcome_of.ensures refl refl (w.part-is ∙ w.become_idle.ensures)
      | else-eq w ↦ acted-alone (unstable-fail base _ _ c.own.ensures _ stable (λ e. grind arith)) c.outcome_of.ensures refl refl (w.part-is ∙ sym c.requires.0.back)
    ]
