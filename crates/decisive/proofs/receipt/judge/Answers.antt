-- Each return by its law.
use Rattle.std.proofs.Common.{refl}
use Rattle.rules.specs.Layout.{base}
use Rattle.decisive.proofs.Judging.{judged-unrelated, judged-settled, judged-dropped}
use Rattle.decisive.proofs.receipt.judge.Goals as goal

pub returns-then-answers : goal.returns-then-answers
returns-then-answers c = judged-unrelated base _ _ _ c.compared-answers.ensures.0 c.if-answers.true refl

pub returns-in_default : goal.returns-in_default
returns-in_default c =
    let a = c.compared-answers in
    judged-settled base _ _ _ a.ensures.0 c.if-answers.false a.result.packed a.result.own a.ensures.1 a.ensures.2 c.in_default.is c.settled.ensures

pub returns : goal.returns
returns c =
    let a = c.compared-answers in
    judged-dropped base _ _ _ a.ensures.0 c.if-answers.false a.result.packed a.result.own a.ensures.1 a.ensures.2 c.in-Some.is (rw c.told.ensures)
