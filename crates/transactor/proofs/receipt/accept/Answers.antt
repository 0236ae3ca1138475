-- A message that is refused or dropped leaves the image.
use mathlib.Core.Path.{refl}
use native.Mathlib.Omega.{arith}
use Rattle.rules.specs.Layout.{base}
use Rattle.rules.proofs.Pack.Loads.{waiting_few}
use Rattle.transactor.proofs.Accepting.{accepts-unrelated, accepts-dropped, accepts-settled, acts-as, acted-at, acted-alone-at, kept_at}
use Rattle.transactor.proofs.receipt.accept.Goals as goal

pub map_at-requires : goal.map_at-requires
map_at-requires c = omega (arith, waiting_few base c.args.image.now)

pub compared-answers-requires-clause-message_inside : goal.compared-answers-requires-clause-message_inside
compared-answers-requires-clause-message_inside c = omega (arith, waiting_few base c.args.image.now)

pub returns-then-answers : goal.returns-then-answers
returns-then-answers c =
    acted-at _ _
    (accepts-unrelated base _ _ c.requires.1 _ c.requires.2 _ (rw c.map_at.ensures at c.compared-answers.ensures.unrelated) c.if-answers.true)
    (refl, refl) (kept_at _ c.requires.0 _)

pub settle-requires : goal.settle-requires
settle-requires c = c.requires

pub returns-in_default : goal.returns-in_default
returns-in_default c =
    let said = c.compared-answers.ensures in
    let m = c.map_at.ensures in
    acts-as _ _
    (accepts-settled base _ _ c.requires.1 _ c.requires.2 _ (rw m at said.unrelated) c.if-answers.false _ (rw m at said.packed) c.in_default.is c.compared-answers.result.own
    (rw m at said.own))
    c.settle.ensures

pub returns : goal.returns
returns c =
    let said = c.compared-answers.ensures in
    acted-alone-at _ _
    (accepts-dropped base _ _ c.requires.1 _ c.requires.2 _ (rw c.map_at.ensures at said.unrelated) c.if-answers.false _ (rw c.map_at.ensures at said.packed) c.in-Some.is)
    c.outcome_of.ensures refl refl (kept_at _ c.requires.0 _)
