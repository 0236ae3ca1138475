-- The front ill-formed, or the tests of all transactors and all messages.
use Rattle.std.proofs.Common.{sym, ap, ◌∙◌, not, arith, rules}
use Rattle.rules.specs.Layout.{base}
use Rattle.form.proofs.FormTest.{front-few, front-ill-formed, one-ill-formed, all-formed}
use Rattle.form.proofs.formed.Goals as goal

pub returns-then-not-front_formed : goal.returns-then-not-front_formed
returns-then-not-front_formed c = front-ill-formed base _ c.requires c.type_inv.s (ap not (sym c.front_formed.ensures ∙ c.if-not-front_formed.true))

pub invariant_of-front : goal.invariant_of-front
invariant_of-front c = record {
  headed = record { long = search rules; many = search rules; most = search rules; within = omega (arith, c.checkpoints.ensures, front-few base _ (ap not (sym c.front_formed.ensures ∙ c.if-not-front_formed.false))) };
  waits = search rules;
  numbered = search rules;
}

pub returns-then-transactors_formed : goal.returns-then-transactors_formed
returns-then-transactors_formed c =
    c.messages_formed.ensures
    ∙ all-formed base _ c.requires c.type_inv.s (ap not (sym c.front_formed.ensures ∙ c.if-not-front_formed.false))
    (ap not (sym c.transactors_formed.ensures ∙ c.if-transactors_formed.true))

pub returns-else-transactors_formed : goal.returns-else-transactors_formed
returns-else-transactors_formed c =
    c.if-transactors_formed.false
    ∙ one-ill-formed base _ c.requires c.type_inv.s (ap not (sym c.front_formed.ensures ∙ c.if-not-front_formed.false))
    (ap not (sym c.transactors_formed.ensures ∙ c.if-transactors_formed.false))
