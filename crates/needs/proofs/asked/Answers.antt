-- No history; one of the present incarnation, which is not checkpointed; one that is; or another.
use Rattle.std.proofs.Common.{sym, ap, not, ◌∙◌}
use Rattle.rules.specs.Layout.{base}
use Rattle.rules.proofs.Groups.Needs.{asked-absent, asked-in-group, asked-checkpointed, asked-other}
use Rattle.needs.proofs.asked.Goals as goal

pub returns-then-not-present : goal.returns-then-not-present
returns-then-not-present c = asked-absent base _ _ _ _ (ap not (sym c.present.ensures ∙ c.if-not-present.true))

pub returns-then-in_group : goal.returns-then-in_group
returns-then-in_group c = asked-in-group base _ _ _ (ap not (sym c.present.ensures ∙ c.if-not-present.false)) c.requires.2 (sym c.in_group.ensures ∙ c.if-in_group.true)

pub returns-then-checkpointed : goal.returns-then-checkpointed
returns-then-checkpointed c = asked-checkpointed base _ _ _ (ap not (sym c.present.ensures ∙ c.if-not-present.false)) _ (sym c.checkpointed.ensures ∙ c.if-checkpointed.true)

pub returns : goal.returns
returns c =
    asked-other base _ _ _ (ap not (sym c.present.ensures ∙ c.if-not-present.false)) c.requires.2 (sym c.in_group.ensures ∙ c.if-in_group.false) (sym c.checkpointed.ensures ∙ c.if-checkpointed.false)
