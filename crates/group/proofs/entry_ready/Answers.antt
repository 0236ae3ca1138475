-- By the one test, or else by the other.
use Rattle.std.proofs.Common.{sym, ◌∙◌}
use Rattle.rules.specs.Layout.{base}
use Rattle.rules.proofs.Groups.Ready.{kept-in-group, kept-other}
use Rattle.group.proofs.entry_ready.Goals as goal

pub returns-then-in_group : goal.returns-then-in_group
returns-then-in_group c = c.if-in_group.true ∙ sym (kept-in-group base _ _ _ _ c.requires.2 (sym c.in_group.ensures ∙ c.if-in_group.true))

pub returns-else-in_group : goal.returns-else-in_group
returns-else-in_group c = c.checkpointed.ensures ∙ kept-other base _ _ _ _ c.requires.2 (sym c.in_group.ensures ∙ c.if-in_group.false)
