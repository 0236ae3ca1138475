-- Both entries, by the one test.
use Rattle.std.proofs.Common.{sym, ◌∙◌}
use Rattle.rules.specs.Layout.{base}
use Rattle.rules.proofs.Groups.Ready.{pair-off, pair-on}
use Rattle.group.proofs.kept_ready.Goals as goal

pub returns-then-entry_ready : goal.returns-then-entry_ready
returns-then-entry_ready c = c.entry_ready-then-entry_ready.ensures ∙ pair-on base _ _ _ _ (sym c.entry_ready.ensures ∙ c.if-entry_ready.true)

pub returns-else-entry_ready : goal.returns-else-entry_ready
returns-else-entry_ready c = c.if-entry_ready.false ∙ pair-off base _ _ _ _ (sym c.entry_ready.ensures ∙ c.if-entry_ready.false)
