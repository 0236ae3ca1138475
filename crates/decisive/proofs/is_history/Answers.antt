-- Absent; or as the form says.
use Rattle.std.proofs.Common.{◌∙◌}
use Rattle.decisive.proofs.Comparing.{mark-absent, mark-formed}
use Rattle.decisive.proofs.is_history.Goals as goal

pub returns-then-present : goal.returns-then-present
returns-then-present c = mark-formed _ c.requires c.present.ensures c.if-present.true c.formed.ensures

pub returns-else-present : goal.returns-else-present
returns-else-present c = c.if-present.false ∙ mark-absent _ c.requires c.present.ensures c.if-present.false
