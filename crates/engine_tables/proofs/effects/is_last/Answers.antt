-- Checkpointed, and at the last number.
use Rattle.engine_tables.proofs.Rows.{last_some}
use Rattle.engine_tables.proofs.effects.is_last.Goals as goal

pub returns-then-x-ne0 : goal.returns-then-x-ne0
returns-then-x-ne0 c = last_some _ c.if-x-ne0.true
