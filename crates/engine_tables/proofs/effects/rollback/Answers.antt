-- One that can roll back has a next incarnation.
use Rattle.std.proofs.Common.{arith}
use Rattle.engine_tables.proofs.Rows.{last-below}
use Rattle.engine_tables.proofs.effects.rollback.Goals as goal

pub overflow_add-x : goal.overflow_add-x
overflow_add-x c = omega (arith, last-below c.args.x c.requires c.if-x-eq0.false)
