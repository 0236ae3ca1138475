-- The bytes of transactor c are put, and then the number opened.
use Rattle.std.proofs.Common.{arith}
use Rattle.rules.specs.Layout.{base}
use Rattle.transactor.proofs.Lent.{open-stored}
use Rattle.steps.proofs.open.Goals as goal

pub returns : goal.returns
returns c = open-stored base _ _ _ _ _ c.requires.0 c.requires.1 (omega arith) c.«open».ensures
