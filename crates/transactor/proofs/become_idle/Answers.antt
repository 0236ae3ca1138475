-- Status and behaviour map change.
use mathlib.Core.Path.{sym}
use native.Mathlib.Omega.{arith}
use lib.ListN.{length-set}
use Rattle.rules.specs.Layout.{base}
use Rattle.rules.specs.Status.{idle}
use Rattle.rules.specs.Rules.{finish_by}
use Rattle.transactor.proofs.Bytes.{status-stored, behaviour-cleared}
use Rattle.transactor.proofs.become_idle.Goals as goal

pub clear-requires : goal.clear-requires
clear-requires c = omega (arith, length-set c.args.part.now 0 64)

pub shape_of-part : goal.shape_of-part
shape_of-part c = omega (arith, length-set c.args.part.now 0 64)

pub returns : goal.returns
unfolding finish_by
returns c =
    behaviour-cleared base _ (status-stored base _ idle (sym c.requires.back) (omega arith)) c.clear.ensures
