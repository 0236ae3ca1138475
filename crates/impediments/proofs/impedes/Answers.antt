use Rattle.std.proofs.Common.{◌∙◌}
use Rattle.rules.specs.Layout.{base}
use Rattle.impediments.proofs.Impeding.{impedes-hopeless, impedes-exhausted, impedes-unstable}
use Rattle.impediments.proofs.impedes.Goals as goal

pub returns-in-Hopeless : goal.returns-in-Hopeless
returns-in-Hopeless c = rw c.in-Hopeless.is (c.is_some.ensures ∙ impedes-hopeless base _ _ _ c.lost_ground.ensures)

pub returns-in-Exhausted : goal.returns-in-Exhausted
returns-in-Exhausted c = rw c.in-Exhausted.is (c.is_full.ensures ∙ impedes-exhausted base _ _)

pub returns-in-Unstable : goal.returns-in-Unstable
returns-in-Unstable c = rw c.in-Unstable.is (impedes-unstable base _ _ _ c.own.ensures)
