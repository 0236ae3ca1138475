-- The four parts of the answer.
use Rattle.rules.specs.Layout.{base}
use Rattle.grounds.proofs.Words.{dependents-is}
use Rattle.grounds.proofs.dependents_of.Goals as goal

pub returns : goal.returns
returns c = dependents-is base _ _ c.resting.ensures c.requires.1 c.unfinished.ensures c.carried.ensures
