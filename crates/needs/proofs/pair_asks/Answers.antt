-- The more of the two.
use Rattle.rules.specs.Layout.{base}
use Rattle.rules.proofs.Groups.Needs.{pair-more}
use Rattle.needs.proofs.pair_asks.Goals as goal

pub returns : goal.returns
returns c = pair-more base _ _ _ _ _ _ c.asked-state.ensures c.asked-creation.ensures _ c.max.ensures
