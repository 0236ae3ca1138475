-- Document 02, W4: "no mark changes its life", for theorems.
use Rattle.maps.specs.News.{SameIncarnations}
use Rattle.rules.specs.Layout.{Layout}
use Rattle.rules.specs.State.{Transactor}

-- state and creation maps of the two takes have marks of the same lives
pub record SameMaps (y : Layout) (x x' : Transactor) : Type 0 where
  pub state : SameIncarnations y.transactors x.state x'.state
  pub creation : SameIncarnations y.transactors x.creation x'.creation
