-- A call goes back over one step; the steps before it are one call further, and the index falls.
use Rattle.engine_walk.proofs.+walk.Given as goal

abbrev pub decreases-walk : goal.decreases-walk
decreases-walk l = l.i
