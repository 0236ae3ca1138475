-- A transactor that is not stable, or else a history.
use Rattle.rules.specs.Obstacle.{obstacle_of}
use Rattle.obstacles.proofs.obstacle_of.Goals as goal

pub returns-in-None : goal.returns-in-None
unfolding obstacle_of
returns-in-None c = rw (← c.in-None.ensures) c.first_history.ensures

pub returns-in_default : goal.returns-in_default
unfolding obstacle_of
returns-in_default c = rw (← c.in_default.ensures) cc
