-- The steps gathered at the end are brought down.
use Rattle.std.proofs.Common.{arith}
use Rattle.thin.proofs.Gathering.{gathered-few, shortened}
use Rattle.thin.proofs.shorten.Goals as goal

pub overflow_mul-size : goal.overflow_mul-size
overflow_mul-size c = let s = c.requires in record { fits = omega (arith, gathered-few _ _ s.0 s.1 c.gather-n.ensures) }

pub overflow_sub-gap : goal.overflow_sub-gap
overflow_sub-gap c = let s = c.requires in gathered-few _ _ s.0 s.1 c.gather-n.ensures

pub remove-requires : goal.remove-requires
remove-requires c = let s = c.requires in omega (arith, gathered-few _ _ s.0 s.1 c.gather-n.ensures)

pub returns : goal.returns
returns c = let s = c.requires in shortened _ _ s.0 s.1 c.gather-n.ensures c.remove.ensures
