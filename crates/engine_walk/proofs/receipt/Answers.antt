-- The walk in words answers as the walk on places.
use Rattle.std.proofs.Common.{rules}
use Rattle.engine_chains.proofs.Following.{receipt-answers}
use Rattle.engine_walk.proofs.receipt.Goals as goal

pub returns : goal.returns
returns c = let h = c.requires in receipt-answers _ _ _ h.0 _ _ _ _ h.1 h.2 c.start.ensures c.walked-x.ensures (search rules) (search rules)
