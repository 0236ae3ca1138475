-- The walk in words answers as the walk on places.
use Rattle.std.proofs.Common.{rules, ne_eqb}
use Rattle.engine_chains.proofs.Following.{sign-answers}
use Rattle.engine_walk.proofs.grounded.Goals as goal

pub returns-then-x-eq0 : goal.returns-then-x-eq0
returns-then-x-eq0 c = rw c.if-x-eq0.true at (sign-answers _ _ _ c.requires _ _ _ c.start.ensures c.walked-x.ensures (search rules) (search rules))

pub returns-else-x-eq0 : goal.returns-else-x-eq0
returns-else-x-eq0 c =
    let no = ne_eqb _ _ c.if-x-eq0.false in
    rw no (rw no at (sign-answers _ _ _ c.requires _ _ _ c.start.ensures c.walked-x.ensures (search rules) (search rules)))
