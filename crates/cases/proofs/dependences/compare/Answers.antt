-- What is loaded fits its places, and so does a join.
use Rattle.std.proofs.Common.{arith, rules}
use Rattle.maps.proofs.Packed.{bounded-unpack, bounded-join}
use Rattle.cases.proofs.dependences.compare.Goals as goal

pub compare-found-requires : goal.compare-found-requires
compare-found-requires g c =
    (search rules, rw c.joined-known.ensures (bounded-join _ _ _ _ (bounded-unpack _ _ _ _ (omega arith)) (bounded-unpack _ _ _ _ (omega arith))))
