-- What is loaded fits its places, and so does a join.
use Rattle.std.proofs.Common.{arith, rules}
use Rattle.maps.proofs.Packed.{bounded-unpack, bounded-join}
use Rattle.cases.proofs.dependences.join.Goals as goal

pub store-requires : goal.store-requires
store-requires c =
    (search rules, rw (c.join.ensures, c.load-left.ensures, c.load-right.ensures) (bounded-join _ _ _ _ (bounded-unpack _ _ _ _ (omega arith)) (bounded-unpack _ _ _ _ (omega arith))))
