use Rattle.std.proofs.Common.{arith, refl, false}
use Rattle.octets.specs.Bytes.{zeros}
use Rattle.marks.specs.History.{initial_history}
use Rattle.marks.specs.Packed.{width, places}
use Rattle.maps.specs.Packed.{entries}
use Rattle.packed_histories.proofs.Absent.{put-initial}
use Rattle.maps.proofs.Placed.{put-map-none, put-absent, put-empty-more, put-map-all}
use Rattle.stored_maps.proofs.store_empty.Goals as goal

pub loop-i-init : goal.loop-i-init
loop-i-init c = put-map-none _ _ _ _ _

pub loop-i-preserved : goal.loop-i-preserved
unfolding zeros
loop-i-preserved c =
    let e = put-absent width places _ false (initial_history places) _ _ refl (put-initial _ _ _ c.store_as.ensures) in
    put-empty-more width places _ entries c.loop-i.i _ _ _ _ c.loop-i.invariant e (omega arith)

pub returns : goal.returns
returns c = put-map-all width places _ _ _ _ _ _ c.loop-i.invariant (omega arith)
