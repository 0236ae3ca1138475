use Rattle.std.proofs.Common.{arith}
use Rattle.marks.specs.Packed.{width, places}
use Rattle.maps.specs.Packed.{entries}
use Rattle.maps.proofs.Placed.{put-map-none, put-map-all}
use Rattle.maps.proofs.Informing.{informed-more}
use Rattle.stability.proofs.inform.Goals as goal

pub loop-i-init : goal.loop-i-init
loop-i-init c = put-map-none _ _ _ _ _

pub loop-i-preserved : goal.loop-i-preserved
loop-i-preserved c =
    informed-more width places entries _ _ _ c.args.from _ _ c.loop-i.i (omega arith) c.requires.2 c.requires.3 (omega arith) c.loop-i.invariant c.inform_at.ensures

pub returns : goal.returns
returns c = put-map-all width places _ _ _ _ _ _ c.loop-i.invariant (omega arith)
