use Rattle.std.proofs.Common.{rules, arith, sym, subst}
use Rattle.marks.specs.Packed.{width, places}
use Rattle.maps.specs.Packed.{entries}
use Rattle.maps.specs.Internal.Fitting.{Bounded}
use Rattle.maps.proofs.Packed.{bounded_at, bounded-unpack}
use Rattle.maps.proofs.Placed.{put-map-none}
use Rattle.maps.proofs.Joins.{into-exact, into_more, into-all}
use Rattle.stored_maps.proofs.join_into.Goals as goal

pub loop-i-init : goal.loop-i-init
loop-i-init c = put-map-none _ _ _ _ _

pub join_at-requires : goal.join_at-requires
join_at-requires c =
    let p = c.requires in (
      search rules,
      bounded_at places _ (subst (Bounded places) (sym c.load_into.ensures) (bounded-unpack _ _ _ _ (omega arith))) c.loop-i.i,
      into-exact width places entries _ _ _ c.loop-i.i (omega arith) p.1 _ c.loop-i.invariant p.2,
    )

pub loop-i-preserved : goal.loop-i-preserved
loop-i-preserved c = into_more width places entries _ _ _ c.loop-i.i (omega arith) c.requires.1 _ c.loop-i.invariant _ c.join_at.ensures

pub returns : goal.returns
returns c = into-all width places entries _ _ c.loop-i.i _ c.loop-i.invariant (omega arith) c.load_into.ensures
