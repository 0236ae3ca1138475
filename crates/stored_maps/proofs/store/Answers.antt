use Rattle.std.proofs.Common.{rules, arith, sym, ◌∙◌}
use Rattle.marks.specs.Packed.{width, places}
use Rattle.maps.specs.Packed.{entries}
use Rattle.maps.proofs.Placed.{put-map-none, put-map-more, put-map-zeros, put-map-all}
use Rattle.maps.proofs.Packed.{bounded_at}
use Rattle.stored_maps.proofs.store.Goals as goal

pub returns-then-is_empty : goal.returns-then-is_empty
returns-then-is_empty c = put-map-zeros width places _ _ entries _ _ (sym c.is_empty.ensures ∙ c.if-is_empty.true) c.clear.ensures

pub loop-i-init : goal.loop-i-init
loop-i-init c = put-map-none _ _ _ _ _

pub store_entry-requires : goal.store_entry-requires
store_entry-requires c = (search rules, bounded_at _ _ c.requires.1 c.loop-i.i)

pub loop-i-preserved : goal.loop-i-preserved
loop-i-preserved c = put-map-more width places _ _ c.loop-i.i _ _ _ c.loop-i.invariant c.store_entry.ensures (omega arith)

pub returns : goal.returns
returns c = put-map-all width places _ _ _ _ _ _ c.loop-i.invariant (omega arith)
