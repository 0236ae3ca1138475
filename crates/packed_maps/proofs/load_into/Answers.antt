use Rattle.std.proofs.Common.{arith, sym, subst}
use Rattle.marks.specs.Packed.{width, places}
use Rattle.maps.specs.Packed.{entries}
use Rattle.maps.proofs.Loads.{Loading, loading-none, loading-more, loading-all}
use Rattle.packed_maps.proofs.load_into.Goals as goal

pub loop-i-init : goal.loop-i-init
loop-i-init c = subst (Loading width places entries c.args.s.now c.args.at 0) (sym c.requires.empty) (loading-none width places entries _ _)

pub loop-i-preserved : goal.loop-i-preserved
loop-i-preserved c =
    let b = c.loop-i in
    loading-more width places entries _ _ b.i b.invariant (omega arith) c.present.ensures c.load.ensures

pub returns : goal.returns
returns c =
    let b = c.loop-i in
    loading-all width places entries _ _ b.i b.invariant c.requires.room _ c.looked_at-i-end.ensures.0 (omega arith)
