-- The first i entries are loaded.
use Rattle.marks.specs.Packed.{width, places}
use Rattle.maps.specs.Packed.{entries}
use Rattle.maps.proofs.Loads.{Loading}
use Rattle.packed_maps.proofs.load_into.Given as goal

abbrev pub invariant-loop-i : goal.invariant-loop-i
invariant-loop-i l = Loading width places entries l.s l.at l.i l.r
