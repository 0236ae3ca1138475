-- The first i entries are joined, the others still the left map's.
use Rattle.marks.specs.Packed.{width, places}
use Rattle.maps.specs.Packed.{entries, map_in}
use Rattle.maps.proofs.Loops.{Joining}
use Rattle.packed_maps.proofs.joined.Given as goal

abbrev pub invariant-loop-i : goal.invariant-loop-i
invariant-loop-i l = Joining entries (map_in width places entries l.s l.left) (map_in width places entries l.s l.right) l.i l.r
