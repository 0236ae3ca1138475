-- The first i entries of the join are put.
use Rattle.std.proofs.Common.{◌≡◌}
use Rattle.octets.specs.Bytes.{put}
use Rattle.marks.specs.Packed.{width, places}
use Rattle.maps.specs.Map.{join_of}
use Rattle.maps.specs.Packed.{entries, pack_map, map_in}
use Rattle.stored_maps.proofs.join_into.Given as goal

abbrev pub invariant-loop-i : goal.invariant-loop-i
invariant-loop-i l = l.image ≡ put l.right (pack_map width places l.i (join_of entries l.r (map_in width places entries l.fn.image l.right))) l.fn.image
