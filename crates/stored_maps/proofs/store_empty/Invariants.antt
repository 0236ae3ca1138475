-- The first i entries are put: the initial history, not present, is zeros.
use Rattle.std.proofs.Common.{◌≡◌}
use Rattle.octets.specs.Bytes.{put}
use Rattle.marks.specs.Packed.{width, places}
use Rattle.maps.specs.Map.{empty_map}
use Rattle.maps.specs.Packed.{entries, pack_map}
use Rattle.stored_maps.proofs.store_empty.Given as goal

abbrev pub invariant-loop-i : goal.invariant-loop-i
invariant-loop-i l = l.image ≡ put l.at (pack_map width places l.i (empty_map places entries)) l.fn.image
