-- The first i entries are put.
use Rattle.std.proofs.Common.{◌≡◌}
use Rattle.octets.specs.Bytes.{put}
use Rattle.marks.specs.Packed.{width, places}
use Rattle.maps.specs.Packed.{pack_map}
use Rattle.stored_maps.proofs.store.Given as goal

abbrev pub invariant-loop-i : goal.invariant-loop-i
invariant-loop-i l = l.image ≡ put l.at (pack_map width places l.i l.m) l.fn.image
