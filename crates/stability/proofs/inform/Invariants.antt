-- The first i entries are put as the news leaves them.
use Rattle.std.proofs.Common.{◌≡◌}
use Rattle.octets.specs.Bytes.{put}
use Rattle.marks.specs.Packed.{width, places}
use Rattle.maps.specs.News.{informed_of}
use Rattle.maps.specs.Packed.{entries, pack_map, map_in}
use Rattle.stability.proofs.inform.Given as goal

abbrev pub invariant-loop-i : goal.invariant-loop-i
invariant-loop-i l = l.image ≡ put l.at (pack_map width places l.i (informed_of entries l.t (map_in width places entries l.fn.image l.at) (map_in width places entries l.fn.image l.from))) l.fn.image
