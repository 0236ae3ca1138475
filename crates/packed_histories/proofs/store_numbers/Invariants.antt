-- After i turns the first i places are put.
use Rattle.std.proofs.Common.{◌≡◌}
use Rattle.octets.specs.Bytes.{put, chunks}
use Rattle.marks.specs.Packed.{width, pack_number_at}
use Rattle.packed_histories.proofs.store_numbers.Given as goal

abbrev pub invariant-loop-i : goal.invariant-loop-i
invariant-loop-i l = l.image ≡ put l.at (chunks l.i (pack_number_at width l.n-items)) l.initial.image
