-- After i turns the first i numbers are put.
use Rattle.std.proofs.Common.{◌≡◌}
use Rattle.octets.specs.Bytes.{put, chunks}
use Rattle.marks.specs.Packed.{pack_number_at}
use Rattle.recast.proofs.put_numbers.Given as goal

abbrev pub invariant-loop-i : goal.invariant-loop-i
invariant-loop-i g l = l.target ≡ put l.at (chunks l.i (pack_number_at g.row.W l.n-items)) l.initial.target
