-- After i turns the first i places are filled.
use Rattle.std.proofs.Common.{◌≡◌, take}
use Rattle.octets.specs.Bytes.{tabulate}
use Rattle.marks.specs.Packed.{width, load_number_at}
use Rattle.packed_histories.proofs.load_numbers.Given as goal

abbrev pub invariant-loop-i : goal.invariant-loop-i
invariant-loop-i l = take l.i l.n-items ≡ tabulate l.i (load_number_at width l.s l.at)
