-- After i turns the first i numbers are loaded.
use Rattle.std.proofs.Common.{◌≡◌, take}
use Rattle.octets.specs.Bytes.{tabulate}
use Rattle.marks.specs.Packed.{load_number_at}
use Rattle.recast.proofs.numbers.Given as goal

abbrev pub invariant-loop-i : goal.invariant-loop-i
invariant-loop-i g l = take l.i l.n-items ≡ tabulate l.i (load_number_at g.row.V l.s l.at)
