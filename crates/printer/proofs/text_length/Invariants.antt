-- After i turns the lines of the first i steps are counted.
use Rattle.std.proofs.Common.{◌≡◌, length}
use Rattle.printer.proofs.Printer.{lines_to}
use Rattle.printer.proofs.text_length.Given as goal

abbrev pub invariant-loop-i : goal.invariant-loop-i
invariant-loop-i l = l.total ≡ length (lines_to l.list l.i)
