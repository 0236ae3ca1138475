-- After i turns the lines of the first i steps are written.
use Rattle.std.proofs.Common.{◌≡◌, length}
use Rattle.octets.specs.Bytes.{put}
use Rattle.printer.proofs.Printer.{lines_to}
use Rattle.printer.proofs.put_text.Given as goal

abbrev pub invariant-loop-i : goal.invariant-loop-i
invariant-loop-i l = record {
  at : l.at ≡ length (lines_to l.list l.i);
  out : l.out ≡ put 0 (lines_to l.list l.i) l.fn.out;
}
