-- After i turns the first i entries are said.
use Rattle.std.proofs.Common.{◌≡◌, [], length}
use Rattle.lines.specs.Lines.{line_room, written, plus}
use Rattle.inspection.proofs.Inspecting.{entries_to}
use Rattle.inspection.proofs.entries.Given as goal

abbrev pub invariant-loop-i : goal.invariant-loop-i
invariant-loop-i l = record {
  said : written l.r ≡ plus [] (entries_to l.h l.i);
  sized : length l.r.bytes ≡ line_room;
}
