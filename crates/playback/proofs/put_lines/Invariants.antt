-- At most 105 bytes a line.
use Rattle.std.proofs.Common.{◌*◌, ◌≤◌}
use Rattle.playback.proofs.put_lines.Given as goal

abbrev pub invariant-loop-i : goal.invariant-loop-i
invariant-loop-i l = l.«at» ≤ 105 * l.i
