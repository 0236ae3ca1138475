-- At most one number a byte.
use Rattle.std.proofs.Common.{◌≤◌, ◌<◌}
use Rattle.cases.proofs.numbers.«at».Given as goal

abbrev pub invariant-loop-i : goal.invariant-loop-i
invariant-loop-i l = (l.found ≤ l.i) × (l.value < 4294967296)
