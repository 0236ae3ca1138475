-- At most one number a byte.
use Rattle.std.proofs.Common.{◌≤◌}
use Rattle.cases.proofs.numbers.count.Given as goal

abbrev pub invariant-loop-i : goal.invariant-loop-i
invariant-loop-i l = l.found ≤ l.i
