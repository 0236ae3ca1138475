-- The groups above have been counted.
use Rattle.std.proofs.Common.{◌≤◌}
use Rattle.needs.proofs.Counting.{Counted}
use Rattle.needs.proofs.closure.count.Given as goal

abbrev pub invariant-loop-group : goal.invariant-loop-group
invariant-loop-group l = (l.group ≤ l.able) × Counted l.needs.need l.able l.size l.group l.n

abbrev pub decreases-loop-group : goal.decreases-loop-group
decreases-loop-group l = l.group
