-- The group holds no more than any that has what it needs; each turn one more is named.
use Rattle.std.proofs.Common.{◌-◌, ◌^◌}
use Rattle.rules.specs.Refusals.{group_bits}
use Rattle.rules.proofs.Groups.Closure.{Growing}
use Rattle.needs.proofs.closure.closure.Given as goal

abbrev pub invariant-loop-u : goal.invariant-loop-u
invariant-loop-u l = Growing l.need l.t l.group

abbrev pub decreases-loop-u : goal.decreases-loop-u
decreases-loop-u l = 2 ^ group_bits - l.group
