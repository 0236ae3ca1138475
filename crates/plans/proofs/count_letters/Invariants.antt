-- After c turns those of the first c transactors that have to be woken are counted.
use Rattle.std.proofs.Common.{◌≡◌, ◌≤◌}
use Rattle.rules.specs.Layout.{base}
use Rattle.rules.specs.Pack.{unpack}
use Rattle.rules.specs.ReadyGroups.{how_many}
use Rattle.rules.specs.Plan.{to_wake}
use Rattle.plans.proofs.count_letters.Given as goal

abbrev pub invariant-loop-c : goal.invariant-loop-c
invariant-loop-c l = (l.n ≡ how_many l.c (to_wake (unpack base l.image.bytes.now) l.group)) × (l.n ≤ l.c)
