-- After c turns the steps of the first c transactors stand there.
use Rattle.std.proofs.Common.{◌≤◌, ◌+◌}
use Rattle.rules.specs.Layout.{base}
use Rattle.rules.specs.Pack.{unpack}
use Rattle.plans.proofs.Writing.{Stored}
use Rattle.plans.proofs.store_tasks.Given as goal

abbrev pub invariant-loop-c : goal.invariant-loop-c
invariant-loop-c l = Stored (unpack base l.image.bytes.now) l.group l.c l.initial.out l.out l.at l.number × (l.number ≤ 65535 + l.c)
