-- Every named transactor below t is checkpointed.
use Rattle.std.proofs.Common.{◌≡◌}
use Rattle.group.proofs.Checkpointing.{checkpointed_to}
use Rattle.group.proofs.checkpoint.Given as goal

abbrev pub invariant-loop-t : goal.invariant-loop-t
invariant-loop-t l = l.image ≡ checkpointed_to l.fn.image l.group l.t
