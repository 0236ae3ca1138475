-- After t turns the named transactors below t are checkpointed.
use Rattle.engine_tables.proofs.Checkpointing.{Checkpointing}
use Rattle.engine_tables.proofs.effects.checkpointed_group.Given as goal

abbrev pub invariant-loop-t : goal.invariant-loop-t
invariant-loop-t l = Checkpointing l.group l.fn.rows l.t l.row-items
