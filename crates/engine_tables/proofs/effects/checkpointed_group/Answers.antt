-- One transactor more.
use Rattle.std.proofs.Common.{rules}
use Rattle.octets.specs.Numbers.{bound}
use Rattle.octets.proofs.Chunks.{length-of-map}
use Rattle.engine_tables.proofs.Checkpointing.{checkpointing-none, checkpointing-all, checkpointing-fits, checkpointing-more}
use Rattle.engine_tables.proofs.effects.checkpointed_group.Goals as goal

pub loop-t-init : goal.loop-t-init
loop-t-init c = checkpointing-none _ _ (search (rules, length-of-map))

pub checkpointed-requires : goal.checkpointed-requires
checkpointed-requires c = rw c.is_named.ensures (checkpointing-fits c.loop-t.invariant (search rules) c.requires)

pub loop-t-preserved : goal.loop-t-preserved
loop-t-preserved c = checkpointing-more c.loop-t.invariant (search rules) _ c.is_named.ensures _ c.checkpointed.ensures

pub returns : goal.returns
unfolding bound
returns c = checkpointing-all c.loop-t.invariant (search rules) (search rules)
