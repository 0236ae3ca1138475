use Rattle.std.proofs.Common.{rules}
use Rattle.maps.specs.Packed.{pack_entry}
use Rattle.stored_maps.proofs.store_entry.Goals as goal

pub returns-then-p : goal.returns-then-p
unfolding pack_entry
returns-then-p c = search rules

pub returns-else-p : goal.returns-else-p
unfolding pack_entry
returns-else-p c = search rules
