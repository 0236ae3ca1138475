-- The form of a history, or zeros.
use Rattle.std.proofs.Common.{rules}
use Rattle.maps.specs.Packed.{formed_entry}
use Rattle.packed_maps.proofs.formed_entry.Goals as goal

pub returns-then-known : goal.returns-then-known
unfolding formed_entry
returns-then-known c = search rules

pub returns-else-known : goal.returns-else-known
unfolding formed_entry
returns-else-known c = search rules
