use Rattle.std.proofs.Common.{rules}
use Rattle.maps.specs.Map.{with_entry}
use Rattle.maps.proofs.DependenceMap.with.Goals as goal

pub returns : goal.returns
unfolding with_entry
returns c = search rules
