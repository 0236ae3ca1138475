use Rattle.std.proofs.Common.{rules}
use Rattle.maps.specs.Map.{singleton}
use Rattle.maps.proofs.DependenceMap.one.Goals as goal

pub returns : goal.returns
unfolding singleton
returns c = search rules
