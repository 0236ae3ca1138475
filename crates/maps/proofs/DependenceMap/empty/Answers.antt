use Rattle.std.proofs.Common.{rules}
use Rattle.octets.specs.Bytes.{zeros}
use Rattle.maps.specs.Map.{empty_map}
use Rattle.maps.proofs.DependenceMap.empty.Goals as goal

pub returns : goal.returns
unfolding empty_map zeros
returns c = search rules
