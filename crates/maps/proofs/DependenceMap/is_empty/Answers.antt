-- Each place is not held, of the sixteen there are.
use Rattle.std.proofs.Common.{rules, ◌↔◌, ◌≡◌, get_or, EachIndex, IsTrue, false, length}
use Rattle.octets.proofs.Chunks.{length-of-map}
use Rattle.maps.specs.Packed.{entries}
use Rattle.maps.proofs.Loops.{is_empty-each}
use Rattle.maps.proofs.DependenceMap.is_empty.Goals as goal

pub returns : goal.returns
returns c =
    let long : length c.args.self.held ≡ entries = search (rules, length-of-map) in
    let each : IsTrue c.all.result ↔ EachIndex c.args.self.held (λ k. get_or c.args.self.held k false ≡ false) = search rules in
    is_empty-each c.args.self long c.all.result each
