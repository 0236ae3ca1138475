-- After k turns the first k are there to pass through.
use Rattle.rules.specs.Layout.{base}
use Rattle.rules.specs.Pack.{unpack}
use Rattle.impediments.specs.Internal.Ways.{Reached}
use Rattle.impediments.proofs.ways.reach_of.Given as goal

abbrev pub invariant-loop-k : goal.invariant-loop-k
invariant-loop-k l = Reached base (unpack base l.image.bytes.now) l.k l.t l.reach.through l.reach.next
