use Rattle.maps.specs.Packed.{entries}
use Rattle.maps.proofs.Loops.{Joining}
use Rattle.maps.proofs.DependenceMap.join.Given as goal

abbrev pub invariant-loop-i : goal.invariant-loop-i
invariant-loop-i l = Joining entries l.initial.self l.other l.i l.self
