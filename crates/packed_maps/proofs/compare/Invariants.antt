-- From entry i on the answers are known; the turn asks the entry before.
use Rattle.marks.specs.Packed.{width, places}
use Rattle.maps.specs.Map.{answer_of}
use Rattle.maps.specs.Packed.{entries, map_in}
use Rattle.maps.proofs.Compared.{Compared}
use Rattle.packed_maps.proofs.compare.Given as goal

abbrev pub invariant-loop-i : goal.invariant-loop-i
invariant-loop-i l = Compared entries (map_in width places entries l.s l.at) l.m l.i l.unrelated (answer_of l.packed) (answer_of l.own)
