use Rattle.std.proofs.Common.{arith}
use Rattle.maps.proofs.Map.{chooses-newer, chooses-left, chooses-other}
use Rattle.maps.proofs.chooses_right.Goals as goal

pub returns-then-not-p : goal.returns-then-not-p
returns-then-not-p c = grind (arith, chooses-other)

pub returns-else-not-p : goal.returns-else-not-p
returns-else-not-p c = grind (arith, chooses-newer)

pub returns-else-q : goal.returns-else-q
returns-else-q c = grind (arith, chooses-left)
