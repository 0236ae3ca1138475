-- All opened, or the next one is, and rests on nothing.
use Rattle.std.proofs.Common.{refl, rules}
use Rattle.maps.proofs.Packed.{bounded-empty}
use Rattle.steps.proofs.Images.{root-full, root-done}
use Rattle.steps.proofs.root.Goals as goal

pub returns-then-transactors-c : goal.returns-then-transactors-c
returns-then-transactors-c c = root-full _ _ c.requires _ (search rules) refl

pub open-requires : goal.open-requires
open-requires c = (search rules, search rules, rw c.empty.ensures (bounded-empty _ _ _))

pub returns : goal.returns
returns c = rw c.done.ensures (root-done _ _ c.requires _ _ (search rules) (search rules) (cc (c.«open».ensures, c.empty.ensures)))
