-- After u turns who rests on each of the first u transactors stands in its place.
use Rattle.rules.specs.Layout.{base}
use Rattle.rules.specs.Pack.{unpack}
use Rattle.rules.specs.Internal.Held.{Listed}
use Rattle.grounds.proofs.all_resting.Given as goal

abbrev pub invariant-loop-u : goal.invariant-loop-u
invariant-loop-u l = Listed base (unpack base l.image.bytes.now) l.u l.group-items
