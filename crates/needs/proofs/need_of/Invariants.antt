-- After u turns the entries below u ask for no more than a group has, and whom they ask for is named.
use Rattle.rules.specs.Layout.{base}
use Rattle.rules.proofs.Groups.Needs.{Rowed}
use Rattle.needs.proofs.need_of.Given as goal

abbrev pub invariant-loop-u : goal.invariant-loop-u
invariant-loop-u l = Rowed base l.image.bytes.now l.kept.stable l.t l.u l.need
