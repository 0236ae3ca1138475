-- After t turns the able ones of the transactors below t are named, and whom each of them needs stands in its place; the other places are 0.
use Rattle.rules.specs.Layout.{base}
use Rattle.rules.proofs.Groups.Needs.{Gathered}
use Rattle.needs.proofs.needs_of.Given as goal

abbrev pub invariant-loop-t : goal.invariant-loop-t
invariant-loop-t l = Gathered base l.image.bytes.now l.kept.stable l.t l.list l.able
