-- Places are passed until one has the number.
use Rattle.rules.specs.Layout.{base}
use Rattle.rules.specs.State.{numbered}
use Rattle.rules.specs.Pack.{unpack}
use Rattle.rules.proofs.Places.{Passed}
use Rattle.image.proofs.messages.place_numbered.Given as goal

abbrev pub invariant-loop-k : goal.invariant-loop-k
invariant-loop-k l = Passed (numbered (unpack base l.image) l.number) l.n l.k
