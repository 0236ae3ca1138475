-- What is kept of every named transactor below t is its own history, and the stable ones are named.
use Rattle.rules.specs.Layout.{base}
use Rattle.rules.specs.Pack.{unpack}
use Rattle.group.proofs.Presenting.{Presented}
use Rattle.group.proofs.presents.Given as goal

abbrev pub invariant-loop-t : goal.invariant-loop-t
invariant-loop-t l = Presented base (unpack base l.image.bytes.now) l.group l.t l.present l.stable
