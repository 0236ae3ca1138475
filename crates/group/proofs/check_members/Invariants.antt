-- No named transactor below t is gone, and full says whether one has no room.
use Rattle.rules.specs.Layout.{base}
use Rattle.rules.specs.Pack.{unpack}
use Rattle.octets.specs.Bytes.{pick}
use Rattle.group.proofs.Blocking.{Blocking}
use Rattle.group.proofs.check_members.Given as goal

abbrev pub invariant-loop-t : goal.invariant-loop-t
invariant-loop-t l = Blocking (unpack base l.image.bytes.now) l.group l.t (pick l.full 30 0)
