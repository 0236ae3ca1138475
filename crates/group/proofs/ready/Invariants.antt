-- Every named transactor below t is ready; within a turn, every entry below u.
use Rattle.std.proofs.Common.{◌≡◌, true}
use Rattle.rules.specs.Layout.{base}
use Rattle.rules.specs.Pack.{unpack}
use Rattle.octets.proofs.Zero.{Held}
use Rattle.rules.specs.Internal.Closure.{pair_ready}
use Rattle.rules.proofs.Groups.Ready.{named_ready}
use Rattle.group.proofs.ready.Given as goal

abbrev pub invariant-named : goal.invariant-named
invariant-named l = record { named : Held (named_ready base (unpack base l.image.bytes.now) l.group) base.transactors l.t; ok : l.ok ≡ true }

abbrev pub invariant-loop-u : goal.invariant-loop-u
invariant-loop-u l = record { pairs : Held (pair_ready base l.image.bytes.now l.group l.t) base.transactors l.u; ok : l.ok ≡ true }
