-- The image is zero up to transactor t.
use Rattle.std.proofs.Common.{◌≡◌}
use Rattle.octets.specs.Bytes.{put, zeros}
use Rattle.rules.specs.Layout.{base, transactor_address}
use Rattle.ledger.proofs.refresh.Given as goal

abbrev pub invariant-loop-t : goal.invariant-loop-t
invariant-loop-t l = l.image ≡ put 0 (zeros (transactor_address base l.t)) l.initial.image
