-- Each transactor is zero in its turn, and then the places of messages.
use Rattle.std.proofs.Common.{arith}
use Rattle.octets.specs.Bytes.{zeros}
use Rattle.octets.proofs.Zero.{length-zeros}
use Rattle.rules.specs.Layout.{base, transactor_address}
use Rattle.ledger.proofs.Refreshing.{put-again, fresh-transactor, fresh-all}
use Rattle.ledger.proofs.refresh.Goals as goal

pub loop-t-init : goal.loop-t-init
loop-t-init c = put-again 0 (zeros (transactor_address base 0)) _ _ (rw length-zeros (omega arith)) c.clear.ensures

pub loop-t-preserved : goal.loop-t-preserved
loop-t-preserved c = fresh-transactor base _ (omega arith) c.loop-t.t _ _ c.loop-t.invariant (omega arith) c.strip.ensures

pub returns : goal.returns
returns c = fresh-all base _ (omega arith) c.loop-t.t _ _ c.loop-t.invariant (omega arith) c.clear-2.ensures
