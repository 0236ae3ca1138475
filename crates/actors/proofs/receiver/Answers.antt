-- The message does not wait, or its addressee.
use Rattle.std.proofs.Common.{sym, arith}
use Rattle.actors.proofs.Acting.{receiver-missing, receiver-waits}
use Rattle.actors.proofs.receiver.Goals as goal

pub returns-in_err-k : goal.returns-in_err-k
returns-in_err-k c = rw c.from_residual.ensures (receiver-missing _ _ _ (sym c.in_err-k.ensures) (omega (arith, c.waiting.ensures.0)))

pub returns : goal.returns
returns c = receiver-waits _ _ _ c.in_ok-k.ensures.0 (omega (arith, c.waiting.ensures.0, c.in_ok-k.ensures.1)) _ c.addressee.ensures.0
