-- The message does not wait, or its addressee.
use Rattle.std.proofs.Common.{sym, arith}
use Rattle.independence.proofs.Clauses.{receiver-none, receiver-some}
use Rattle.independence.proofs.receiver.Goals as goal

pub returns-in_err-k : goal.returns-in_err-k
returns-in_err-k c = rw c.from_residual.ensures (receiver-none _ _ _ _ c.waiting.ensures.0 (sym c.in_err-k.ensures) (omega arith))

pub returns : goal.returns
returns c = receiver-some _ _ _ _ c.waiting.ensures.0 c.in_ok-k.ensures.0 c.in_ok-k.ensures.1 _ c.addressee.ensures.0
