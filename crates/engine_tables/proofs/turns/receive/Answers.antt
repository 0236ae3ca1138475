-- From the last incarnation, or taken off the list.
use Rattle.std.proofs.Common.{refl, sym, ◌∙◌}
use Rattle.engine_tables.proofs.Outcomes.{receive-last, receive-done}
use Rattle.engine_tables.proofs.Told.{receive-told}
use Rattle.engine_tables.proofs.turns.receive.Goals as goal

pub returns-then-last_receipt : goal.returns-then-last_receipt
returns-then-last_receipt c = (receive-last c.requires.0 c.requires.1 c.args.dropped c.args.rolls (sym c.last_receipt.ensures ∙ c.if-last_receipt.true) _ refl, tt)

pub returns : goal.returns
returns c = rw c.reply.ensures (receive-done c.requires.0 c.requires.1 c.args.dropped c.args.rolls (sym c.last_receipt.ensures ∙ c.if-last_receipt.false) _ c.receive-e.ensures _ c.without_number.ensures, receive-told _ _ _ _ _ c.receive-e.ensures)
