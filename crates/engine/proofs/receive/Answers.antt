-- Refused, a letter, or as the walk says.
use Rattle.std.proofs.Common.{refl, sym}
use Rattle.std.proofs.lemmas.Result.{err_from_is_err_and}
use Rattle.rules.specs.Step.{receive}
use Rattle.engine_tables.proofs.Guarding.{receipt-waits}
use Rattle.rules.proofs.Refused.{refused}
use Rattle.engine_tables.proofs.Outcomes.{receive-refused}
use Rattle.engine.proofs.Advancing.{asked, receiver-below, advance-any, advance-receive}
use Rattle.engine.proofs.receive.Goals as goal

pub returns-in_err-receipt : goal.returns-in_err-receipt
returns-in_err-receipt c =
    let r = c.requires in
    let k = err_from_is_err_and c.from_residual.result c.from_residual.ensures.1 in
    rw (k.1, k.2) (advance-any _ _ _ _ _ _ r.0.within (receive-refused (asked r.0 r.1 receive r.2) _ c.in_err-receipt.ensures (refused _) _ refl))

pub returns-then-slot : goal.returns-then-slot
returns-then-slot c =
    let r = c.requires in
    let none = r.0.letter r.2 c.if-slot.true in
    advance-receive _ _ _ _ _ _ r.0.within r.2 _ _ (sym none.left) (sym none.right) c.receive.ensures.0

pub receipt-c-requires : goal.receipt-c-requires
receipt-c-requires c =
    let a = c.requires.0 in
    rw (c.from.ensures, c.from-2.ensures) (a.walkable, a.waits (receipt-waits _ _ (sym c.in_ok-receipt.ensures)), receiver-below a c.requires.2)

pub returns : goal.returns
returns c =
    let r = c.requires in
    let w = rw (c.from.ensures, c.from-2.ensures) at c.receipt-c.ensures in
    advance-receive _ _ _ _ _ _ r.0.within r.2 _ _ w.0 w.1 c.receive-2.ensures.0
