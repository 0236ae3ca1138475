-- Never checkpointed; at the last incarnation; or another.
use Rattle.std.proofs.Common.{rules, refl}
use Rattle.decisive.proofs.Judging.{falls-vanished, falls-last, falls-back}
use Rattle.decisive.proofs.receipt.falls.Goals as goal

pub returns-then-h-eq0 : goal.returns-then-h-eq0
returns-then-h-eq0 c = falls-vanished _ _ _ c.own-h.ensures c.if-h-eq0.true (rw c.told.ensures)

pub returns-then-h : goal.returns-then-h
returns-then-h c = falls-last _ _ _ c.own-h.ensures c.if-h-eq0.false c.if-h.true refl

pub returns : goal.returns
returns c = falls-back _ _ _ c.own-h.ensures c.if-h-eq0.false c.if-h.false (search rules) (rw c.told-2.ensures)
