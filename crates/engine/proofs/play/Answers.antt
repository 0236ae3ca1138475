-- Limits in range fit a byte, and a right part is whole steps and not too many.
use Rattle.std.proofs.Common.{rules, arith, sym}
use Rattle.rules.proofs.Ranges.{in-range-exactly}
use Rattle.lists.proofs.Parts.{right-part}
use Rattle.engine.proofs.play.Goals as goal

pub overflow_cast-transactors : goal.overflow_cast-transactors
overflow_cast-transactors c = let h = (in-range-exactly _).0 (sym c.if-not-in_range.ensures) in record { fits = omega (arith, h.transactors.1) }

pub overflow_cast-messages : goal.overflow_cast-messages
overflow_cast-messages c = let h = (in-range-exactly _).0 (sym c.if-not-in_range.ensures) in record { fits = omega (arith, h.messages.1) }

pub overflow_cast-checkpoints : goal.overflow_cast-checkpoints
overflow_cast-checkpoints c = let h = (in-range-exactly _).0 (sym c.if-not-in_range.ensures) in record { fits = omega (arith, h.checkpoints.1) }

pub play_steps-requires : goal.play_steps-requires
play_steps-requires c =
    let r = right-part _ _ _ (sym c.if-wrong_part.ensures) in
    record { range = sym c.if-not-in_range.ensures; room = search rules; whole = omega (arith, r.whole); short = omega (arith, r.short) }
