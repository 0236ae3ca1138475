-- Not opened, refused as a busy transactor is, no room, or one more message.
use Rattle.std.proofs.Common.{rules, arith, refl, sym}
use Rattle.std.proofs.lemmas.Result.{err_from_is_err_and}
use Rattle.rules.proofs.Refused.{refused}
use Rattle.rules.proofs.ByKind.Guards.{free}
use Rattle.engine_tables.proofs.Outcomes.{send-unopened, send-idle, send-full, send-done}
use Rattle.engine_tables.proofs.Told.{sends-told}
use Rattle.engine_tables.proofs.turns.send.Goals as goal

pub returns-then-register-p : goal.returns-then-register-p
returns-then-register-p c = (send-unopened c.requires (search rules) _ refl, tt)

pub returns-in_err-busy : goal.returns-in_err-busy
returns-in_err-busy c = let p = err_from_is_err_and c.from_residual.result c.from_residual.ensures.1 in rw (p.1, p.2) (send-idle c.requires c.if-register-p.false _ c.in_err-busy.ensures (refused _) _ refl, tt)

pub returns-in_err-room : goal.returns-in_err-room
returns-in_err-room c = let p = err_from_is_err_and c.from_residual-in_err-room.result c.from_residual-in_err-room.ensures.1 in rw (p.1, p.2) (send-full c.requires c.if-register-p.false _ c.in_ok-busy.ensures refl _ c.in_err-room.ensures (refused _) _ refl, tt)

pub sending-requires : goal.sending-requires
sending-requires c = let r = free _ _ _ (sym c.in_ok-room.ensures) in (omega (arith, r.room, r.number), omega (arith, r.room))

pub returns : goal.returns
returns c = (send-done c.requires c.if-register-p.false _ c.in_ok-busy.ensures refl _ c.in_ok-room.ensures refl _ c.sending.ensures, sends-told _ c.args.x _ _ _ _ c.sending.ensures)
