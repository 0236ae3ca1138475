-- Not opened, no room, or one more message.
use Rattle.std.proofs.Common.{rules, arith, refl, sym}
use Rattle.std.proofs.lemmas.Result.{err_from_is_err_and}
use Rattle.rules.proofs.Refused.{refused}
use Rattle.rules.proofs.ByKind.Guards.{free}
use Rattle.engine_tables.proofs.Outcomes.{letter-unopened, letter-full, letter-done}
use Rattle.engine_tables.proofs.Told.{sends-told}
use Rattle.engine_tables.proofs.turns.letter.Goals as goal

pub returns-then-register-to : goal.returns-then-register-to
returns-then-register-to c = (letter-unopened c.requires (search rules) _ refl, tt)

pub returns-in_err-room : goal.returns-in_err-room
returns-in_err-room c = let p = err_from_is_err_and c.from_residual.result c.from_residual.ensures.1 in rw (p.1, p.2) (letter-full c.requires (search rules) _ c.in_err-room.ensures (refused _) _ refl, tt)

pub sending-requires : goal.sending-requires
sending-requires c = let r = free _ _ _ (sym c.in_ok-room.ensures) in (omega (arith, r.room, r.number), omega (arith, r.room))

pub returns : goal.returns
returns c = (letter-done c.requires (search rules) _ c.in_ok-room.ensures refl _ c.sending.ensures, sends-told _ c.args.x _ _ _ _ c.sending.ensures)
