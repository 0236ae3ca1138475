-- Not opened, refused as a busy transactor is, no room, or one more message with what the sender carries.
use Rattle.std.proofs.Common.{refl, sym, rules}
use Rattle.std.proofs.lemmas.Result.{err_from_is_err_and}
use Rattle.steps.proofs.Refused.{not_none, told}
use Rattle.steps.proofs.Images.{free-place-for, send-unopened, send-idle, send-full, send-done, send-counted}
use Rattle.steps.proofs.send.Goals as goal

pub returns-then-opened-to : goal.returns-then-opened-to
returns-then-opened-to c = (send-unopened _ _ c.requires.0 _ (search rules) refl, c.requires.1)

pub returns-in_err-check_busy : goal.returns-in_err-check_busy
returns-in_err-check_busy c =
    let p = err_from_is_err_and c.from_residual.result c.from_residual.ensures.1 in
    let r = c.in_err-check_busy.field-0.0 in
    rw (p.1, p.2) (send-idle _ _ c.requires.0 (search rules) _ (not_none r c.in_err-check_busy.ensures) (told r c.in_err-check_busy.ensures), c.requires.1)

pub returns-in_err-check_room : goal.returns-in_err-check_room
returns-in_err-check_room c =
    let p = err_from_is_err_and c.from_residual-in_err-check_room.result c.from_residual-in_err-check_room.ensures.1 in
    let r = c.in_err-check_room.field-0.0 in
    rw (p.1, p.2) (send-full _ _ c.requires.0 (search rules) (sym c.in_ok-check_busy.ensures) _ (not_none r c.in_err-check_room.ensures) (told r c.in_err-check_room.ensures), c.requires.1)

pub append-requires : goal.append-requires
append-requires c = free-place-for _ _ _ (search rules) (search rules) (sym c.in_ok-check_room.ensures) (search rules) _ (search rules)

pub returns : goal.returns
returns c =
    let busy = sym c.in_ok-check_busy.ensures in
    let room = sym c.in_ok-check_room.ensures in
    (rw c.done.ensures (send-done _ _ c.requires.0 (search rules) busy room _ _ (search rules) c.append.ensures), send-counted _ _ c.requires.0 (search rules) busy room _ _ c.requires.1 c.append.ensures)
