-- Not opened, no room, or one more message, which carries nothing.
use Rattle.std.proofs.Common.{refl, sym, rules}
use Rattle.std.proofs.lemmas.Result.{err_from_is_err_and}
use Rattle.steps.proofs.Refused.{not_none, told}
use Rattle.steps.proofs.Images.{free-place, letter-unopened, letter-full, letter-done, letter-counted}
use Rattle.steps.proofs.letter.Goals as goal

pub returns-then-opened-to : goal.returns-then-opened-to
returns-then-opened-to c = (letter-unopened _ _ c.requires.0 _ (search rules) refl, c.requires.1)

pub returns-in_err-check_room : goal.returns-in_err-check_room
returns-in_err-check_room c =
    let p = err_from_is_err_and c.from_residual.result c.from_residual.ensures.1 in
    let r = c.in_err-check_room.field-0.0 in
    rw (p.1, p.2) (letter-full _ _ c.requires.0 (search rules) _ (not_none r c.in_err-check_room.ensures) (told r c.in_err-check_room.ensures), c.requires.1)

pub append_empty-requires : goal.append_empty-requires
append_empty-requires c = free-place _ _ _ (search rules) (search rules) (sym c.in_ok-check_room.ensures) (search rules)

pub returns : goal.returns
returns c =
    let room = sym c.in_ok-check_room.ensures in
    (rw c.done.ensures (letter-done _ _ c.requires.0 (search rules) room _ _ (search rules) c.append_empty.ensures), letter-counted _ _ c.requires.0 (search rules) room _ _ c.requires.1 c.append_empty.ensures)
