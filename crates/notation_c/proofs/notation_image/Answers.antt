-- Refused, nothing more, or the line.
use Rattle.notation_c.proofs.Giving.{image-refused, image-ended, image-given}
use Rattle.notation_c.proofs.notation_image.Goals as goal

pub returns-in-Ok-Some : goal.returns-in-Ok-Some
returns-in-Ok-Some c =
    let h = rw c.in-Ok-Some.field-0-is at c.in-Ok-Some.ensures in
    image-given _ c.args.n c.args.out.now _ _ _ h c.give.ensures.answer c.give.ensures.left

pub returns-in-Ok-None : goal.returns-in-Ok-None
returns-in-Ok-None c =
    let h = rw c.in-Ok-None.field-0-is at c.in-Ok-None.ensures in
    rw c.told.ensures (image-ended _ c.args.n c.args.out.now h)

pub returns-in-Err : goal.returns-in-Err
returns-in-Err c = rw c.told-in-Err.ensures (image-refused _ c.args.n c.args.out.now _ c.in-Err.ensures)
