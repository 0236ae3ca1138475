-- Refused as a run is; else as on the image, on the copy.
use Rattle.std.proofs.Common.{rules, arith, sym}
use Rattle.lists.proofs.Parts.{right-part}
use Rattle.thin.proofs.Thinning.{ran-wrong, ran-no-part, ran-no-room, ran-copied}
use Rattle.thin.proofs.run_copy.Goals as goal

pub returns-then-image-ne-IMAGE : goal.returns-then-image-ne-IMAGE
returns-then-image-ne-IMAGE c = ran-wrong _ _ _ _ _ (search rules)

pub returns-then-wrong_part : goal.returns-then-wrong_part
returns-then-wrong_part c = ran-no-part _ _ _ _ _ (search rules) (sym c.if-wrong_part.ensures)

pub returns-then-out-end : goal.returns-then-out-end
returns-then-out-end c = ran-no-room _ _ _ _ _ (search rules) (sym c.if-wrong_part.ensures) (search rules)

pub returns : goal.returns
returns c = let r = c.run.ensures in ran-copied _ _ _ _ c.copy_from_slice.ensures.after r.0 r.2

pub overflow_sub-end : goal.overflow_sub-end
overflow_sub-end c = omega (arith, (right-part _ _ _ (sym c.if-wrong_part.ensures)).forth)
