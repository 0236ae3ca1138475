use Rattle.independence.proofs.Clauses.{copy-good, copy-counted, copy-played}
use Rattle.image.proofs.Lent.{good_in}
use Rattle.independence.proofs.play.Goals as goal

pub step-r-requires : goal.step-r-requires
step-r-requires c =
    let g = good_in c.args.image.now in
    let n = c.requires in
    (copy-good _ _ _ g n.0 c.write.ensures, n.1, copy-counted _ _ _ g n.0 c.write.ensures _ c.waiting-waiting.ensures.0 c.waiting-waiting.ensures.1)

pub returns : goal.returns
returns c =
    let n = c.requires in
    copy-played _ _ _ (good_in c.args.image.now) n.0 c.write.ensures _ _ _ c.step-r.ensures.0
