use Rattle.rules.proofs.Groups.Ready.{own-count}
use Rattle.independence.proofs.Clauses.{relisted-is}
use Rattle.image.proofs.Lent.{good_in}
use Rattle.independence.proofs.relisted.Goals as goal

pub same_incarnation-requires : goal.same_incarnation-requires
same_incarnation-requires c =
    (own-count _ (good_in c.args.image.now) _ c.requires _ c.own-before.ensures, own-count _ (good_in c.args.copy.now) _ c.requires _ c.own-after.ensures)

pub returns : goal.returns
returns c = relisted-is _ _ _ _ _ c.own-before.ensures c.own-after.ensures _ c.same_incarnation.ensures
