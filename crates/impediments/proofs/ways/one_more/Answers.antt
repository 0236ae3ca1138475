use Rattle.impediments.proofs.Reaching.{filling-more, wider-row, kept-next}
use Rattle.impediments.proofs.ways.one_more.Goals as goal

pub loop-c-preserved : goal.loop-c-preserved
loop-c-preserved c =
    let l = c.loop-c.invariant in
    record { first = filling-more l.first c.loop-c-test.true _ (wider-row _ _ _ c.wider.ensures); second = filling-more l.second c.loop-c-test.true _ (kept-next _ _ _ _ _ c.kept.ensures) }
