use Rattle.std.proofs.Common.{refl}
use Rattle.rules.specs.Refusals.{group_bits}
use Rattle.rules.proofs.Bits.{shifted}
use Rattle.impediments.proofs.Reaching.{filling-more, first-row}
use Rattle.impediments.proofs.ways.direct.Goals as goal

pub loop-c-preserved : goal.loop-c-preserved
loop-c-preserved c =
    let l = c.loop-c.invariant in
    record { first = filling-more l.first c.loop-c-test.true _ (first-row _ _ refl (shifted _ group_bits c.loop-c-test.true)); second = filling-more l.second c.loop-c-test.true _ refl }
