use Rattle.std.proofs.Common.{rules, refl, ◌∙◌, ℕ, Bool}
use Rattle.std.proofs.lemmas.Iterator.{YieldsList-from_range}
use Rattle.std.proofs.lemmas.Iterator.Search.{any_from_yields_List}
use borrow.Author.Tests.{tests}
use Rattle.octets.specs.Bytes.{◌and◌}
use Rattle.rules.specs.Layout.{base}
use Rattle.rules.specs.Pack.{unpack}
use Rattle.independence.specs.Internal.Footprint.{touches_in, transactors_meet}
use Rattle.octets.proofs.Ranges.{any-ranged}
use Rattle.independence.proofs.Clauses.{touch-turn}
use Rattle.independence.proofs.transactors_meet.Goals as goal

pub returns : goal.returns
unfolding transactors_meet
returns c =
    let P : ℕ → Bool = λ t. touches_in (unpack base c.args.image.now.bytes.now) c.args.p t and touches_in (unpack base c.args.image.now.bytes.now) c.args.q t in
    any_from_yields_List P _ _ c.any.result c.any.ensures.ran (YieldsList-from_range 0 16 16 refl refl) (λ x b q k. (search (rules, tests), touch-turn _ _ _ _ _ _ _ _ c.opened.ensures c.receiver-first.ensures c.receiver-second.ensures (search (rules, tests)))) ∙ any-ranged P 16
