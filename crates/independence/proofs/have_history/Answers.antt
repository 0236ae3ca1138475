use Rattle.std.proofs.Common.{rules, refl, ◌∙◌, ℕ, Bool}
use Rattle.std.proofs.lemmas.Iterator.{YieldsList-from_range}
use Rattle.std.proofs.lemmas.Iterator.Search.{any_from_yields_List}
use borrow.Author.Tests.{tests}
use Rattle.octets.specs.Bytes.{◌and◌}
use Rattle.rules.specs.Layout.{base}
use Rattle.rules.specs.Pack.{unpack}
use Rattle.rules.specs.State.{transactor_at}
use Rattle.rules.specs.Refusals.{named, any_named}
use Rattle.rules.specs.Independent.{has_mark}
use Rattle.independence.specs.Internal.Footprint.{has_marks}
use Rattle.octets.proofs.Ranges.{any-ranged}
use Rattle.independence.proofs.have_history.Goals as goal

pub returns : goal.returns
unfolding has_marks any_named
returns c =
    let P : ℕ → Bool = λ t. named c.args.group t and has_mark (transactor_at (unpack base c.args.image.now.bytes.now) t) c.args.u in
    any_from_yields_List P _ _ c.any.result c.any.ensures.ran (YieldsList-from_range 0 16 16 refl refl) (λ x b q k. search (rules, tests)) ∙ any-ranged P 16
