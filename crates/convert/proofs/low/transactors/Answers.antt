-- Each of them.
use Rattle.std.proofs.Common.{ℕ, ◌+◌, ◌∙◌, Bool, refl, rules}
use Rattle.std.proofs.lemmas.Iterator.{YieldsList-from_range}
use Rattle.std.proofs.lemmas.Iterator.Search.{all_from_yields_List}
use borrow.Author.Tests.{tests}
use Rattle.octets.proofs.Ranges.{all-ranged}
use Rattle.rules.specs.Layout.{base, state_at, transactor_address}
use Rattle.convert.specs.Internal.HighBytes.{entries_within}
use Rattle.convert.proofs.low.transactors.Goals as goal

pub returns : goal.returns
returns c =
    let f : ℕ → Bool = λ t. entries_within 255 base c.args.s.now (transactor_address base t + state_at) 48 in
    all_from_yields_List f _ _ c.all.result c.all.ensures.ran (YieldsList-from_range 0 16 16 refl refl) (λ x b q k. search (rules, tests)) ∙ all-ranged f 16
