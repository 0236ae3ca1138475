-- Each of the n.
use Rattle.std.proofs.Common.{ℕ, ◌+◌, ◌*◌, ◌∙◌, Bool, refl, rules, arith}
use Rattle.std.proofs.lemmas.Iterator.{YieldsList-from_range}
use Rattle.std.proofs.lemmas.Iterator.Search.{all_from_yields_List}
use borrow.Author.Tests.{tests}
use Rattle.octets.specs.Bytes.{part}
use Rattle.octets.proofs.Ranges.{all-ranged}
use Rattle.rules.specs.Layout.{base}
use Rattle.convert.specs.Internal.HighBytes.{entry_within, entries_within}
use Rattle.convert.proofs.low.histories.Goals as goal

pub returns : goal.returns
unfolding entries_within
returns c =
    let f : ℕ → Bool = λ i. entry_within 255 base (part (c.args.at + 33 * i) 33 c.args.s.now) in
    all_from_yields_List f _ _ c.all.result c.all.ensures.ran (YieldsList-from_range 0 c.args.n c.args.n refl (omega arith)) (λ x b q k. search (rules, tests)) ∙ all-ranged f c.args.n
