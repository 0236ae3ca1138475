-- Each of those that wait.
use Rattle.std.proofs.Common.{ℕ, ◌+◌, ◌∙◌, Bool, refl, rules, arith}
use Rattle.std.proofs.lemmas.Iterator.{YieldsList-from_range}
use Rattle.std.proofs.lemmas.Iterator.Search.{all_from_yields_List}
use borrow.Author.Tests.{tests}
use Rattle.octets.proofs.Ranges.{all-ranged}
use Rattle.rules.specs.Layout.{base, dependences_at, message_address}
use Rattle.convert.specs.Internal.HighBytes.{entries_within}
use Rattle.convert.proofs.low.messages.Goals as goal

pub returns : goal.returns
returns c =
    let f : ℕ → Bool = λ k. entries_within 255 base c.args.s.now (message_address base k + dependences_at) 16 in
    all_from_yields_List f _ _ c.all.result c.all.ensures.ran (YieldsList-from_range 0 c.args.n c.args.n refl (omega arith)) (λ x b q k. search (rules, tests)) ∙ all-ranged f c.args.n
