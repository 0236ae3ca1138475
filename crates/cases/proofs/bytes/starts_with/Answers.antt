-- Byte by byte.
use Rattle.std.proofs.Common.{rules, arith, refl, ◌∙◌, ℕ, Bool, eqb, length, get_or}
use Rattle.std.proofs.lemmas.Iterator.{YieldsList-from_range}
use Rattle.std.proofs.lemmas.Iterator.Search.{all_from_yields_List}
use borrow.Author.Tests.{tests}
use Rattle.octets.proofs.Ranges.{all-ranged}
use Rattle.cases.proofs.bytes.starts_with.Goals as goal

pub returns : goal.returns
returns c =
    let P : ℕ → Bool = λ i. eqb (get_or c.args.s.now i 0) (get_or c.args.start.now i 0) in
    all_from_yields_List P _ _ c.all.result c.all.ensures.ran (YieldsList-from_range 0 (length c.args.start.now) (length c.args.start.now) refl (omega arith)) (λ x b q k. search (rules, tests)) ∙ all-ranged P (length c.args.start.now)
