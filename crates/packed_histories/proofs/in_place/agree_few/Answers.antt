-- Each of the first n places is compared.
use Rattle.std.proofs.Common.{ℕ, ◌≡◌, ◌∙◌, Bool, eqb, length, get_or, refl, rules, arith}
use Rattle.std.proofs.lemmas.Iterator.{YieldsList-from_range}
use Rattle.std.proofs.lemmas.Iterator.Search.{all_from_yields_List}
use borrow.Author.Tests.{tests}
use Rattle.octets.proofs.Ranges.{all-ranged}
use Rattle.marks.specs.Packed.{width, places, history_in}
use Rattle.marks.proofs.Tests.{entries_same}
use Rattle.marks.proofs.Packed.{length-unpack}
use Rattle.packed_histories.proofs.in_place.agree_few.Goals as goal

pub returns : goal.returns
returns c =
    let xs = (history_in width places c.args.s.now c.args.a).checkpoints in
    let ys = (history_in width places c.args.s.now c.args.b).checkpoints in
    let f : ℕ → Bool = λ i. eqb (get_or xs i 0) (get_or ys i 0) in
    let p : length xs ≡ places = length-unpack width places _ in
    let q : length ys ≡ places = length-unpack width places _ in
    all_from_yields_List f _ _ c.all.result c.all.ensures.ran (YieldsList-from_range 0 c.args.n c.args.n refl (omega arith)) (λ x b q k. search (rules, tests))
    ∙ all-ranged f c.args.n
    ∙ entries_same xs ys c.args.n (omega arith) (omega arith)
