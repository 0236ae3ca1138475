-- As long, and each byte compared.
use Rattle.std.proofs.Common.{ℕ, ◌∙◌, Bool, eqb, get_or, length, refl, rules, arith}
use Rattle.std.proofs.lemmas.Iterator.{YieldsList-from_range}
use Rattle.std.proofs.lemmas.Iterator.Search.{all_from_yields_List}
use borrow.Author.Tests.{tests, ne_eqb}
use Rattle.octets.proofs.Ranges.{all-ranged}
use Rattle.kinds.proofs.Rows.{name-each, name-other}
use Rattle.kinds.proofs.is_name.Goals as goal

pub returns-then-name-w : goal.returns-then-name-w
returns-then-name-w c =
    let f : ℕ → Bool = λ i. eqb (get_or c.args.w.now i 0) (get_or c.args.name.now i 0) in
    name-each _ _ _ c.if-name-w.true
    (all_from_yields_List f _ _ c.all.result c.all.ensures.ran (YieldsList-from_range 0 (length c.args.w.now) (length c.args.w.now) refl (omega arith)) (λ x b q k. search (rules, tests))
    ∙ all-ranged f (length c.args.w.now))

pub returns-else-name-w : goal.returns-else-name-w
returns-else-name-w c = ne_eqb _ _ c.if-name-w.false ∙ name-other _ _ c.if-name-w.false
