-- Inside, every named one has whom it needs; or not inside.
use Rattle.std.proofs.Common.{rules, tests, refl, sym, ◌∙◌}
use Rattle.std.proofs.lemmas.Iterator.{YieldsList-from_range}
use Rattle.std.proofs.lemmas.Iterator.Search.{all_from_yields_List}
use Rattle.octets.proofs.Ranges.{all-ranged}
use Rattle.needs.proofs.Meeting.{served, meets-off, meets-by}
use Rattle.needs.proofs.meets.Goals as goal

pub returns-then-is_inside : goal.returns-then-is_inside
unfolding served
returns-then-is_inside c =
    meets-by _ _ _ (sym c.is_inside.ensures ∙ c.if-is_inside.true)
    (all_from_yields_List (served c.args.needs.need c.args.group) _ _ c.all.result c.all.ensures.ran (YieldsList-from_range 0 16 16 refl refl) (λ x b q k. (search (rules, tests), search (rules, tests)))
    ∙ all-ranged _ 16)

pub returns-else-is_inside : goal.returns-else-is_inside
returns-else-is_inside c = c.if-is_inside.false ∙ meets-off _ _ _ (sym c.is_inside.ensures ∙ c.if-is_inside.false)
