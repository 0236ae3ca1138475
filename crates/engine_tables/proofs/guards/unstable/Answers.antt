-- Any of the numbers below the count, as std's `any` finds it, is any named one that is not stable.
use Rattle.std.proofs.Common.{rules, tests, ◌∙◌}
use Rattle.std.proofs.lemmas.Iterator.{YieldsList-from_range}
use Rattle.std.proofs.lemmas.Iterator.Search.{any_from_yields_List}
use Rattle.engine_tables.proofs.Guarding.{not-stable, unstable-ranged}
use Rattle.engine_tables.proofs.guards.unstable.Goals as goal

pub returns : goal.returns
returns c =
    any_from_yields_List (not-stable c.args.rows c.args.group) _ _ c.any.result c.any.ensures.ran (YieldsList-from_range 0 16 16 (search rules) (search rules)) (λ x b q k. search (rules, tests))
    ∙ unstable-ranged c.args.rows c.args.group
