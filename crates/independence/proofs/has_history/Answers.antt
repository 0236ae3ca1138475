use Rattle.std.proofs.Common.{rules, ◌∙◌}
use Rattle.independence.proofs.Clauses.{has-state, has-creation}
use Rattle.independence.proofs.has_history.Goals as goal

pub returns-then-present : goal.returns-then-present
returns-then-present c = c.if-present.true ∙ has-state _ _ _ (search rules) (search rules) _ c.present.ensures c.if-present.true

pub returns-else-present : goal.returns-else-present
returns-else-present c = has-creation _ _ _ (search rules) (search rules) _ c.present.ensures c.if-present.false _ c.present-else-present.ensures
