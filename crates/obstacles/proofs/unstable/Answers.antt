-- Not named; stable; or neither.
use Rattle.std.proofs.Common.{rules, sym, ◌∙◌}
use Rattle.rules.specs.Layout.{base}
use Rattle.obstacles.proofs.Blocking.{unstable-unnamed, unstable-stable, unstable-not}
use Rattle.obstacles.proofs.unstable.Goals as goal
use Rattle.obstacles.proofs.unstable.Goals.{else-is_named-via-then-is_named+else-not-own, else-is_named-via-else-is_named}

pub returns-then-not-own : goal.returns-then-not-own
returns-then-not-own c = unstable-not base _ _ _ (sym c.is_named.ensures ∙ c.if-is_named.true) _ c.own.ensures (search rules)

pub returns : goal.returns
returns c = elim c.else-is_named.branch [
  | else-is_named-via-then-is_named+else-not-own w ↦ unstable-stable base _ _ _ (sym c.is_named.ensures ∙ w.if-is_named.true) _ w.own.ensures (search rules)
  | else-is_named-via-else-is_named w ↦ unstable-unnamed base _ _ _ (sym c.is_named.ensures ∙ w.if-is_named.false)
]
