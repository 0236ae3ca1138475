-- Transactor t is named, or not.
use Rattle.std.proofs.Common.{rules, arith, sym, ◌∙◌}
use Rattle.thin.proofs.Looking.{named_none, named-on, named-off, named-all}
use Rattle.thin.proofs.lookahead.Lookahead.with_group.Goals as goal
use Rattle.thin.proofs.lookahead.Lookahead.with_group.Goals.{then-is_named, else-is_named}

pub loop-t-init : goal.loop-t-init
loop-t-init c = named_none _ _ (search rules)

pub loop-t-preserved : goal.loop-t-preserved
loop-t-preserved c =
    elim c.if-is_named.branch [
      | then-is_named w ↦ rw w.self-is (named-on _ _ c.loop-t.t c.loop-t.invariant (omega arith) (sym w.if-is_named.true ∙ c.is_named.ensures))
      | else-is_named w ↦ rw w.self-is (named-off _ _ c.loop-t.t c.loop-t.invariant (omega arith) (sym w.if-is_named.false ∙ c.is_named.ensures))
    ]

pub returns : goal.returns
returns c = named-all _ _ c.loop-t.t c.loop-t.invariant (omega arith)
