-- The counts, then the next entry, then the first places.
use Rattle.std.proofs.Common.{◌∙◌, sym, arith, rules}
use borrow.Author.Tests.{eqb-true, eqb-false, ltb-true}
use Rattle.marks.specs.Packed.{places}
use Rattle.marks.proofs.Compare.{checkpointed-short, checkpointed-off, checkpointed-entry}
use Rattle.marks.proofs.History.checkpointed_in.Goals as goal
use Rattle.marks.proofs.History.checkpointed_in.Goals.{then-n-m, else-n-m}

pub returns-then-self-other : goal.returns-then-self-other
returns-then-self-other c = elim c.if-n-m.branch [
  | then-n-m w ↦ c.agrees.ensures ∙ checkpointed-entry places c.args.self c.args.other (search rules) (search rules) (omega arith) (omega arith) w.if-n-m.true (eqb-true _ _ (sym w.value-is ∙ c.if-self-other.true))
  | else-n-m w ↦ absurd (omega (arith, ltb-true c.args.self.count c.args.other.count (sym w.value-is ∙ c.if-self-other.true)))
]

pub returns-else-self-other : goal.returns-else-self-other
returns-else-self-other c = elim c.if-n-m.branch [
  | then-n-m w ↦ c.if-self-other.false ∙ checkpointed-off places c.args.self c.args.other (search rules) (search rules) (omega arith) (omega arith) w.if-n-m.true (eqb-false _ _ (sym w.value-is ∙ c.if-self-other.false))
  | else-n-m w ↦ c.if-self-other.false ∙ checkpointed-short places c.args.self c.args.other (search rules) (search rules) (omega arith) (omega arith) w.if-n-m.false
]
