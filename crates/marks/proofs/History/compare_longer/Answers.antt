-- The next entry, then the first places, then the next entry again.
use Rattle.std.proofs.Common.{◌∙◌, ◌≤◌, get_or, sym, arith, rules}
use Rattle.marks.specs.Packed.{places}
use Rattle.marks.proofs.Compare.{relation-off, relation-apart, relation-checkpointed, relation-superseded}
use Rattle.marks.proofs.History.compare_longer.Goals as goal
use Rattle.marks.proofs.History.compare_longer.Goals.{then-apart-via-then-apart, then-apart-via-else-apart+then-not-agrees}

pub returns-then-apart : goal.returns-then-apart
returns-then-apart c =
    elim c.then-apart.branch [
      | then-apart-via-then-apart w ↦ relation-off places c.args.self c.args.other (search rules) (search rules) (omega arith) (omega arith) (omega arith) (search rules)
      | then-apart-via-else-apart+then-not-agrees w ↦
          relation-apart places c.args.self c.args.other (search rules) (search rules) (omega arith) (omega arith) (omega arith) (sym w.agrees.ensures ∙ w.if-not-agrees.true)
    ]

pub returns-then-self-next : goal.returns-then-self-next
returns-then-self-next c =
    relation-checkpointed places c.args.self c.args.other (search rules) (search rules) (omega arith) (omega arith) (omega arith) (sym c.agrees.ensures ∙ c.if-not-agrees.false) (search rules)

pub returns : goal.returns
returns c =
    let h : c.args.self.incarnation ≤ get_or c.args.other.checkpoints c.args.self.count 0 = search rules in
    relation-superseded places c.args.self c.args.other (search rules) (search rules) (omega arith) (omega arith) (omega arith) (sym c.agrees.ensures ∙ c.if-not-agrees.false) (omega arith) (λ e. omega arith)
