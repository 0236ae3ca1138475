-- The counts; where they are the same, the places, then the numbers.
use Rattle.std.proofs.Common.{◌∙◌, sym, ap, arith, rules}
use Rattle.marks.specs.Relation.{turned, relation_number}
use Rattle.marks.specs.Packed.{places}
use Rattle.marks.proofs.Related.{relation-turned}
use Rattle.marks.proofs.Compare.{relation-apart-even, relation-left, relation-right, relation-same}
use Rattle.marks.proofs.History.compare.Goals as goal

pub returns-then-other-self : goal.returns-then-other-self
returns-then-other-self c = ap relation_number (c.turned.ensures ∙ ap turned c.compare_longer.ensures ∙ sym (relation-turned _ _))

pub returns-then-not-agrees : goal.returns-then-not-agrees
returns-then-not-agrees c =
    ap relation_number (relation-apart-even places c.args.self c.args.other (search rules) (search rules) (omega arith) (omega arith) (omega arith) (sym c.agrees.ensures ∙ c.if-not-agrees.true))

pub returns-then-self-other-2 : goal.returns-then-self-other-2
returns-then-self-other-2 c =
    ap relation_number (relation-left places c.args.self c.args.other (search rules) (search rules) (omega arith) (omega arith) (omega arith) (sym c.agrees.ensures ∙ c.if-not-agrees.false) (omega arith))

pub returns-then-other-self-2 : goal.returns-then-other-self-2
returns-then-other-self-2 c =
    ap relation_number (relation-right places c.args.self c.args.other (search rules) (search rules) (omega arith) (omega arith) (omega arith) (sym c.agrees.ensures ∙ c.if-not-agrees.false) (omega arith))

pub returns : goal.returns
returns c =
    ap relation_number (relation-same places c.args.self c.args.other (search rules) (search rules) (omega arith) (omega arith) (omega arith) (sym c.agrees.ensures ∙ c.if-not-agrees.false) (omega arith))
