-- The counts, then the next entry, then the first places.
use Rattle.std.proofs.Common.{◌∙◌, sym, refl, arith, rules}
use borrow.Author.Tests.{eqb-true, eqb-false, ltb-true}
use Rattle.marks.specs.Packed.{width, places}
use Rattle.marks.proofs.Unpacked.{no_longer, other-entry, first-places}
use Rattle.packed_histories.proofs.in_place.checkpointed_by.Goals as goal
use Rattle.packed_histories.proofs.in_place.checkpointed_by.Goals.{then-n-from, else-n-from}

pub returns-then-number-h : goal.returns-then-number-h
returns-then-number-h c =
    let n = c.count-n.ensures in
    elim c.if-n-from.branch [
      | then-n-from w ↦
          c.agree_with.ensures
          ∙ first-places width places _ c.args.h (search rules) _ c.args.h.count n.0 refl n.1 (search rules) _ _ w.number.ensures refl (omega (arith, c.from.ensures))
          (eqb-true _ _ (sym w.value-is ∙ c.if-number-h.true))
      | else-n-from w ↦ absurd (omega (arith, ltb-true c.count-n.result c.from.result (sym w.value-is ∙ c.if-number-h.true)))
    ]

pub returns-else-number-h : goal.returns-else-number-h
returns-else-number-h c =
    let n = c.count-n.ensures in
    elim c.if-n-from.branch [
      | then-n-from w ↦
          c.if-number-h.false
          ∙ other-entry width places _ c.args.h (search rules) _ c.args.h.count n.0 refl n.1 (search rules) _ _ w.number.ensures refl (omega (arith, c.from.ensures))
          (eqb-false _ _ (sym w.value-is ∙ c.if-number-h.false))
      | else-n-from w ↦ c.if-number-h.false ∙ no_longer width places _ c.args.h (search rules) _ c.args.h.count n.0 refl n.1 (search rules) (omega (arith, c.from.ensures))
    ]
