-- The counts, then the numbers, then the places.
use Rattle.std.proofs.Common.{◌∙◌, sym, refl, rules}
use borrow.Author.Tests.{eqb-true, eqb-false}
use Rattle.marks.specs.Packed.{width, places}
use Rattle.marks.proofs.Unpacked.{other-counts, other-numbers, same-places}
use Rattle.packed_histories.proofs.in_place.same_as.Goals as goal
use Rattle.packed_histories.proofs.in_place.same_as.Goals.{then-n-from, else-n-from}

pub returns-then-number-h : goal.returns-then-number-h
returns-then-number-h c =
    let n = c.count-n.ensures in
    elim c.if-n-from.branch [
      | then-n-from w ↦
          c.agree_with.ensures
          ∙ same-places width places _ c.args.h (search rules) _ c.args.h.count n.0 refl n.1 (search rules) _ _ w.number.ensures refl (w.if-n-from.true ∙ c.from.ensures)
          (eqb-true _ _ (sym w.value-is ∙ c.if-number-h.true))
      | else-n-from w ↦ absurd (w.if-n-from.false (eqb-true _ _ (sym w.value-is ∙ c.if-number-h.true)))
    ]

pub returns-else-number-h : goal.returns-else-number-h
returns-else-number-h c =
    let n = c.count-n.ensures in
    elim c.if-n-from.branch [
      | then-n-from w ↦
          c.if-number-h.false
          ∙ other-numbers width places _ c.args.h (search rules) _ c.args.h.count n.0 refl n.1 (search rules) _ _ w.number.ensures refl (eqb-false _ _ (sym w.value-is ∙ c.if-number-h.false))
      | else-n-from w ↦ c.if-number-h.false ∙ other-counts width places _ c.args.h (search rules) _ c.args.h.count n.0 refl n.1 (search rules) (λ e. w.if-n-from.false (e ∙ sym c.from.ensures))
    ]
