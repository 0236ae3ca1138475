-- The counts, then the next entry, then the first places.
use Rattle.std.proofs.Common.{◌∙◌, sym, arith}
use borrow.Author.Tests.{eqb-true, eqb-false, ltb-true}
use Rattle.marks.specs.Packed.{width, places, history_in}
use Rattle.marks.proofs.Packed.{length-unpack}
use Rattle.marks.proofs.Unpacked.{no_longer, other-entry, first-places}
use Rattle.packed_histories.proofs.in_place.checkpointed_in.Goals as goal
use Rattle.packed_histories.proofs.in_place.checkpointed_in.Goals.{then-n-count, else-n-count}

pub returns-then-number-place : goal.returns-then-number-place
returns-then-number-place c =
    let n = c.count-n.ensures in
    let m = c.count.ensures in
    elim c.if-n-count.branch [
      | then-n-count w ↦
          c.agree.ensures
          ∙ first-places width places _ (history_in width places c.args.s.now c.args.b) (length-unpack width places _) _ _ n.0 m.0 n.1 m.1 _ _ w.number.ensures w.place.ensures w.if-n-count.true
          (eqb-true _ _ (sym w.value-is ∙ c.if-number-place.true))
      | else-n-count w ↦ absurd (omega (arith, ltb-true c.count-n.result c.count.result (sym w.value-is ∙ c.if-number-place.true)))
    ]

pub returns-else-number-place : goal.returns-else-number-place
returns-else-number-place c =
    let n = c.count-n.ensures in
    let m = c.count.ensures in
    elim c.if-n-count.branch [
      | then-n-count w ↦
          c.if-number-place.false
          ∙ other-entry width places _ (history_in width places c.args.s.now c.args.b) (length-unpack width places _) _ _ n.0 m.0 n.1 m.1 _ _ w.number.ensures w.place.ensures w.if-n-count.true
          (eqb-false _ _ (sym w.value-is ∙ c.if-number-place.false))
      | else-n-count w ↦
          c.if-number-place.false ∙ no_longer width places _ (history_in width places c.args.s.now c.args.b) (length-unpack width places _) _ _ n.0 m.0 n.1 m.1 w.if-n-count.false
    ]
