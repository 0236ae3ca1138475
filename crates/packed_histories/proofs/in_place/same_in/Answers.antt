-- The counts, then the first sixteen bytes, then the others.
use Rattle.std.proofs.Common.{◌∙◌, sym, rules}
use borrow.Author.Tests.{eqb-true}
use Rattle.octets.proofs.Put.{octets-of}
use Rattle.marks.specs.Packed.{width, places, history_in}
use Rattle.marks.proofs.Packed.{length-unpack}
use Rattle.marks.proofs.Unpacked.{other-counts}
use Rattle.packed_histories.proofs.Wide.{whole-first, whole-last}
use Rattle.packed_histories.proofs.in_place.same_in.Goals as goal
use Rattle.packed_histories.proofs.in_place.same_in.Goals.{then-count, else-count}

pub returns-then-same16 : goal.returns-then-same16
returns-then-same16 c =
    elim c.if-count.branch [
      | then-count w ↦
          c.same16-then-same16.ensures
          ∙ whole-last _ (octets-of _ c.type_inv.s) _ _ (search rules) (search rules) c.requires.2 c.requires.3 (sym c.count.ensures.0 ∙ w.if-count.true ∙ c.count-2.ensures.0)
          (sym w.same16.ensures ∙ sym w.value-is ∙ c.if-same16.true)
      | else-count w ↦ absurd (w.if-count.false (eqb-true _ _ (sym w.value-is ∙ c.if-same16.true)))
    ]

pub returns-else-same16 : goal.returns-else-same16
returns-else-same16 c =
    let n = c.count.ensures in
    let m = c.count-2.ensures in
    elim c.if-count.branch [
      | then-count w ↦
          c.if-same16.false
          ∙ whole-first _ (octets-of _ c.type_inv.s) _ _ (search rules) (search rules) c.requires.2 c.requires.3 (sym n.0 ∙ w.if-count.true ∙ m.0)
          (sym w.same16.ensures ∙ sym w.value-is ∙ c.if-same16.false)
      | else-count w ↦
          c.if-same16.false ∙ other-counts width places _ (history_in width places c.args.s.now c.args.b) (length-unpack width places _) _ _ n.0 m.0 n.1 m.1 w.if-count.false
    ]
