use Rattle.std.proofs.Common.{arith, sym, subst, ◌∙◌, ◌+◌}
use Rattle.marks.specs.Packed.{width, places}
use Rattle.maps.specs.Packed.{entries}
use Rattle.maps.proofs.Packed.{sized-unpack}
use Rattle.maps.proofs.Loops.{Joining, joining-none, joining-right, joining-left, joining-all}
use Rattle.maps.proofs.Joins.{entry_in}
use Rattle.maps.proofs.Placed.{unlooked-held}
use Rattle.packed_maps.proofs.joined.Goals as goal
use Rattle.packed_maps.proofs.joined.Goals.{then-chooses_right, else-chooses_right}

pub loop-i-init : goal.loop-i-init
loop-i-init c = subst (Joining entries _ _ 0) (sym c.load_into.ensures) (joining-none _ _ (sized-unpack width places entries _))

pub loop-i-preserved : goal.loop-i-preserved
loop-i-preserved c =
    let b = c.loop-i in
    let g = entry_in width places entries _ _ b.i (omega arith) c.present-q.ensures c.load-y.ensures in
    let P = Joining entries _ _ (b.i + 1) in
    elim c.if-chooses_right.branch [
      | then-chooses_right w ↦ subst P (sym w.r-is) (joining-right _ _ b.i b.invariant g (omega arith) (sym w.if-chooses_right.true ∙ c.chooses_right.ensures))
      | else-chooses_right w ↦ subst P (sym w.r-is) (joining-left _ _ b.i b.invariant g (sym w.if-chooses_right.false ∙ c.chooses_right.ensures))
    ]

pub returns : goal.returns
returns c =
    let b = c.loop-i in
    joining-all _ _ b.i b.invariant (λ j q h. unlooked-held width places entries _ _ c.requires.1 _ c.looked_at-i-end.ensures.0 j (omega arith) h)
