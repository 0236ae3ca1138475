use Rattle.std.proofs.Common.{arith, refl, sym, subst, ◌∙◌, ◌+◌}
use Rattle.maps.specs.Packed.{entries}
use Rattle.maps.proofs.Loops.{Joining, joining-right, joining-left, joining-all}
use Rattle.maps.proofs.DependenceMap.join.Goals as goal
use Rattle.maps.proofs.DependenceMap.join.Goals.{then-chooses_right, else-chooses_right}

pub loop-i-preserved : goal.loop-i-preserved
loop-i-preserved c =
    let b = c.loop-i in
    let P = Joining entries _ _ (b.i + 1) in
    elim c.if-chooses_right.branch [
      | then-chooses_right w ↦ subst P (sym w.self-is) (joining-right _ _ b.i b.invariant (record { held = refl; history = refl }) (omega arith) (sym w.if-chooses_right.true ∙ c.chooses_right.ensures))
      | else-chooses_right w ↦ subst P (sym w.self-is) (joining-left _ _ b.i b.invariant (record { held = refl; history = refl }) (sym w.if-chooses_right.false ∙ c.chooses_right.ensures))
    ]

pub returns : goal.returns
returns c = let b = c.loop-i in joining-all _ _ b.i b.invariant (λ j p h. absurd (omega arith))
