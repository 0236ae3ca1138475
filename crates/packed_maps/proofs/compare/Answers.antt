-- What a turn looks at: entry i - 1.
use Rattle.std.proofs.Common.{ℕ, ◌+◌, ◌-◌, ◌*◌, ◌≡◌, ◌⊎◌, ◌<◌, inl, inr, List, arith, refl}
use Rattle.octets.specs.Bytes.{part}
use Rattle.marks.specs.declared.Relation.{Relation}
use Rattle.marks.specs.declared.Relation.TheVariants.{Same, LeftCheckpointed, RightCheckpointed, LeftSuperseded, RightSuperseded, Unrelated}
use Rattle.marks.specs.Packed.{width, places, history_size, history_in, present_in}
use Rattle.maps.specs.declared.DependenceMap.{DependenceMap}
use Rattle.maps.specs.Map.{held_at, history_at}
use Rattle.maps.specs.Packed.{entries, map_in}
use Rattle.maps.proofs.Map.{Entry}
use Rattle.maps.proofs.Packed.{bounded_at}
use Rattle.maps.proofs.Joins.{entry_in}
use Rattle.maps.proofs.Compared.{Other, compared-none, compared-all, compared-unrelated, compared-left, compared-right, compared-other}
use Rattle.packed_maps.proofs.compare.Goals as goal

here : (s : List ℕ) (at i : ℕ) → i < entries
    → Entry (map_in width places entries s at) i (present_in (part (at + history_size width places * i) (history_size width places) s)) (history_in width places s (at + history_size width places * i))
here s at i below = entry_in width places entries s at i below refl refl

own : (m : DependenceMap) (i : ℕ) → Entry m i (held_at m i) (history_at m i)
own m i = record { held = refl; history = refl }

-- the first three answers
other : (r : Relation) → (r ≡ Same) ⊎ ((r ≡ LeftCheckpointed) ⊎ (r ≡ RightCheckpointed)) → Other r
other Same h = record { related = refl; left = refl; right = refl }
other LeftCheckpointed h = record { related = refl; left = refl; right = refl }
other RightCheckpointed h = record { related = refl; left = refl; right = refl }
other LeftSuperseded h = elim h [ inl e ↦ cc | inr k ↦ elim k [ inl e ↦ cc | inr e ↦ cc ] ]
other RightSuperseded h = elim h [ inl e ↦ cc | inr k ↦ elim k [ inl e ↦ cc | inr e ↦ cc ] ]
other Unrelated h = elim h [ inl e ↦ cc | inr k ↦ elim k [ inl e ↦ cc | inr e ↦ cc ] ]

pub loop-i-init : goal.loop-i-init
loop-i-init c = compared-none _ _ _ _ refl

pub relation_at-requires : goal.relation_at-requires
relation_at-requires c = (omega arith, bounded_at places _ c.requires.1 (c.loop-i.i - 1))

pub loop-i-preserved-in-LeftSuperseded : goal.loop-i-preserved-in-LeftSuperseded
loop-i-preserved-in-LeftSuperseded c =
    let i = c.loop-i.i in
    compared-left (i - 1) i (omega arith) (omega arith) c.loop-i.invariant (here _ _ (i - 1) (omega arith)) (own _ (i - 1)) c.relation_at.ensures c.in-LeftSuperseded.is

pub loop-i-preserved-in-RightSuperseded : goal.loop-i-preserved-in-RightSuperseded
loop-i-preserved-in-RightSuperseded c =
    let i = c.loop-i.i in
    compared-right (i - 1) i (omega arith) (omega arith) c.loop-i.invariant (here _ _ (i - 1) (omega arith)) (own _ (i - 1)) c.relation_at.ensures c.in-RightSuperseded.is

pub loop-i-preserved-in-Unrelated : goal.loop-i-preserved-in-Unrelated
loop-i-preserved-in-Unrelated c =
    let i = c.loop-i.i in
    compared-unrelated (i - 1) i (omega arith) (omega arith) c.loop-i.invariant (here _ _ (i - 1) (omega arith)) (own _ (i - 1)) c.relation_at.ensures c.in-Unrelated.is

pub loop-i-preserved : goal.loop-i-preserved
loop-i-preserved c =
    let i = c.loop-i.i in
    compared-other (i - 1) i (omega arith) (omega arith) c.loop-i.invariant (here _ _ (i - 1) (omega arith)) (own _ (i - 1)) c.relation_at.ensures (other _ c.in-Same.is)

pub returns : goal.returns
returns c = compared-all _ _ _ _ (omega arith) c.loop-i.invariant
