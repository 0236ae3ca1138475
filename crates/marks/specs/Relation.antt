-- Document 02, W3, "Marks from two different books": the comparison of two lives, over lists of any length and numbers of any
-- width. "It says: same life, earlier one signed, earlier one withdrawn, or unrelated; of the middle two, also which mark is earlier."
use Rattle.std.specs.Prelude.{ℕ, Bool, ◌≡◌, length, get_or, eqb, ltb}
use Rattle.octets.specs.Bytes.{pick}
use Rattle.marks.specs.declared.Relation.{Relation}
use Rattle.marks.specs.declared.Relation.TheVariants.{Same, LeftCheckpointed, RightCheckpointed, LeftSuperseded, RightSuperseded, Unrelated}
use Rattle.marks.specs.Incarnation.{Incarnation, same_list, strict_prefix, Superseded, Checkpointed}
use Rattle.marks.specs.Order.{Precedes}

-- the same two marks, the other way round
abbrev pub turned : Relation → Relation
turned Same = Same
turned LeftCheckpointed = RightCheckpointed
turned RightCheckpointed = LeftCheckpointed
turned LeftSuperseded = RightSuperseded
turned RightSuperseded = LeftSuperseded
turned Unrelated = Unrelated

-- "Equal lists are always related": the earlier mark has "the smaller n", and is stale by the other.
unfoldable pub by_numbers : ℕ → ℕ → Relation
by_numbers n m = pick (ltb n m) LeftSuperseded (pick (ltb m n) RightSuperseded Same)

-- And "unequal lists are related if one is a strict prefix and the other's next entry is not less than the prefix mark's n." The prefix
-- mark, here the left one, is the earlier: "it is signed if that next entry is its n", and else stale by the other.
unfoldable pub by_next_entry : ℕ → ℕ → Relation
by_next_entry n next = pick (ltb next n) Unrelated (pick (eqb n next) LeftCheckpointed LeftSuperseded)

-- the entry of b's list past a's
abbrev pub next_entry : Incarnation → Incarnation → ℕ
next_entry a b = get_or b.checkpoints (length a.checkpoints) 0

unfoldable pub relation_of : Incarnation → Incarnation → Relation
relation_of a b =
    pick (same_list a.checkpoints b.checkpoints) (by_numbers a.number b.number)
    (pick (strict_prefix a.checkpoints b.checkpoints) (by_next_entry a.number (next_entry a b))
    (pick (strict_prefix b.checkpoints a.checkpoints) (turned (by_next_entry b.number (next_entry b a)))
    Unrelated))

-- ---- what an answer says

-- the number of each answer
abbrev pub relation_number : Relation → ℕ
relation_number Same = 0
relation_number LeftCheckpointed = 1
relation_number RightCheckpointed = 2
relation_number LeftSuperseded = 3
relation_number RightSuperseded = 4
relation_number Unrelated = 5

-- same life
abbrev pub is_same : Relation → Bool
is_same r = eqb (relation_number r) 0

-- the left mark is the earlier one, and signed
abbrev pub is_left_checkpointed : Relation → Bool
is_left_checkpointed r = eqb (relation_number r) 1

-- the left mark is the earlier one, and withdrawn: "exactly if it is stale by the other"
abbrev pub is_left_superseded : Relation → Bool
is_left_superseded r = eqb (relation_number r) 3

abbrev pub is_unrelated : Relation → Bool
is_unrelated r = eqb (relation_number r) 5

-- ---- for theorems: what each answer means

-- a and b compared
pub data Related (a b : Incarnation) : Relation → Type 0 where
  same : a ≡ b → Related a b Same
  left-checkpointed : Checkpointed a b → Related a b LeftCheckpointed
  right-checkpointed : Checkpointed b a → Related a b RightCheckpointed
  left-superseded : Superseded a b → Related a b LeftSuperseded
  right-superseded : Superseded b a → Related a b RightSuperseded
  unrelated : (Precedes a b → ⊥) → (Precedes b a → ⊥) → Related a b Unrelated
