-- Two packed marks of one take compared: document 02, W3, and which of them is the newer, document 01, "Lives and marks".
use Rattle.std.specs.Prelude.{ℕ, Bool, not, ◌≡◌, List, length, eqb, Result, Ok, Err}
use Rattle.octets.specs.Bytes.{pick, ◌and◌}
use Rattle.marks.specs.declared.History.{History}
use Rattle.marks.specs.Packed.{width, places, history_size, bit, unpack_history, present_in, formed_history}
use Rattle.marks.specs.History.{incarnation_of, is_older}
use Rattle.marks.specs.Relation.{relation_of, relation_number}
use Rattle.rules.specs.declared.refusals.Refusal.{Refusal}
use Rattle.decisive.specs.declared.Compared.{Compared}

-- The relation's number: 0 same life; 1, 2 earlier one signed, the left, the right one being the earlier; 3, 4 earlier one withdrawn, the
-- same; 5 unrelated. And the newer, which joining takes: 0 the left one, 1 the right one.
unfoldable pub compared_of : History → History → Compared
compared_of a b = record { relation = relation_number (relation_of (incarnation_of a) (incarnation_of b)); newer = bit (is_older a b) }

-- bytes that are no mark: absent, or ill-formed
unfoldable pub is_history : List ℕ → Bool
is_history b = present_in b and formed_history width places b

-- 16: not as long as a mark; 19: no mark
unfoldable pub compare_refusal : List ℕ → List ℕ → ℕ
compare_refusal a b =
    pick (not (eqb (length a) (history_size width places))) 16
    (pick (not (eqb (length b) (history_size width places))) 16
    (pick (not (is_history a)) 19
    (pick (not (is_history b)) 19 0)))

-- refused: both 0
abbrev pub uncompared : Compared
uncompared = record { relation = 0; newer = 0 }

unfoldable pub compare_answer : List ℕ → List ℕ → Compared
compare_answer a b =
    pick (eqb (compare_refusal a b) 0) (compared_of (unpack_history width places a) (unpack_history width places b)) uncompared

-- what is told of an answer
abbrev pub compared_in : Result Compared Refusal → Compared
compared_in (Ok c) = c
compared_in (Err r) = uncompared

-- what the call promises: r is the number of the refusal, or 0
abbrev pub ComparePromise : (a b : List ℕ) (r : ℕ) → Compared → Type 0
ComparePromise a b r answer = (r ≡ compare_refusal a b) × (answer ≡ compare_answer a b)
