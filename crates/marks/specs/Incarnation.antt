-- Document 01, "Lives and marks": incarnations (lives), over lists of any length and numbers of any width.
use Rattle.std.specs.Prelude.{ℕ, ◌+◌, ◌<◌, Bool, true, false, ◌≡◌, List, [], ◌∷◌, ◌++◌, length, take, get_or, eqb, ltb}
use Rattle.octets.specs.Bytes.{◌and◌, ◌or◌}

-- A life: the list L of the life numbers at which its take was signed, oldest first, and the life number n.
pub record Incarnation : Type 0 where
  pub checkpoints : List ℕ
  pub number : ℕ

-- The first life of every take: L empty, n = 0.
abbrev pub initial_incarnation : Incarnation
initial_incarnation = record { checkpoints = []; number = 0 }

-- A fall gives n + 1, same L.
abbrev pub next_incarnation : Incarnation → Incarnation
next_incarnation a = record { checkpoints = a.checkpoints; number = a.number + 1 }

-- Signing appends n to L, then n = 0.
abbrev pub checkpoint_incarnation : Incarnation → Incarnation
checkpoint_incarnation a = record { checkpoints = a.checkpoints ++ (a.number ∷ []); number = 0 }

-- ---- tests

unfoldable pub same_list : List ℕ → List ℕ → Bool
same_list [] [] = true
same_list [] (y ∷ ys) = false
same_list (x ∷ xs) [] = false
same_list (x ∷ xs) (y ∷ ys) = eqb x y and same_list xs ys

-- ys begins with xs
unfoldable pub begins_with : List ℕ → List ℕ → Bool
begins_with ys xs = same_list xs (take (length xs) ys)

unfoldable pub strict_prefix : List ℕ → List ℕ → Bool
strict_prefix xs ys = ltb (length xs) (length ys) and begins_with ys xs

-- Stale by: the lists are equal and n of a is less than n of b; or a's list is a strict prefix of b's and the next
-- entry of b's list is greater than n of a.
unfoldable pub superseded_by : Incarnation → Incarnation → Bool
superseded_by a b =
    (same_list a.checkpoints b.checkpoints and ltb a.number b.number)
    or (strict_prefix a.checkpoints b.checkpoints and ltb a.number (get_or b.checkpoints (length a.checkpoints) 0))

-- Signed: the list of b, the present life of the same take, begins with a's list followed by a's n.
unfoldable pub checkpointed_in : Incarnation → Incarnation → Bool
checkpointed_in a b = begins_with b.checkpoints (a.checkpoints ++ (a.number ∷ []))

unfoldable pub same_incarnation : Incarnation → Incarnation → Bool
same_incarnation a b = same_list a.checkpoints b.checkpoints and eqb a.number b.number

-- ---- the same as relations, for theorems

-- Stale by.
pub data Superseded (a b : Incarnation) : Type 0 where
  lower : a.checkpoints ≡ b.checkpoints → a.number < b.number → Superseded a b
  passed : (y : ℕ) (r : List ℕ) → b.checkpoints ≡ a.checkpoints ++ y ∷ r → a.number < y → Superseded a b

-- Signed.
pub data Checkpointed (a b : Incarnation) : Type 0 where
  begins : (r : List ℕ) → b.checkpoints ≡ a.checkpoints ++ a.number ∷ r → Checkpointed a b
