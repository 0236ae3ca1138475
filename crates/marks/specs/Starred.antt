-- Document 01, "Edges and a full session": the cases marked *, in its order.
use Rattle.std.specs.Prelude.{ℕ, ◌-◌, Bool, true, false, List, [], ◌∷◌, ◌++◌, length}
use Rattle.octets.specs.Bytes.{zeros}
use Rattle.marks.specs.declared.History.{History}
use Rattle.marks.specs.Packed.{places}

-- Whether left is stale by right.
pub record Case : Type 0 where
  pub left : History
  pub right : History
  pub superseded : Bool

-- The mark (L; n) with its frozen flag, as the code has it: L, then unused places, which are zero.
abbrev pub history : Bool → List ℕ → ℕ → History
history stable l n = record { stable = stable; incarnation = n; count = length l; checkpoints = l ++ zeros (places - length l) }

unfoldable pub starred_cases : List Case
starred_cases =
    -- (empty;0) by (empty;1) yes
    record { left = history false [] 0; right = history false [] 1; superseded = true }
    -- (empty;0) by (0;0) no
    ∷ record { left = history false [] 0; right = history false (0 ∷ []) 0; superseded = false }
    -- (0;0) by (0,1;0) yes
    ∷ record { left = history false (0 ∷ []) 0; right = history false (0 ∷ 1 ∷ []) 0; superseded = true }
    -- (0;1) by (0,1;0) no
    ∷ record { left = history false (0 ∷ []) 1; right = history false (0 ∷ 1 ∷ []) 0; superseded = false }
    -- (0;0) by itself frozen no
    ∷ record { left = history false (0 ∷ []) 0; right = history true (0 ∷ []) 0; superseded = false }
    -- (0,1;0) by (0;5) no
    ∷ record { left = history false (0 ∷ 1 ∷ []) 0; right = history false (0 ∷ []) 5; superseded = false }
    -- (empty;1) by (0;0) no
    ∷ record { left = history false [] 1; right = history false (0 ∷ []) 0; superseded = false }
    -- (0;3) by (0;4) yes
    ∷ record { left = history false (0 ∷ []) 3; right = history false (0 ∷ []) 4; superseded = true }
    ∷ []
