-- The cases marked * of document 01, proved against the rule by one computed test over the whole table.
use mathlib.Core.Bool.{Bool, true, false, beq, false≢true}
use mathlib.Core.Path.{◌≡◌, refl, sym, subst}
use mathlib.Core.List.{List, [], ◌∷◌, Memᴰ}
use Rattle.octets.specs.Bytes.{◌and◌, zeros}
use Rattle.octets.proofs.Zero.{both}
use Rattle.marks.specs.Incarnation.{same_list, begins_with, strict_prefix, superseded_by}
use Rattle.marks.specs.History.{incarnation_of}
use Rattle.marks.specs.Starred.{Case, starred_cases}

abbrev answer : Case → Bool
answer c = superseded_by (incarnation_of c.left) (incarnation_of c.right)

abbrev right : Case → Bool
right c = beq (answer c) c.superseded

abbrev all_right : List Case → Bool
all_right [] = true
all_right (c ∷ cs) = right c and all_right cs

beq-to : (t u : Bool) → beq t u ≡ true → t ≡ u
beq-to true true e = refl
beq-to true false e = absurd (false≢true e)
beq-to false true e = absurd (false≢true e)
beq-to false false e = refl

-- what the test says of each row
row : (c : Case) (cs : List Case) → all_right cs ≡ true → Memᴰ c cs → answer c ≡ c.superseded
row c [] e m = elim m [ ]
row c (d ∷ ds) e (Memᴰ.head p) =
    subst (λ z. answer z ≡ z.superseded) (sym p) (beq-to (answer d) d.superseded (both (right d) (all_right ds) e).0)
row c (d ∷ ds) e (Memᴰ.tail m) = row c ds (both (right d) (all_right ds) e).1 m

pub starred : (c : Case) → Memᴰ c starred_cases → superseded_by (incarnation_of c.left) (incarnation_of c.right) ≡ c.superseded
unfolding starred_cases zeros superseded_by strict_prefix begins_with same_list
starred c m = row c starred_cases refl m
