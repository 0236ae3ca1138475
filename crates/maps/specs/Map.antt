-- Document 01, "Lives and marks": dependence maps (maps), over the number n of entries and the length l of a history's list.
use Rattle.std.specs.Prelude.{ℕ, zero, suc, ◌<◌, Bool, true, false, not, List, [], ◌≡◌, get_or, set, replicate, length, Some, None, Option as RustOption}
use Rattle.std.proofs.Math.Option.{Option, none, some}
use Rattle.octets.specs.Bytes.{pick, ◌and◌, ◌or◌, tabulate, every, any}
use Rattle.marks.specs.declared.History.{History}
use Rattle.marks.specs.History.{incarnation_of, initial_history, is_older, Roomy, Newer}
use Rattle.marks.specs.Incarnation.{superseded_by}
use Rattle.marks.specs.Relation.{relation_of, is_unrelated}
use Rattle.maps.specs.declared.DependenceMap.{DependenceMap}

-- whether m has a mark of take i
abbrev pub held_at : DependenceMap → ℕ → Bool
held_at m i = get_or m.held i false

-- the mark in place i; past the end, what an array of histories gives there
abbrev pub entry_of : List History → ℕ → History
entry_of l i = get_or l i (record { stable = false; incarnation = 0; count = 0; checkpoints = [] })

-- m's mark of take i
abbrev pub history_at : DependenceMap → ℕ → History
history_at m i = entry_of m.histories i

-- No mark of any take. An entry that is not held is the initial history, so that equal maps are equal values.
unfoldable pub empty_map : ℕ → ℕ → DependenceMap
empty_map l n = record { held = replicate n false; histories = replicate n (initial_history l) }

-- m with the mark h for take i
unfoldable pub with_entry : DependenceMap → ℕ → History → DependenceMap
with_entry m i h = record { held = set m.held i true; histories = set m.histories i h }

-- the mark h of take i alone
unfoldable pub singleton : ℕ → ℕ → ℕ → History → DependenceMap
singleton l n i h = with_entry (empty_map l n) i h

unfoldable pub is_empty : ℕ → DependenceMap → Bool
is_empty n m = every n (λ i. not (held_at m i))

-- ---- Joining takes the newer mark where both have one.

-- whether the joined entry is the right one
unfoldable pub chooses_right : Bool → History → Bool → History → Bool
chooses_right p x q y = pick q (pick p (is_older x y) true) false

unfoldable pub joined_history : Bool → History → Bool → History → History
joined_history p x q y = pick (chooses_right p x q y) y x

unfoldable pub joined_held_at : DependenceMap → DependenceMap → ℕ → Bool
joined_held_at a b i = held_at a i or held_at b i

unfoldable pub joined_history_at : DependenceMap → DependenceMap → ℕ → History
joined_history_at a b i = joined_history (held_at a i) (history_at a i) (held_at b i) (history_at b i)

unfoldable pub join_of : ℕ → DependenceMap → DependenceMap → DependenceMap
join_of n a b = record { held = tabulate n (joined_held_at a b); histories = tabulate n (joined_history_at a b) }

-- ---- "a mark of the parcel is stale by the take's mark": of one and the same take

-- both are held, and x is stale by y
unfoldable pub superseded_entry : Bool → History → Bool → History → Bool
superseded_entry p x q y = p and q and superseded_by (incarnation_of x) (incarnation_of y)

-- both have a mark of take i, and that of a is stale by that of b
unfoldable pub superseded_at : DependenceMap → DependenceMap → ℕ → Bool
superseded_at a b i = superseded_entry (held_at a i) (history_at a i) (held_at b i) (history_at b i)

-- the first of the n numbers from k on at which f holds
unfoldable pub first_from : (ℕ → Bool) → ℕ → ℕ → Option ℕ
first_from f k zero = none
first_from f k (suc n) = pick (f k) (some k) (first_from f (suc k) n)

-- the first take of which a's mark is stale by b's
unfoldable pub first_superseded : ℕ → DependenceMap → DependenceMap → Option ℕ
first_superseded n a b = first_from (superseded_at a b) 0 n

-- what the comparison's answer says: the number of the first such take, or none
abbrev pub answer_of : RustOption ℕ → Option ℕ
answer_of (Some i) = some i
answer_of None = none

-- ---- Document 02, W3: "some take has unrelated marks in the parcel and in the receiver's joined state and creation maps"

-- both are held, and x and y are unrelated
unfoldable pub unrelated_entry : Bool → History → Bool → History → Bool
unrelated_entry p x q y = p and q and is_unrelated (relation_of (incarnation_of x) (incarnation_of y))

-- both have a mark of take i, and the two are unrelated
unfoldable pub unrelated_at : DependenceMap → DependenceMap → ℕ → Bool
unrelated_at a b i = unrelated_entry (held_at a i) (history_at a i) (held_at b i) (history_at b i)

-- some take has unrelated marks in a and in b
unfoldable pub any_unrelated : ℕ → DependenceMap → DependenceMap → Bool
any_unrelated n a b = any n (unrelated_at a b)

-- ---- for theorems

-- m has n entries
pub record Sized (n : ℕ) (m : DependenceMap) : Type 0 where
  pub helds : length m.held ≡ n
  pub histories : length m.histories ≡ n

-- what two entries join to, whether and with what history
pub data Joined (p : Bool) (x : History) (q : Bool) (y : History) : Bool → History → Type 0 where
  both : {m : History} → p ≡ true → q ≡ true → Newer x y m → Joined p x q y true m
  left : p ≡ true → q ≡ false → Joined p x q y true x
  right : p ≡ false → q ≡ true → Joined p x q y true y
  neither : p ≡ false → q ≡ false → Joined p x q y false x

-- every mark of a map is of one of the n takes, and has room for l signings
pub record Within (l n : ℕ) (m : DependenceMap) : Type 0 where
  pub below : (u : ℕ) → held_at m u ≡ true → u < n
  pub roomy : (u : ℕ) → held_at m u ≡ true → Roomy l (history_at m u)
