-- Why no volume with a take could be signed. `smallest_group` says that none exists; this says which take is in the way, and by which of
-- those that it rests on a chain leads there. (An obstacle of one volume misleads where no volume can help.)
use Rattle.std.specs.Prelude.{ℕ, zero, suc, ◌≤◌, ◌<◌, Bool, true, false, not, ◌≡◌, List, eqb, ltb, leb, Option, Some, None}
use Rattle.octets.specs.Bytes.{pick, ◌and◌, ◌or◌}
use Rattle.marks.specs.declared.History.{History}
use Rattle.marks.specs.Incarnation.{checkpointed_in, same_incarnation}
use Rattle.marks.specs.History.{incarnation_of}
use Rattle.maps.specs.declared.DependenceMap.{DependenceMap}
use Rattle.maps.specs.Map.{held_at, history_at}
use Rattle.rules.specs.declared.Impediment.{Impediment}
use Rattle.rules.specs.declared.Impediment.TheVariants.{Hopeless, Exhausted, Unstable}
use Rattle.rules.specs.Layout.{Layout}
use Rattle.rules.specs.State.{State, transactor_at, own_history, live, place_from}
use Rattle.rules.specs.Pack.{unpack}
use Rattle.rules.specs.Calls.{query_refusal}
use Rattle.rules.specs.Groups.{Checkpointable}
use Rattle.rules.specs.Dependents.{rests_at, through_at}
use Rattle.rules.specs.Obstacle.{StandsIn, WithdrawnMark}

-- ---- the numbers of each answer

pub record ImpedimentNumbers : Type 0 where
  pub kind : ℕ
  -- the take that is in the way
  pub transactor : ℕ
  -- the take of which it has a mark that can't be signed
  pub support : ℕ
  -- the next take from the one asked about to the one in the way
  pub next : ℕ

abbrev pub impediment_numbers : Option Impediment → ImpedimentNumbers
impediment_numbers None = record { kind = 0; transactor = 0; support = 0; next = 0 }
impediment_numbers (Some (Hopeless c u x)) = record { kind = 1; transactor = c; support = u; next = x }
impediment_numbers (Some (Exhausted c x)) = record { kind = 2; transactor = c; support = 0; next = x }
impediment_numbers (Some (Unstable c x)) = record { kind = 3; transactor = c; support = 0; next = x }

-- ---- what is in the way

-- "A life is withdrawn if its take vanished, or if it is neither present nor signed": that of the mark h of take u
unfoldable pub is_withdrawn : State → ℕ → History → Bool
is_withdrawn s u h =
    not (live (transactor_at s u)
    and (checkpointed_in (incarnation_of h) (incarnation_of (own_history u (transactor_at s u)))
    or same_incarnation (incarnation_of h) (incarnation_of (own_history u (transactor_at s u)))))

-- m has a mark of take u, of a withdrawn life
unfoldable pub withdrawn_in : State → DependenceMap → ℕ → Bool
withdrawn_in s m u = held_at m u and is_withdrawn s u (history_at m u)

-- the state or creation map of take c has
unfoldable pub withdrawn_by : State → ℕ → ℕ → Bool
withdrawn_by s c u = withdrawn_in s (transactor_at s c).state u or withdrawn_in s (transactor_at s c).creation u

-- the first take u of which take c has such a mark, or how many takes there are
unfoldable pub lost_ground : Layout → State → ℕ → ℕ
lost_ground y s c = place_from (withdrawn_by s c) 0 y.transactors

-- Take c is in the way. 1: it has such a mark, and can't be signed in this life. 2: it has all the signings that the session allows.
-- 3: it is not frozen.
unfoldable pub impedes_at : Layout → State → ℕ → ℕ → Bool
impedes_at y s kind c =
    pick (eqb kind 1) (ltb (lost_ground y s c) y.transactors)
    (pick (eqb kind 2) (leb s.limits.checkpoints (own_history c (transactor_at s c)).count)
    (not (own_history c (transactor_at s c)).stable))

-- the lowest take in the way, of take t and those that it rests on, directly or through the present lives of others; or how many takes there are
unfoldable pub lowest_for : Layout → State → ℕ → ℕ → ℕ
lowest_for y s kind t = place_from (λ c. through_at s y.transactors c t and impedes_at y s kind c) 0 y.transactors

-- ---- the chain

-- The take next to take w on a chain to take c, where w rests on c's present life, directly or through the present lives of some of the first k
-- takes: c itself if directly; where take k has to be passed, the next on the chain to k (Follows).
unfoldable pub next_at : State → ℕ → ℕ → ℕ → ℕ
next_at s zero c w = c
next_at s (suc k) c w = pick (through_at s k c w) (next_at s k c w) (next_at s k k w)

-- ---- the first that is one: all of kind 1 before those of kind 2, and these before those of kind 3

unfoldable pub impediment_of : Layout → State → ℕ → Option Impediment
impediment_of y s t =
    let n : ℕ = y.transactors in
    let c : ℕ → ℕ = λ kind. lowest_for y s kind t in
    pick (ltb (c 1) n) (Some (Hopeless (c 1) (lost_ground y s (c 1)) (next_at s n (c 1) t)))
    (pick (ltb (c 2) n) (Some (Exhausted (c 2) (next_at s n (c 2) t)))
    (pick (ltb (c 3) n) (Some (Unstable (c 3) (next_at s n (c 3) t))) None))

-- ---- the call

-- 16, 19, 21 and 22 as offer; refused: nothing
unfoldable pub impediment_answer : Layout → List ℕ → ℕ → Option Impediment
impediment_answer y img t = pick (eqb (query_refusal y img t) 0) (impediment_of y (unpack y img) t) None

-- ---- for theorems: what each answer means, in the rules' words

-- Following `next` from take t leads to take c: each rests on the present life of the next.
pub data Follows (y : Layout) (s : State) (c : ℕ) : ℕ → Type 0 where
  arrived : Follows y s c c
  link : {t : ℕ} → rests_at s (next_at s y.transactors c t) t ≡ true → Follows y s c (next_at s y.transactors c t) → Follows y s c t

-- a chain leads from take t to the live take c, and x is the next on it
pub record Leads (y : Layout) (s : State) (t c x : ℕ) : Type 0 where
  pub live : live (transactor_at s c) ≡ true
  pub next : x ≡ next_at s y.transactors c t
  pub follows : Follows y s c t

pub data Impedes (y : Layout) (s : State) (t : ℕ) : Option Impediment → Type 0 where
  is-nothing : {v : ℕ} → Checkpointable y s t v → Impedes y s t None
  is-hopeless : {c u x : ℕ} {h : History} → Leads y s t c x → u < y.transactors → StandsIn s c u h → WithdrawnMark s u h → Impedes y s t (Some (Hopeless c u x))
  is-exhausted : {c x : ℕ} → Leads y s t c x → s.limits.checkpoints ≤ (own_history c (transactor_at s c)).count → Impedes y s t (Some (Exhausted c x))
  is-unstable : {c x : ℕ} → Leads y s t c x → (own_history c (transactor_at s c)).stable ≡ false → Impedes y s t (Some (Unstable c x))

-- Asked about the next take on the chain, the call is not refused, and answers o but for the next of it.
pub data Again (y : Layout) (img : List ℕ) : Option Impediment → Type 0 where
  again-hopeless : {c u x : ℕ} → query_refusal y img x ≡ 0 → impediment_answer y img x ≡ Some (Hopeless c u (next_at (unpack y img) y.transactors c x)) → Again y img (Some (Hopeless c u x))
  again-exhausted : {c x : ℕ} → query_refusal y img x ≡ 0 → impediment_answer y img x ≡ Some (Exhausted c (next_at (unpack y img) y.transactors c x)) → Again y img (Some (Exhausted c x))
  again-unstable : {c x : ℕ} → query_refusal y img x ≡ 0 → impediment_answer y img x ≡ Some (Unstable c (next_at (unpack y img) y.transactors c x)) → Again y img (Some (Unstable c x))
