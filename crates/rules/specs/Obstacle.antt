-- Why a volume can't be signed now. Students confuse frozen with signed and cannot see why a volume is not ready.
use Rattle.std.specs.Prelude.{ℕ, zero, suc, ◌<◌, Bool, true, false, not, ◌≡◌, List, length, eqb, Option, Some, None}
use Rattle.std.specs.Option.{option_or}
use Rattle.octets.specs.Bytes.{pick, ◌and◌}
use Rattle.octets.specs.Numbers.{bound}
use Rattle.marks.specs.declared.History.{History}
use Rattle.marks.specs.Incarnation.{same_incarnation, Checkpointed}
use Rattle.marks.specs.History.{incarnation_of}
use Rattle.maps.specs.declared.DependenceMap.{DependenceMap}
use Rattle.maps.specs.Map.{held_at, history_at}
use Rattle.rules.specs.declared.Obstacle.{Obstacle}
use Rattle.rules.specs.declared.Obstacle.TheVariants.{Unstable, Outside, SupersededOrAnnihilated}
use Rattle.rules.specs.Layout.{Layout, image_bytes}
use Rattle.rules.specs.State.{State, transactor_at, own_history, live}
use Rattle.rules.specs.Step.{done}
use Rattle.rules.specs.Refusals.{named}
use Rattle.rules.specs.Rules.{entry_ready, group_ready, refusal, step_of}
use Rattle.rules.specs.Pack.{unpack}
use Rattle.rules.specs.Form.{well_formed}
use Rattle.rules.specs.Calls.{wrong_length}
use Rattle.rules.specs.Groups.{signing, signing_refusal}

-- ---- the numbers of each answer

pub record ObstacleNumbers : Type 0 where
  pub kind : ℕ
  -- the named take
  pub transactor : ℕ
  -- the take that it rests on
  pub support : ℕ

abbrev pub obstacle_numbers : Option Obstacle → ObstacleNumbers
obstacle_numbers None = record { kind = 0; transactor = 0; support = 0 }
obstacle_numbers (Some (Unstable t)) = record { kind = 1; transactor = t; support = 0 }
obstacle_numbers (Some (Outside t u)) = record { kind = 2; transactor = t; support = u }
obstacle_numbers (Some (SupersededOrAnnihilated t u)) = record { kind = 3; transactor = t; support = u }

-- the first of f k, f (k + 1), .., n of them, that is one
unfoldable pub first_of : (ℕ → Option Obstacle) → ℕ → ℕ → Option Obstacle
first_of f k zero = None
first_of f k (suc n) = option_or (f k) (first_of f (suc k) n)

-- ---- what keeps volume v from being signed

-- take t is named and not frozen
unfoldable pub unstable_at : State → ℕ → ℕ → Option Obstacle
unstable_at s v t = pick (named v t and not (own_history t (transactor_at s t)).stable) (Some (Unstable t)) None

-- m has a mark of take u that is "neither of a signed life nor of the present life of a named take"
unfoldable pub blocks_in : State → ℕ → DependenceMap → ℕ → Bool
blocks_in s v m u = held_at m u and not (entry_ready s v u (history_at m u))

-- h is a mark of the present life of live take u
unfoldable pub is_present : State → ℕ → History → Bool
is_present s u h = live (transactor_at s u) and same_incarnation (incarnation_of h) (incarnation_of (own_history u (transactor_at s u)))

-- what such a mark h of take u, in a map of take t, tells: the present life of a take that v does not name, or a withdrawn life
unfoldable pub ground_of : State → ℕ → ℕ → History → Obstacle
ground_of s t u h = pick (is_present s u h) (Outside t u) (SupersededOrAnnihilated t u)

-- the marks of take u in the maps of take t, state before creation
unfoldable pub entry_obstacle : State → ℕ → ℕ → ℕ → Option Obstacle
entry_obstacle s v t u =
    pick (blocks_in s v (transactor_at s t).state u) (Some (ground_of s t u (history_at (transactor_at s t).state u)))
    (pick (blocks_in s v (transactor_at s t).creation u) (Some (ground_of s t u (history_at (transactor_at s t).creation u))) None)

-- the maps of take t, if it is named, entry by entry
unfoldable pub map_obstacle : Layout → State → ℕ → ℕ → Option Obstacle
map_obstacle y s v t = pick (named v t) (first_of (entry_obstacle s v t) 0 y.transactors) None

-- the first named take that is not frozen; else the first mark, take by take and entry by entry
unfoldable pub obstacle_of : Layout → State → ℕ → Option Obstacle
obstacle_of y s v = option_or (first_of (unstable_at s v) 0 y.transactors) (first_of (map_obstacle y s v) 0 y.transactors)

-- ---- the call

-- 16, 19, then what the signing itself would be refused with: 29, 21, 22, 30
unfoldable pub obstacle_refusal : Layout → List ℕ → ℕ → ℕ
obstacle_refusal y img v =
    pick (wrong_length y img) 16
    (pick (not (well_formed y img)) 19 (signing_refusal (refusal y (unpack y img)) v))

-- refused: nothing
unfoldable pub obstacle_answer : Layout → List ℕ → ℕ → Option Obstacle
obstacle_answer y img v = pick (eqb (obstacle_refusal y img v) 0) (obstacle_of y (unpack y img) v) None

-- ---- for theorems: what each answer means, in the rules' words

-- volume v could be signed on the image: the image has the right length and is well-formed, and the signing would reply 0
pub record CouldSign (y : Layout) (img : List ℕ) (v : ℕ) : Type 0 where
  pub long : length img ≡ image_bytes y
  pub formed : well_formed y img ≡ true
  pub bits : v < bound 2
  pub signs : (step_of y (unpack y img) (signing v)).reply.outcome ≡ done

-- the mark h of take u stands in the state or creation map of take t
pub data StandsIn (s : State) (t u : ℕ) (h : History) : Type 0 where
  in-state : held_at (transactor_at s t).state u ≡ true → h ≡ history_at (transactor_at s t).state u → StandsIn s t u h
  in-creation : held_at (transactor_at s t).creation u ≡ true → h ≡ history_at (transactor_at s t).creation u → StandsIn s t u h

-- "A life is withdrawn if its take vanished, or if it is neither present nor signed": the life of the mark h of take u
pub record WithdrawnMark (s : State) (u : ℕ) (h : History) : Type 0 where
  pub not-present : live (transactor_at s u) ≡ true → incarnation_of h ≡ incarnation_of (own_history u (transactor_at s u)) → ⊥
  pub not-checkpointed : live (transactor_at s u) ≡ true → Checkpointed (incarnation_of h) (incarnation_of (own_history u (transactor_at s u))) → ⊥

pub data Obstructs (y : Layout) (s : State) (v : ℕ) : Option Obstacle → Type 0 where
  is-ready : group_ready y s v ≡ true → Obstructs y s v None
  is-unstable : {t : ℕ} → t < y.transactors → named v t ≡ true → (own_history t (transactor_at s t)).stable ≡ false → Obstructs y s v (Some (Unstable t))
  is-outside : {t u : ℕ} {h : History} → t < y.transactors → u < y.transactors → named v t ≡ true → StandsIn s t u h
      → live (transactor_at s u) ≡ true → incarnation_of h ≡ incarnation_of (own_history u (transactor_at s u)) → named v u ≡ false → Obstructs y s v (Some (Outside t u))
  is-withdrawn : {t u : ℕ} {h : History} → t < y.transactors → u < y.transactors → named v t ≡ true → StandsIn s t u h → WithdrawnMark s u h → Obstructs y s v (Some (SupersededOrAnnihilated t u))
