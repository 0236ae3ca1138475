-- One walk back over the steps, which carries no life: of each take it is enough to know whether its life was another one since, and
-- whether the life that it had ended in a fall. Two sets of places are followed at once, the left and the right.
use Rattle.std.specs.Prelude.{ℕ, zero, suc, ◌*◌, ◌≤◌, ◌<◌, Bool, true, false, not, List, eqb, length}
use Rattle.std.proofs.Math.Option.{Option, none, some}
use Rattle.octets.specs.Bytes.{pick, ◌and◌, ◌or◌, any, part}
use Rattle.marks.specs.Incarnation.{Incarnation, initial_incarnation}
use Rattle.rules.specs.declared.Step.{Step}
use Rattle.rules.specs.declared.Told.{Told}
use Rattle.rules.specs.Step.{step_bytes, step_at, unpack_told, done, fallen_back, sign, is_refusal}
use Rattle.rules.specs.Refusals.{group_bits, named}
use Rattle.engine_chains.specs.Chain.{Places, message_alone, ground_of, Event, back, met_of}
use Rattle.engine_chains.specs.Back.{event_from}

pub record Walk : Type 0 where
  -- the places followed
  pub left : Places
  pub right : Places
  -- takes of which a life was met
  pub left_met : ℕ → Bool
  pub right_met : ℕ → Bool
  -- takes of which a life was met that is another one than that of this point
  pub left_past : ℕ → Bool
  pub right_past : ℕ → Bool
  -- takes whose life of this point ended in a fall
  pub ended : ℕ → Bool
  -- takes whose present life may be met on the right
  pub allowed : ℕ → Bool
  -- a life met on the left is stale by one met on the right; one on the right by one on the left
  pub left_is_superseded : Bool
  pub right_is_superseded : Bool
  -- the present life of a take that is not allowed was met on the right
  pub unallowed : Bool

-- ---- going back over one step

abbrev pub is_met : Option Incarnation → Bool
is_met none = false
is_met (some a) = true

-- a life of take u is met
unfoldable pub meets : Event → Places → ℕ → Bool
meets e Q u = is_met (met_of e Q u)

-- take u fell back; it was signed
unfoldable pub was_rolled_back : Told → ℕ → Bool
was_rolled_back w u = eqb w.outcome fallen_back and eqb w.transactor u

unfoldable pub was_checkpointed : Step → Told → ℕ → Bool
was_checkpointed p w u = (eqb p.kind sign and eqb w.outcome done) and named p.message u

-- over the event e, at which the takes F fell and the takes S were signed
unfoldable pub over : Event → (ℕ → Bool) → (ℕ → Bool) → Walk → Walk
over e F S x =
    let L : ℕ → Bool = meets e x.left in
    let R : ℕ → Bool = meets e x.right in
    record {
      left = back e x.left;
      right = back e x.right;
      left_met = λ u. x.left_met u or L u;
      right_met = λ u. x.right_met u or R u;
      left_past = λ u. x.left_past u or ((x.left_met u or L u) and (F u or S u));
      right_past = λ u. x.right_past u or ((x.right_met u or R u) and (F u or S u));
      ended = λ u. pick (F u) true (pick (S u) false (x.ended u));
      allowed = x.allowed;
      left_is_superseded = x.left_is_superseded or any group_bits (λ u. L u and x.right_past u and x.ended u);
      right_is_superseded = x.right_is_superseded or any group_bits (λ u. R u and x.left_past u and x.ended u);
      unallowed = x.unallowed or any group_bits (λ u. R u and not (x.left_past u) and not (x.allowed u));
    }

-- places and takes met do not depend on the lives
abbrev pub no_incarnations : ℕ → Incarnation
no_incarnations u = initial_incarnation

unfoldable pub over_step : Step → Told → Walk → Walk
over_step p w x = pick (is_refusal w.outcome) x (over (event_from p w no_incarnations) (was_rolled_back w) (was_checkpointed p w) x)

-- ---- over the first i steps, the last one first

unfoldable pub walk_back : List ℕ → (ℕ → Told) → ℕ → Walk → Walk
walk_back steps replies zero x = x
walk_back steps replies (suc i) x = walk_back steps replies i (over_step (step_at steps i) (replies i) x)

abbrev pub start_from : Places → Places → (ℕ → Bool) → (ℕ → Bool) → Walk
start_from left right met allowed = record {
  left = left;
  right = right;
  left_met = met;
  right_met = λ u. false;
  left_past = λ u. false;
  right_past = λ u. false;
  ended = λ u. false;
  allowed = allowed;
  left_is_superseded = false;
  right_is_superseded = false;
  unallowed = false;
}

-- a receipt of parcel n by take t: the parcel on the left, the take's state and creation on the right
abbrev pub receipt_start : ℕ → ℕ → Walk
receipt_start n t = start_from (message_alone n) (ground_of (λ k. eqb k t)) (λ u. false) (λ u. true)

-- a signing of volume g: the present lives on the left, state and creation of the named takes on the right
abbrev pub sign_start : ℕ → Walk
sign_start g = start_from (ground_of (λ k. false)) (ground_of (named g)) (λ u. true) (named g)

-- ---- over the step list and the packed replies given so far

-- reply j of a list
unfoldable pub told_in : List ℕ → ℕ → Told
told_in b j = unpack_told (part (step_bytes * j) step_bytes b)

-- What the walk reads of the first i steps and of the replies to them is there, and its numbers are in range.
pub record Walkable (steps replies : List ℕ) (i : ℕ) : Type 0 where
  pub listed : step_bytes * i ≤ length steps
  pub replied : step_bytes * i ≤ length replies
  pub within : (j : ℕ) → j < i → ((told_in replies j).transactor < 16) × ((told_in replies j).message < 1024)

-- the walk for the receipt of parcel n by take t, and that for a signing of volume g, over the first i steps
abbrev pub receipt_back : List ℕ → List ℕ → ℕ → ℕ → ℕ → Walk
receipt_back steps replies i n t = walk_back steps (told_in replies) i (receipt_start n t)

unfoldable pub sign_walk : List ℕ → List ℕ → ℕ → ℕ → Walk
sign_walk steps replies i g = walk_back steps (told_in replies) i (sign_start g)
