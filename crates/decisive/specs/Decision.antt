-- What the receipt of a waiting parcel would reply now, and by which take's marks: document 01, "Receive compares the parcel's map with state
-- and creation maps joined."
use Rattle.std.specs.Prelude.{ℕ, ◌<◌, true, false, not, ◌≡◌, List, eqb, Result, Ok, Err}
use Rattle.std.proofs.Math.Option.{Option, none, some}
use Rattle.octets.specs.Bytes.{pick}
use Rattle.maps.specs.declared.DependenceMap.{DependenceMap}
use Rattle.maps.specs.Map.{superseded_at, first_superseded}
use Rattle.rules.specs.Layout.{Layout}
use Rattle.rules.specs.State.{Transactor, Message, State, transactor_at, message_at, place_of}
use Rattle.rules.specs.declared.Step.{Step}
use Rattle.rules.specs.Step.{receive, done, dropped}
use Rattle.rules.specs.Rules.{known, rollback, refusal, step_of}
use Rattle.rules.specs.Pack.{unpack}
use Rattle.rules.specs.declared.refusals.Refusal.{Refusal}
use Rattle.rules.specs.Form.{well_formed}
use Rattle.rules.specs.Calls.{wrong_length}
use Rattle.decisive.specs.declared.Decision.{Decision}

-- ---- what decides

-- "If a mark of the parcel is stale by the take's mark: dropped. Otherwise, if a mark of the take is stale by the parcel's: the take falls":
-- the first take, by number, of which there is such a mark; where there is none, 0.
abbrev pub decider : Option ℕ → Option ℕ → ℕ
decider (some u) r = u
decider none (some u) = u
decider none none = 0

-- the parcel with number n, and its addressee
abbrev pub numbered : State → ℕ → Message
numbered s n = message_at s (place_of s n)

abbrev pub addressee : State → ℕ → Transactor
addressee s n = transactor_at s (numbered s n).addressee

-- the step: receive parcel n
abbrev pub receiving : ℕ → Step
receiving n = record { kind = receive; transactor = 0; other = 0; zero = 0; message = n; value = 0 }

-- The receipt's own outcome, and the take that decides it.
unfoldable pub decision_of : Layout → State → ℕ → Decision
decision_of y s n =
    let a : DependenceMap = (numbered s n).dependences in
    let b : DependenceMap = known y (addressee s n) in record {
      outcome = (step_of y s (receiving n)).reply.outcome;
      transactor = decider (first_superseded y.transactors a b) (first_superseded y.transactors b a);
    }

-- ---- the call

-- 16, 19, then what the receipt itself would be refused with: 24, 22, 23, 31, 28
unfoldable pub decision_refusal : Layout → List ℕ → ℕ → ℕ
decision_refusal y img n =
    pick (wrong_length y img) 16
    (pick (not (well_formed y img)) 19 (refusal y (unpack y img) (receiving n)))

-- refused: both 0
abbrev pub undecided : Decision
undecided = record { outcome = 0; transactor = 0 }

unfoldable pub decision_answer : Layout → List ℕ → ℕ → Decision
decision_answer y img n = pick (eqb (decision_refusal y img n) 0) (decision_of y (unpack y img) n) undecided

-- what is told of an answer
abbrev pub decision_in : Result Decision Refusal → Decision
decision_in (Ok d) = d
decision_in (Err r) = undecided

-- what the call promises: r is the number of the refusal, or 0
abbrev pub DecisionPromise : Layout → (img : List ℕ) (n r : ℕ) → Decision → Type 0
DecisionPromise y img n r d = (r ≡ decision_refusal y img n) × (d ≡ decision_answer y img n)

-- ---- for theorems: what each answer means

-- u is the first take of which a's mark is stale by b's
pub record FirstSuperseded (y : Layout) (a b : DependenceMap) (u : ℕ) : Type 0 where
  pub below : u < y.transactors
  pub stale : superseded_at a b u ≡ true
  pub first : (k : ℕ) → k < u → superseded_at a b k ≡ false

-- no mark of a is stale by b's
abbrev pub NoneSuperseded : Layout → DependenceMap → DependenceMap → Type 0
NoneSuperseded y a b = (k : ℕ) → k < y.transactors → superseded_at a b k ≡ false

-- The answer about parcel n: it is taken in; or it is dropped, since its mark of take u is stale; or the addressee falls, since its own mark of
-- take u is stale.
pub data Decides (y : Layout) (s : State) (n : ℕ) : Decision → Type 0 where
  accepted : NoneSuperseded y (numbered s n).dependences (known y (addressee s n)) → NoneSuperseded y (known y (addressee s n)) (numbered s n).dependences
      → Decides y s n (record { outcome = done; transactor = 0 })
  message-superseded : {u : ℕ} → FirstSuperseded y (numbered s n).dependences (known y (addressee s n)) u → Decides y s n (record { outcome = dropped; transactor = u })
  receiver-superseded : {u : ℕ} → NoneSuperseded y (numbered s n).dependences (known y (addressee s n))
      → FirstSuperseded y (known y (addressee s n)) (numbered s n).dependences u
      → Decides y s n (record { outcome = (rollback y (numbered s n).addressee (addressee s n)).outcome; transactor = u })
