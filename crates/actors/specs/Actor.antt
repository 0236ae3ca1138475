-- For whom a step acts. Nothing in documents 01 and 02 says who may run which step; whoever gives rights to people asks this first.
use Rattle.std.specs.Prelude.{ℕ, ◌^◌, true, not, ◌≡◌, Option, Some, None, Result, Ok, Err, List, length, eqb, leb}
use Rattle.octets.specs.Bytes.{pick}
use Rattle.rules.specs.Layout.{Layout}
use Rattle.rules.specs.State.{State, message_at, place_of}
use Rattle.rules.specs.declared.Step.{Step}
use Rattle.rules.specs.Step.{step_bytes, step_at, receive, sign}
use Rattle.rules.specs.Refusals.{named, acts, malformed}
use Rattle.rules.specs.Pack.{unpack}
use Rattle.rules.specs.Form.{well_formed}
use Rattle.rules.specs.Calls.{wrong_length}
use Rattle.rules.specs.declared.refusals.Refusal.{Refusal}
use Rattle.actors.specs.declared.Actor.{Actor}
use Rattle.actors.specs.declared.Actor.TheVariants.{House, One, Group}

-- ---- the numbers of each answer

pub record ActorNumbers : Type 0 where
  pub kind : ℕ
  -- the takes that it acts for, take t counting 2^t
  pub takes : ℕ

-- nobody, the house, a take, a volume
abbrev pub actor_numbers : Option Actor → ActorNumbers
actor_numbers None = record { kind = 0; takes = 0 }
actor_numbers (Some House) = record { kind = 1; takes = 0 }
actor_numbers (Some (One t)) = record { kind = 2; takes = 2 ^ t }
actor_numbers (Some (Group v)) = record { kind = 3; takes = v }

-- ---- by kind

-- The addressee of the waiting parcel with number n, or nobody if no such parcel waits.
unfoldable pub receiver_of : State → ℕ → Option Actor
receiver_of s n = pick (leb (length s.messages) (place_of s n)) None (Some (One (message_at s (place_of s n)).addressee))

-- A receive acts for the addressee, a sign for the volume, kinds 3 to 10 for the take of the take field; root, letter and lose are the
-- house's. A step that is refused with 20 acts for nobody.
unfoldable pub actor_of : State → Step → Option Actor
actor_of s p =
    pick (malformed p) None
    (pick (eqb p.kind receive) (receiver_of s p.message)
    (pick (eqb p.kind sign) (Some (Group p.message))
    (pick (acts p.kind) (Some (One p.transactor)) (Some House))))

-- ---- the call

-- Refused with 16 for the image's length, with 17 if the step has not eight bytes, with 19 if the image is ill-formed.
unfoldable pub actor_refusal : Layout → List ℕ → List ℕ → ℕ
actor_refusal y img step =
    pick (wrong_length y img) 16
    (pick (not (eqb (length step) step_bytes)) 17
    (pick (not (well_formed y img)) 19 0))

-- For whom the step acts; where the call is refused the answer is nobody.
unfoldable pub actor_answer : Layout → List ℕ → List ℕ → Option Actor
actor_answer y img step = pick (eqb (actor_refusal y img step) 0) (actor_of (unpack y img) (step_at step 0)) None

-- for whom, over the call's result
abbrev pub actor_in : Result (Option Actor) Refusal → Option Actor
actor_in (Ok a) = a
actor_in (Err r) = None

-- What the call promises: r is the refusal or 0; a is the answer.
abbrev pub ActorPromise : Layout → (img step : List ℕ) (r : ℕ) → Option Actor → Type 0
ActorPromise y img step r a = (r ≡ actor_refusal y img step) × (a ≡ actor_answer y img step)

-- ---- for theorems

-- Take t is one of those for which the answer says that the step acts.
pub data ActsFor : Option Actor → ℕ → Type 0 where
  alone : (t : ℕ) → ActsFor (Some (One t)) t
  member : (v t : ℕ) → named v t ≡ true → ActsFor (Some (Group v)) t
