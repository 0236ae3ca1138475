-- What each call promises, named once: the contracts of crate ledger (and, over what stands for an answer there, of ledger_c) cite these
-- definitions, and so do the sessions of demand 3. img, after: the image at entry and exit; r: the answer, or what the lent number takes.
use Rattle.std.specs.Prelude.{ℕ, Bool, ◌≡◌, List}
use Rattle.std.proofs.Math.Option.{Option}
use Rattle.rules.specs.declared.Dependents.{Dependents}
use Rattle.rules.specs.Layout.{Layout, Limits}
use Rattle.rules.specs.Calls.{begin_answer, begin_image, run_answer, run_image, run_replies, query_refusal, Offers, show_refusal, shown}
use Rattle.rules.specs.Groups.{Smallest}
use Rattle.rules.specs.Heard.{heard_answer}
use Rattle.rules.specs.ReadyGroups.{ready_refusal, ready_answer}
use Rattle.rules.specs.Dependents.{dependents_answer}
use Rattle.rules.specs.Obstacle.{ObstacleNumbers, obstacle_numbers, obstacle_refusal, obstacle_answer}
use Rattle.rules.specs.Impediment.{ImpedimentNumbers, impediment_numbers, impediment_answer}
use Rattle.rules.specs.Plan.{plan_refusal, plan_answer, plan_out}
use Rattle.rules.specs.Independent.{independent_refusal, IndependentAnswer}

abbrev pub BeginPromise : Layout → Limits → (img : List ℕ) (r : ℕ) (after : List ℕ) → Type 0
BeginPromise y m img r after = (r ≡ begin_answer y m img) × (after ≡ begin_image y m img)

-- lent, given: the bytes for the replies at entry and exit
abbrev pub RunPromise : Layout → (img list : List ℕ) (start end : ℕ) (lent : List ℕ) (r : ℕ) (after given : List ℕ) → Type 0
RunPromise y img list start end lent r after given =
    (r ≡ run_answer y img list start end lent)
    × (after ≡ run_image y img list start end lent)
    × (given ≡ run_replies y img list start end lent)

-- the image is lent for reading from here on
abbrev pub OfferPromise : Layout → (img : List ℕ) (t r : ℕ) → Option ℕ → Type 0
OfferPromise y img t r message = (r ≡ query_refusal y img t) × Offers y img t message

abbrev pub SmallestPromise : Layout → (img : List ℕ) (t r : ℕ) → Option ℕ → Type 0
SmallestPromise y img t r group = (r ≡ query_refusal y img t) × Smallest y img t group

abbrev pub HeardPromise : Layout → (img : List ℕ) (t r : ℕ) → Bool → Type 0
HeardPromise y img t r stable = (r ≡ query_refusal y img t) × (stable ≡ heard_answer y img t)

abbrev pub CountPromise : Layout → (img : List ℕ) (size r n : ℕ) → Type 0
CountPromise y img size r n = (r ≡ ready_refusal y img size) × (n ≡ ready_answer y img size)

abbrev pub DependentsPromise : Layout → (img : List ℕ) (t r : ℕ) → Dependents → Type 0
DependentsPromise y img t r d = (r ≡ query_refusal y img t) × (d ≡ dependents_answer y img t)

-- by the answer's numbers
abbrev pub ObstaclePromise : Layout → (img : List ℕ) (v r : ℕ) → ObstacleNumbers → Type 0
ObstaclePromise y img v r n = (r ≡ obstacle_refusal y img v) × (n ≡ obstacle_numbers (obstacle_answer y img v))

abbrev pub ImpedimentPromise : Layout → (img : List ℕ) (t r : ℕ) → ImpedimentNumbers → Type 0
ImpedimentPromise y img t r n = (r ≡ query_refusal y img t) × (n ≡ impediment_numbers (impediment_answer y img t))

-- lent, given: the bytes for the steps at entry and exit; n: how many steps
abbrev pub PlanPromise : Layout → (img : List ℕ) (t : ℕ) (lent : List ℕ) (r : ℕ) (given : List ℕ) (n : ℕ) → Type 0
PlanPromise y img t lent r given n = (r ≡ plan_refusal y img t lent) × (given ≡ plan_out y img t lent) × (n ≡ plan_answer y img t lent)

-- first, second: the bytes of the two steps
abbrev pub IndependentPromise : Layout → (img first second : List ℕ) (r : ℕ) → Bool → Type 0
IndependentPromise y img first second r answer = (r ≡ independent_refusal y img first second) × IndependentAnswer y img first second answer

abbrev pub ShowPromise : Layout → (img : List ℕ) (n r : ℕ) (bytes : List ℕ) → Type 0
ShowPromise y img n r bytes = (bytes ≡ shown y img n) × (r ≡ show_refusal y img n)
