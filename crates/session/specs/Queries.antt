-- What can be asked between two calls of a session: offer, smallest_group (document 02, W1), all_heard_stable (W4), ready_count (W10), dependents,
-- obstacle, impediment and plan. To each the image is lent for reading: its contract gives no image back. So a list of calls with
-- questions between is the list without them, and none but offer is a call of demand 3.
use Rattle.std.specs.Prelude.{ℕ, Bool, true, not, ◌≡◌, List, length, eqb, leb, Option}
use Rattle.std.proofs.Math.Option as maybe
use Rattle.octets.specs.Bytes.{pick, ◌and◌}
use Rattle.rules.specs.declared.Dependents.{Dependents}
use Rattle.rules.specs.declared.Obstacle.{Obstacle}
use Rattle.rules.specs.declared.Impediment.{Impediment}
use Rattle.rules.specs.Layout.{Layout}
use Rattle.rules.specs.Refusals.{group_bits}
use Rattle.rules.specs.Pack.{unpack}
use Rattle.rules.specs.Groups.{signing_refusal}
use Rattle.rules.specs.Obstacle.{ObstacleNumbers, obstacle_numbers}
use Rattle.rules.specs.Impediment.{ImpedimentNumbers, impediment_numbers}
use Rattle.rules.specs.Plan.{plan_bytes}
use Rattle.rules.specs.Promises.{OfferPromise, SmallestPromise, HeardPromise, CountPromise, DependentsPromise, ObstaclePromise, ImpedimentPromise, PlanPromise}
use Rattle.session.specs.Provenance.{Provenance}
use Rattle.session.specs.Steps.{provenance_refusal}
use Rattle.session.specs.Fed.{provenance_query_refusal}
use Rattle.session.specs.Trace.{Trace}
use Rattle.session.specs.Meanings.{OfferMeans, SmallestMeans, HeardMeans, CountMeans, DependentsMean, ObstacleMeans, ImpedimentMeans}
use Rattle.session.specs.Attainable.{PlanMeans}

-- ---- where the book refuses a question: never with 16 or 19, the others judged by what it holds itself

-- W10: 34, "any other size" than "from 1 to 16"
abbrev pub provenance_count_refusal : ℕ → ℕ
provenance_count_refusal size = pick (not (leb 1 size and leb size group_bits)) 34 0

-- Of obstacle: the refusal that the signing of the volume would get.
abbrev pub provenance_signing_refusal : Layout → Provenance → ℕ → ℕ
provenance_signing_refusal y b v = signing_refusal (provenance_refusal y b) v

-- Of plan: 21 and 22 as the others; then 18, unless as many bytes are lent as the longest plan has.
abbrev pub provenance_plan_refusal : Layout → Provenance → ℕ → List ℕ → ℕ
provenance_plan_refusal y b t lent =
    pick (eqb (provenance_query_refusal b t) 0) (pick (eqb (length lent) (plan_bytes y)) 0 18) (provenance_query_refusal b t)

-- ---- the questions, after the calls of the session τ, which leave the image img; b, the book that is fed them

-- Each is refused exactly where the book refuses it, r being the refusal or 0; and if it is not, its answer means this in the book. Of obstacle and
-- impediment n are the answer's numbers.
pub record Asked (y : Layout) (img : List ℕ) (τ : Trace y img) (b : Provenance) : Type 1 where
  pub offer : (t : ℕ) {r : ℕ} {message : maybe.Option ℕ} → OfferPromise y img t r message → (r ≡ provenance_query_refusal b t) × (r ≡ 0 → OfferMeans b t message)
  pub smallest : (t : ℕ) {r : ℕ} {group : maybe.Option ℕ} → SmallestPromise y img t r group → (r ≡ provenance_query_refusal b t) × (r ≡ 0 → SmallestMeans b t group)
  pub heard : (t : ℕ) {r : ℕ} {stable : Bool} → HeardPromise y img t r stable → (r ≡ provenance_query_refusal b t) × (stable ≡ true → HeardMeans y img τ b t)
  pub counts : (size : ℕ) {r n : ℕ} → CountPromise y img size r n → (r ≡ provenance_count_refusal size) × (r ≡ 0 → CountMeans b size n)
  pub dependents : (t : ℕ) {r : ℕ} {d : Dependents} → DependentsPromise y img t r d → (r ≡ provenance_query_refusal b t) × (r ≡ 0 → DependentsMean b t d)
  pub obstacle : (v : ℕ) {r : ℕ} {n : ObstacleNumbers} → ObstaclePromise y img v r n
      → (r ≡ provenance_signing_refusal y b v) × (r ≡ 0 → (o : Option Obstacle) × (n ≡ obstacle_numbers o) × ObstacleMeans b v o)
  pub impediment : (t : ℕ) {r : ℕ} {n : ImpedimentNumbers} → ImpedimentPromise y img t r n
      → (r ≡ provenance_query_refusal b t) × (r ≡ 0 → (o : Option Impediment) × (n ≡ impediment_numbers o) × ImpedimentMeans y (unpack y img) b t o)
  pub plan : (t : ℕ) (lent : List ℕ) {r n : ℕ} {given : List ℕ} → PlanPromise y img t lent r given n → (r ≡ provenance_plan_refusal y b t lent) × (r ≡ 0 → PlanMeans y img t lent)
