-- The promises of the calls leave no answer free: on one image a call gives one answer and leaves one image, whatever the image. So a
-- promise that says less than it does (rules/specs/Promises) is refused here, and one that says something else by the code's proof.
use Prim.Native.Nat.{ℕ}
use mathlib.Core.Path.{◌≡◌, refl, ap, ap₂, sym, ◌∙◌}
use mathlib.Core.List.{List}
use mathlib.Core.Bool.{Bool}
use mathlib.Core.Option.{Option}
use Rattle.rules.specs.declared.Dependents.{Dependents}
use Rattle.rules.specs.Obstacle.{ObstacleNumbers}
use Rattle.rules.specs.Impediment.{ImpedimentNumbers}
use Rattle.rules.specs.Layout.{Layout}
use Rattle.rules.specs.Promises.{SmallestPromise, HeardPromise, CountPromise, DependentsPromise, ObstaclePromise, ImpedimentPromise, PlanPromise}
use Rattle.rules.proofs.Calls.Offer.{offers-unique}
use Rattle.rules.proofs.Groups.Smallest.{smallest-unique}
use Rattle.session.specs.Fed.{Call}
use Rattle.session.specs.Trace.{Answer, begun, ran, offered, showed, Performed, beginning, running, offering, showing}

pub performed-once : {y : Layout} {img : List ℕ} {c : Call} {a x : Answer} {after left : List ℕ} → Performed y img c a after → Performed y img c x left → (a ≡ x) × (after ≡ left)
performed-once (beginning e) (beginning f) = (ap begun (e.0 ∙ sym f.0), e.1 ∙ sym f.1)
performed-once (running e) (running f) = (ap₂ ran (e.0 ∙ sym f.0) (e.2 ∙ sym f.2), e.1 ∙ sym f.1)
performed-once (offering e) (offering f) = (ap₂ offered (e.0 ∙ sym f.0) (offers-unique e.1 f.1), refl)
performed-once (showing e) (showing f) = (ap₂ showed (e.1 ∙ sym f.1) (e.0 ∙ sym f.0), refl)

-- ---- nor do those of the questions (specs/Queries)

module _ (y : Layout) (img : List ℕ) where
  pub smallest-once : (t : ℕ) {r q : ℕ} {a x : Option ℕ} → SmallestPromise y img t r a → SmallestPromise y img t q x → (r ≡ q) × (a ≡ x)
  smallest-once t e f = (e.0 ∙ sym f.0, smallest-unique e.1 f.1)

  pub heard-once : (t : ℕ) {r q : ℕ} {a x : Bool} → HeardPromise y img t r a → HeardPromise y img t q x → (r ≡ q) × (a ≡ x)
  heard-once t e f = (e.0 ∙ sym f.0, e.1 ∙ sym f.1)

  pub count-once : (size : ℕ) {r q a x : ℕ} → CountPromise y img size r a → CountPromise y img size q x → (r ≡ q) × (a ≡ x)
  count-once size e f = (e.0 ∙ sym f.0, e.1 ∙ sym f.1)

  pub dependents-once : (t : ℕ) {r q : ℕ} {a x : Dependents} → DependentsPromise y img t r a → DependentsPromise y img t q x → (r ≡ q) × (a ≡ x)
  dependents-once t e f = (e.0 ∙ sym f.0, e.1 ∙ sym f.1)

  pub obstacle-once : (v : ℕ) {r q : ℕ} {a x : ObstacleNumbers} → ObstaclePromise y img v r a → ObstaclePromise y img v q x → (r ≡ q) × (a ≡ x)
  obstacle-once v e f = (e.0 ∙ sym f.0, e.1 ∙ sym f.1)

  pub impediment-once : (t : ℕ) {r q : ℕ} {a x : ImpedimentNumbers} → ImpedimentPromise y img t r a → ImpedimentPromise y img t q x → (r ≡ q) × (a ≡ x)
  impediment-once t e f = (e.0 ∙ sym f.0, e.1 ∙ sym f.1)

  pub plan-once : (t : ℕ) (lent : List ℕ) {r q n m : ℕ} {a x : List ℕ} → PlanPromise y img t lent r a n → PlanPromise y img t lent q x m → (r ≡ q) × (a ≡ x) × (n ≡ m)
  plan-once t lent e f = (e.0 ∙ sym f.0, e.1 ∙ sym f.1, e.2 ∙ sym f.2)
