-- What the answers of offer and of the queries mean in the book.
use Rattle.std.specs.Prelude.{ℕ, ◌≤◌, ◌<◌, Bool, true, false, ◌≡◌, ◌↔◌, ◌≢◌, length, get_or, Option, Some, None}
use mathlib.Core.List.{List, Memᴰ}
use Rattle.std.proofs.Math.Option as maybe
use Rattle.std.proofs.Math.Option.{none, some}
use Rattle.octets.specs.Numbers.{bound}
use Rattle.marks.specs.Incarnation.{Incarnation}
use Rattle.marks.specs.Order.{Precedes}
use Rattle.rules.specs.declared.Dependents.{Dependents}
use Rattle.rules.specs.declared.Obstacle.{Obstacle}
use Rattle.rules.specs.declared.Obstacle.TheVariants as obstacle
use Rattle.rules.specs.declared.Impediment.{Impediment}
use Rattle.rules.specs.declared.Impediment.TheVariants.{Hopeless, Exhausted, Unstable}
use Rattle.rules.specs.Layout.{Layout}
use Rattle.rules.specs.State.{State}
use Rattle.rules.specs.Refusals.{named}
use Rattle.rules.specs.ReadyGroups.{how_many, size_of}
use Rattle.session.specs.Provenance.{Live, Incarnations, In, WaitingMessage, Provenance, no_waiting_message}
use Rattle.session.specs.Grounds.{RestsOn, Present, CheckpointedNow, SupersededOrAnnihilated, Equal}
use Rattle.session.specs.Trace.{Trace}
use Rattle.session.specs.Stabilized.{StabilizedIn}
use Rattle.session.specs.Waiting.{ReadyGroup}
use Rattle.session.specs.Withdrawal.{RestsThrough}

-- ---- which parcel to receive next (offer; document 02, W2)

-- the parcel with number n waits in the book, addressed to take t
pub record WaitsIn (b : Provenance) (t n : ℕ) : Type 0 where
  pub message : WaitingMessage
  pub waits : Memᴰ message b.messages
  pub addressee : message.addressee ≡ t
  pub number : message.number ≡ n

-- "the waiting parcel for that take with the lowest number", or none exactly if there is none
pub data OfferMeans (b : Provenance) (t : ℕ) : maybe.Option ℕ → Type 0 where
  no-message : ((n : ℕ) → WaitsIn b t n → ⊥) → OfferMeans b t none
  lowest : {n : ℕ} → WaitsIn b t n → ((k : ℕ) → WaitsIn b t k → n ≤ k) → OfferMeans b t (some n)

-- ---- which volumes could be signed now (document 02, W1 and W10)

-- Volume v is a set of live takes, each with a signing left, and its two sets of lives are equal.
pub record Signable (b : Provenance) (v : ℕ) : Type 0 where
  pub bits : v < bound 2
  pub live : (u : ℕ) → named v u ≡ true → Live (b.holders u).status
  pub room : (u : ℕ) → named v u ≡ true → length (b.holders u).history.incarnation.checkpoints < b.limits.checkpoints
  pub equal : Equal b v

-- W1: "the smallest volume containing it that could be signed now": every take of it is in each that could; or none exactly if there is none
pub data SmallestMeans (b : Provenance) (t : ℕ) : maybe.Option ℕ → Type 0 where
  no-group : ((v : ℕ) → named v t ≡ true → Signable b v → ⊥) → SmallestMeans b t none
  smallest : {v : ℕ} → named v t ≡ true → Signable b v → ((w : ℕ) → named w t ≡ true → Signable b w → (u : ℕ) → named v u ≡ true → named w u ≡ true)
      → SmallestMeans b t (some v)

-- W10: n volumes of just `size` takes could be signed: there is a test that is true of exactly these volumes, and of n volumes.
pub record CountMeans (b : Provenance) (size n : ℕ) : Type 0 where
  pub ready : ℕ → Bool
  pub exactly : (v : ℕ) → v < bound 2 → (ready v ≡ true) ↔ ((size_of v ≡ size) × Signable b v)
  pub many : n ≡ how_many (bound 2) ready

-- ---- "all heard frozen" (document 02, W4)

-- Of life a of take u, which is in the set X: the newest life of that take in X, a itself or a later one, was frozen by a step of the session
-- since its last accepted begin.
pub record NewestStabilized (y : Layout) (img : List ℕ) (τ : Trace y img) (X : Incarnations) (u : ℕ) (a : Incarnation) : Type 1 where
  pub newest : Incarnation
  pub has : In u newest X
  pub later : Precedes a newest
  pub stabilized : StabilizedIn y img τ u newest

-- What yes means about take t: of every other take the newest life in t's state set was frozen at some earlier step; and so was the newest in t's
-- creation set. (No means nothing in the book, which does not know what a take has heard.)
pub record HeardMeans (y : Layout) (img : List ℕ) (τ : Trace y img) (b : Provenance) (t : ℕ) : Type 1 where
  pub state : (u : ℕ) (a : Incarnation) → u ≢ t → In u a (b.holders t).state → NewestStabilized y img τ (b.holders t).state u a
  pub creation : (u : ℕ) (a : Incarnation) → u ≢ t → In u a (b.holders t).creation → NewestStabilized y img τ (b.holders t).creation u a

-- ---- who rests on take t

-- n waiting parcels have take t's present life in their sets: there is a test that is true of exactly these parcels, and of n places.
pub record CarriedMeans (b : Provenance) (t n : ℕ) : Type 0 where
  pub carries : ℕ → Bool
  pub exactly : (i : ℕ) → i < length b.messages → (carries i ≡ true) ↔ In t (b.holders t).history.incarnation (get_or b.messages i no_waiting_message).incarnations
  pub many : n ≡ how_many (length b.messages) carries

-- the answer d about a live take t: which takes its words name, and what its number counts
pub record DependentsMean (b : Provenance) (t : ℕ) (d : Dependents) : Type 0 where
  pub resting : (u : ℕ) → (named d.resting u ≡ true) ↔ RestsOn b u t (b.holders t).history.incarnation
  pub through : (u : ℕ) → (named d.through u ≡ true) ↔ RestsThrough b t u
  -- work in hand
  pub unfinished : (u : ℕ) → (named d.unfinished u ≡ true) ↔ In t (b.holders t).history.incarnation (b.holders u).behaviour
  pub carried : CarriedMeans b t d.carried

-- ---- why a volume can't be signed

-- Unstable t: take t is named, and not frozen.
pub record UnstableMeans (b : Provenance) (v t : ℕ) : Type 0 where
  pub names : named v t ≡ true
  pub unstable : (b.holders t).history.stable ≡ false

-- Outside t u: the named take t rests on the present life of take u, which is not signed, and which the volume does not name.
pub record OutsideMeans (b : Provenance) (v t u : ℕ) : Type 0 where
  pub names : named v t ≡ true
  pub unnamed : named v u ≡ false
  pub present : Present b u (b.holders u).history.incarnation
  pub rests : RestsOn b t u (b.holders u).history.incarnation
  pub uncheckpointed : CheckpointedNow b u (b.holders u).history.incarnation → ⊥

-- SupersededOrAnnihilated t u: the named take t rests on a withdrawn life of take u.
pub record WithdrawnMeans (b : Provenance) (v t u : ℕ) : Type 0 where
  pub names : named v t ≡ true
  pub incarnation : Incarnation
  pub rests : RestsOn b t u incarnation
  pub withdrawn : SupersededOrAnnihilated b u incarnation

-- the answer about volume v
pub data ObstacleMeans (b : Provenance) (v : ℕ) : Option Obstacle → Type 0 where
  -- its two sets of lives are equal
  means-equal : Equal b v → ObstacleMeans b v None
  means-not-stable : {t : ℕ} → UnstableMeans b v t → ObstacleMeans b v (Some (obstacle.Unstable t))
  means-outside : {t u : ℕ} → OutsideMeans b v t u → ObstacleMeans b v (Some (obstacle.Outside t u))
  means-withdrawn : {t u : ℕ} → WithdrawnMeans b v t u → ObstacleMeans b v (Some (obstacle.SupersededOrAnnihilated t u))

-- ---- why no volume with take t could be signed

-- take t is take c, or rests on its present life, directly or through others; and then on that of take x, the next to c
pub record Onto (b : Provenance) (t c x : ℕ) : Type 0 where
  pub through : RestsThrough b c t
  pub next : c ≢ t → RestsOn b t x (b.holders x).history.incarnation × RestsThrough b c x

pub data ImpedimentMeans (y : Layout) (s : State) (b : Provenance) (t : ℕ) : Option Impediment → Type 0 where
  -- some volume with take t is ready
  means-nothing : {v : ℕ} → named v t ≡ true → ReadyGroup y s v → ImpedimentMeans y s b t None
  -- take c rests on a withdrawn life of take u
  means-hopeless : {c u x : ℕ} {a : Incarnation} → Onto b t c x → RestsOn b c u a → SupersededOrAnnihilated b u a → ImpedimentMeans y s b t (Some (Hopeless c u x))
  -- take c has all the signings that the session allows
  means-exhausted : {c x : ℕ} → Onto b t c x → b.limits.checkpoints ≤ length (b.holders c).history.incarnation.checkpoints → ImpedimentMeans y s b t (Some (Exhausted c x))
  -- take c is not frozen
  means-unstable : {c x : ℕ} → Onto b t c x → (b.holders c).history.stable ≡ false → ImpedimentMeans y s b t (Some (Unstable c x))
