-- The one take that a step acts for has a number below 16, so it counts as one of a volume.
use Prim.Native.Nat.{ℕ, ◌%◌, ◌<◌}
use mathlib.Core.Bool.{true}
use mathlib.Core.Path.{◌≡◌, refl, subst}
use mathlib.Core.List.{List}
use native.Mathlib.Omega.{arith}
use lib.ListN.{length, get_or}
use lib.Dec.{eqb, leb}
use borrow.Author.Tests.{leb-false}
use Rattle.octets.proofs.Tests.{pick-view}
use Rattle.rules.specs.Layout.{base, message_address}
use Rattle.rules.specs.State.{message_at, place_of}
use Rattle.rules.specs.declared.Step.{Step}
use Rattle.rules.specs.Step.{unpack_step, step_at, receive, sign}
use Rattle.rules.specs.Refusals.{named, acts, malformed}
use Rattle.rules.specs.Pack.{unpack}
use Rattle.rules.proofs.Pack.Loads.{read-addressee, unpack-waiting}
use Rattle.actors.specs.declared.Actor.{Actor}
use Rattle.std.specs.Prelude.{Option, Some, None}
use Rattle.actors.specs.declared.Actor.TheVariants.{House, One, Group}
use Rattle.actors.specs.Actor.{receiver_of, actor_of, actor_refusal, actor_answer, ActsFor, alone, member}

data Small : Option Actor → Type 0 where
  nobody : Small None
  house : Small (Some House)
  one : {t : ℕ} → t < 16 → Small (Some (One t))
  group : {v : ℕ} → Small (Some (Group v))

module _ (img : List ℕ) where
  small-receiver : (n : ℕ) → Small (receiver_of (unpack base img) n)
  unfolding receiver_of
  small-receiver n = pick-view Small (leb (length (unpack base img).messages) (place_of (unpack base img) n)) _ _ (λ e. nobody)
      (λ e.
      let k : ℕ = place_of (unpack base img) n in
      let h : k < length (unpack base img).messages = leb-false (length (unpack base img).messages) k e in
      let a : (message_at (unpack base img) k).addressee ≡ get_or img (message_address base k) 0 % 16 = read-addressee base img k (omega (arith, unpack-waiting base img)) in
      one (omega arith))

  small-step : (p : Step) → p.transactor < 16 → Small (actor_of (unpack base img) p)
  unfolding actor_of
  small-step p h =
      pick-view Small (malformed p) _ _ (λ e. nobody) λ e.
      pick-view Small (eqb p.kind receive) _ _ (λ f. small-receiver p.message) λ f.
      pick-view Small (eqb p.kind sign) _ _ (λ g. group) λ g.
      pick-view Small (acts p.kind) _ _ (λ i. one h) (λ i. house)

  small-answer : (step : List ℕ) → Small (actor_answer base img step)
  unfolding actor_answer step_at unpack_step
  small-answer step = pick-view Small (eqb (actor_refusal base img step) 0) _ _ (λ e. small-step (step_at step 0) (omega arith)) (λ e. nobody)

  pub one_below : (step : List ℕ) {t : ℕ} → actor_answer base img step ≡ Some (One t) → t < 16
  one_below step {t} e = go (subst Small e (small-answer step))
    where
      go : Small (Some (One t)) → t < 16
      go (one h) = h

-- A step acts for no other takes than those that its answer names: the one, or those of the group. So Others.others-kept speaks of all others.

pub only_one : {t u : ℕ} → ActsFor (Some (One t)) u → t ≡ u
only_one (alone t) = refl

pub only-members : {v t : ℕ} → ActsFor (Some (Group v)) t → named v t ≡ true
only-members (member v t e) = e
