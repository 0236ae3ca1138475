-- For whom a step acts: each return of the code, and that the one take has a number below 16.
use Prim.Native.Nat.{ℕ, ◌≤◌, ◌<◌}
use mathlib.Core.Bool.{true, false, not}
use mathlib.Core.Path.{◌≡◌, refl}
use mathlib.Core.List.{List}
use native.Mathlib.Omega.{arith}
use lib.ListN.{length}
use borrow.Author.Tests.{eq-eqb, ne_eqb, le-leb, lt-leb}
use Rattle.octets.specs.Bytes.{part}
use Rattle.rules.specs.Layout.{base, image_bytes}
use Rattle.rules.specs.State.{message_at, place_of}
use Rattle.rules.specs.declared.Step.{Step}
use Rattle.rules.specs.Step.{step_bytes, unpack_step, step_at}
use Rattle.rules.specs.Pack.{waiting_in, unpack}
use Rattle.rules.specs.Form.{well_formed}
use Rattle.rules.proofs.Calls.Begin.{wrong-length, right-length}
use Rattle.rules.proofs.Pack.Loads.{unpack-waiting}
use Rattle.std.specs.Prelude.{Option, Some, None}
use Rattle.actors.specs.declared.Actor.{Actor}
use Rattle.actors.specs.declared.Actor.TheVariants.{One}
use Rattle.actors.specs.Actor.{receiver_of, actor_of, actor_refusal, actor_answer, ActorPromise}

-- ---- the addressee

module _ (img : List ℕ) (n k : ℕ) (place : k ≡ place_of (unpack base img) n) where
  pub receiver-missing : waiting_in base img ≤ k → None ≡ receiver_of (unpack base img) n
  unfolding receiver_of
  receiver-missing h = rw (← place, le-leb (length (unpack base img).messages) k (omega (arith, unpack-waiting base img))) refl

  pub receiver-waits : k < waiting_in base img → (t : ℕ) → t ≡ (message_at (unpack base img) k).addressee → Some (One t) ≡ receiver_of (unpack base img) n
  unfolding receiver_of
  receiver-waits h t e = rw (← place, lt-leb (length (unpack base img).messages) k (omega (arith, unpack-waiting base img)), e) refl

-- ---- the call

module _ (img step : List ℕ) where
  pub actor-16 : (length img ≡ image_bytes base → ⊥) → ActorPromise base img step 16 None
  unfolding actor_refusal actor_answer
  actor-16 h = let w = wrong-length base img h in (rw w refl, rw w refl)

  module _ (long : length img ≡ image_bytes base) where
    pub actor-17 : (length step ≡ step_bytes → ⊥) → ActorPromise base img step 17 None
    unfolding actor_refusal actor_answer
    actor-17 h = let w = right-length base img long in let e = ne_eqb (length step) 8 h in (rw (w, e) refl, rw (w, e) refl)

    module _ (whole : length step ≡ step_bytes) where
      pub actor-19 : not (well_formed base img) ≡ true → ActorPromise base img step 19 None
      unfolding actor_refusal actor_answer
      actor-19 h = let w = right-length base img long in let e = eq-eqb (length step) 8 whole in (rw (w, e, h) refl, rw (w, e, h) refl)

      pub actor-0 : not (well_formed base img) ≡ false → (p : Step) → p ≡ unpack_step (part 0 step_bytes step) → (a : Option Actor) → a ≡ actor_of (unpack base img) p → ActorPromise base img step 0 a
      unfolding actor_refusal actor_answer step_at
      actor-0 h p d a q = let w = right-length base img long in let e = eq-eqb (length step) 8 whole in (rw (w, e, h) refl, rw (w, e, h, ← d) q)
