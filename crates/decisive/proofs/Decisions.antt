-- What is answered about a receipt is what the receipt does, by the marks that the rule names.
use Prim.Native.Nat.{ℕ}
use mathlib.Core.Path.{◌≡◌, refl, sym, ◌∙◌, subst}
use mathlib.Core.Option.{Option, none, some}
use native.Mathlib.Omega.{arith}
use Rattle.maps.specs.declared.DependenceMap.{DependenceMap}
use Rattle.maps.specs.Map.{superseded_at, first_superseded}
use Rattle.maps.proofs.Superseded.{First, found, nowhere, superseded-view}
use Rattle.rules.specs.Layout.{Layout}
use Rattle.rules.specs.State.{Transactor, Message, State}
use Rattle.rules.specs.Step.{done, dropped}
use Rattle.rules.specs.Rules.{Effect, known, rollback, message_superseded, receiver_superseded, receive_by, refusal, apply_receive, step_of}
use Rattle.rules.proofs.ByKind.Applied.{applies}
use Rattle.decisive.specs.Decision.{decider, numbered, addressee, decision_of, receiving, FirstSuperseded, NoneSuperseded, Decides, accepted, message-superseded, receiver-superseded}

-- ---- the first that is stale, or none

first-is : (y : Layout) (a b : DependenceMap) {u : ℕ} → First (superseded_at a b) 0 y.transactors (some u) → FirstSuperseded y a b u
first-is y a b (found i h l e g) = record { below = omega arith; stale = e; first = λ k p. g k (omega arith) p }

none_is : (y : Layout) (a b : DependenceMap) → First (superseded_at a b) 0 y.transactors none → NoneSuperseded y a b
none_is y a b (nowhere g) = λ k p. g k (omega arith) (omega arith)

-- the outcome, by the first stale mark of the parcel and the first of the take
abbrev pub outcome_by : Layout → ℕ → Transactor → Option ℕ → Option ℕ → ℕ
outcome_by y t x (some u) q = dropped
outcome_by y t x none (some u) = (rollback y t x).outcome
outcome_by y t x none none = done

module _ (y : Layout) (s : State) (n : ℕ) where
  abbrev m : Message
  m = numbered s n

  abbrev x : Transactor
  x = addressee s n

  abbrev a : DependenceMap
  a = m.dependences

  abbrev b : DependenceMap
  b = known y x

  abbrev received : Effect
  received = receive_by y m.addressee x m

  -- the receipt's outcome
  replied : refusal y s (receiving n) ≡ 0 → (step_of y s (receiving n)).reply.outcome ≡ received.outcome
  unfolding step_of apply_receive
  replied h = rw (h, (applies y s (receiving n)).receive refl) refl

  received_as : (p q : Option ℕ) → first_superseded y.transactors a b ≡ p → first_superseded y.transactors b a ≡ q → received.outcome ≡ outcome_by y m.addressee x p q
  unfolding receive_by message_superseded receiver_superseded
  received_as (some u) q e f = rw e refl
  received_as none (some u) e f = rw (e, f) refl
  received_as none none e f = rw (e, f) refl

  pub decision-as : (p q : Option ℕ) → refusal y s (receiving n) ≡ 0 → first_superseded y.transactors a b ≡ p → first_superseded y.transactors b a ≡ q
      → decision_of y s n ≡ record { outcome = outcome_by y m.addressee x p q; transactor = decider p q }
  unfolding decision_of
  decision-as p q h e f = λ i. record { outcome = (replied h ∙ received_as p q e f) i; transactor = decider (e i) (f i) }

  pub decides : refusal y s (receiving n) ≡ 0 → Decides y s n (decision_of y s n)
  decides h = go (first_superseded y.transactors a b) (first_superseded y.transactors b a) refl refl (superseded-view y.transactors a b) (superseded-view y.transactors b a)
    where
      go : (p q : Option ℕ) → first_superseded y.transactors a b ≡ p → first_superseded y.transactors b a ≡ q
          → First (superseded_at a b) 0 y.transactors p → First (superseded_at b a) 0 y.transactors q → Decides y s n (decision_of y s n)
      go (some u) q e f v w = subst (Decides y s n) (sym (decision-as (some u) q h e f)) (message-superseded (first-is y a b v))
      go none (some u) e f v w = subst (Decides y s n) (sym (decision-as none (some u) h e f)) (receiver-superseded (none_is y a b v) (first-is y b a w))
      go none none e f v w = subst (Decides y s n) (sym (decision-as none none h e f)) (accepted (none_is y a b v) (none_is y b a w))
