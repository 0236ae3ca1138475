-- Document 02, W11: "traces chains back through at most 1,024 steps from a fresh session". What a step does to the places at which
-- lives stand, and, going back over it, where to look before the step and which lives are met.
use Rattle.std.specs.Prelude.{ℕ, Bool, false, eqb}
use Rattle.std.proofs.Math.Option.{Option, none, some}
use Rattle.octets.specs.Bytes.{pick, ◌and◌, ◌or◌}
use Rattle.marks.specs.Incarnation.{Incarnation, initial_incarnation}
use Rattle.octets.specs.Table.{updated}

-- ---- where a chain is followed

-- places at which lives stand: state, creation and behaviour of each take, and each parcel by its number
pub record Places : Type 0 where
  pub state : ℕ → Bool
  pub creation : ℕ → Bool
  pub behaviour : ℕ → Bool
  pub message : ℕ → Bool

-- parcel n alone
abbrev pub message_alone : ℕ → Places
message_alone n = record { state = λ t. false; creation = λ t. false; behaviour = λ t. false; message = λ k. eqb k n }

-- state and creation of the takes v
abbrev pub ground_of : (ℕ → Bool) → Places
ground_of v = record { state = v; creation = v; behaviour = λ t. false; message = λ k. false }

-- ---- what a step does to the places

pub data Event : Type 0 where
  -- refused, held, frozen, not ready
  nothing : Event
  -- parcel n has no life: letter, lose, a receipt dropped
  cleared : (n : ℕ) → Event
  -- t sends n in life a: the parcel has t's creation and behaviour, and a
  sent : (n t : ℕ) → (a : Incarnation) → Event
  -- t receives n with outcome 0: its behaviour is the parcel's
  taken : (n t : ℕ) → Event
  -- t opens c in life a: c's creation is t's creation and behaviour, and a; c's opening life joins t's behaviour
  opens : (t c : ℕ) → (a : Incarnation) → Event
  -- state joins behaviour; behaviour joins state
  reads writes : (t : ℕ) → Event
  -- behaviour emptied: done, and a held fall
  finishes : (t : ℕ) → Event
  -- the takes v have the lives a in state, and nothing else: root, fall, signing
  renewed : (v : ℕ → Bool) → (a : ℕ → Incarnation) → Event
  annihilated : (t : ℕ) → Event
  -- one after the other: a receipt at which the take falls
  successive : Event → Event → Event

-- ---- going back over a step

-- where to look before the step for what stands at the places Q after it
unfoldable pub back : Event → Places → Places
back nothing Q = Q
back (cleared n) Q = record { state = Q.state; creation = Q.creation; behaviour = Q.behaviour; message = updated Q.message n false }
back (sent n t a) Q = record {
  state = Q.state;
  creation = updated Q.creation t (Q.creation t or Q.message n);
  behaviour = updated Q.behaviour t (Q.behaviour t or Q.message n);
  message = updated Q.message n false;
}
back (taken n t) Q = record {
  state = Q.state;
  creation = Q.creation;
  behaviour = updated Q.behaviour t false;
  message = updated Q.message n (Q.behaviour t);
}
back (opens t c a) Q =
    let C : ℕ → Bool = updated Q.creation c false in
    let B : ℕ → Bool = updated Q.behaviour c false in
    record {
      state = updated Q.state c false;
      creation = updated C t (C t or Q.creation c);
      behaviour = updated B t (B t or Q.creation c);
      message = Q.message;
    }
back (reads t) Q = record { state = updated Q.state t (Q.state t or Q.behaviour t); creation = Q.creation; behaviour = Q.behaviour; message = Q.message }
back (writes t) Q = record { state = Q.state; creation = Q.creation; behaviour = updated Q.behaviour t (Q.behaviour t or Q.state t); message = Q.message }
back (finishes t) Q = record { state = Q.state; creation = Q.creation; behaviour = updated Q.behaviour t false; message = Q.message }
back (renewed v a) Q = record {
  state = λ u. pick (v u) false (Q.state u);
  creation = λ u. pick (v u) false (Q.creation u);
  behaviour = λ u. pick (v u) false (Q.behaviour u);
  message = Q.message;
}
back (annihilated t) Q = record {
  state = updated Q.state t false;
  creation = updated Q.creation t false;
  behaviour = updated Q.behaviour t false;
  message = Q.message;
}
back (successive e f) Q = back e (back f Q)

-- the first where there is one, else the second
unfoldable pub or_else : Option Incarnation → Option Incarnation → Option Incarnation
or_else (some a) y = some a
or_else none y = y

-- the life of take u that the step itself put at one of the places Q, if it did
unfoldable pub met_of : Event → Places → ℕ → Option Incarnation
met_of nothing Q u = none
met_of (cleared n) Q u = none
met_of (sent n t a) Q u = pick (Q.message n and eqb t u) (some a) none
met_of (taken n t) Q u = none
met_of (opens t c a) Q u =
    pick (Q.creation c and eqb t u) (some a)
    (pick ((Q.state c or updated Q.behaviour c false t) and eqb c u) (some initial_incarnation) none)
met_of (reads t) Q u = none
met_of (writes t) Q u = none
met_of (finishes t) Q u = none
met_of (renewed v a) Q u = pick (v u and Q.state u) (some (a u)) none
met_of (annihilated t) Q u = none
met_of (successive e f) Q u = or_else (met_of f Q u) (met_of e (back f Q) u)
