-- The sets of lives at the places, what an event does to them, and the lives met on the way back as a relation.
use Rattle.std.specs.Prelude.{ℕ, Bool, true, false, ◌≡◌, List, [], ◌∷◌, ◌++◌}
use Rattle.octets.specs.Bytes.{pick}
use Rattle.marks.specs.Incarnation.{Incarnation, initial_incarnation}
use Rattle.octets.specs.Table.{updated}
use Rattle.session.specs.Provenance.{Incarnations, In, one, Provenance, find}
use Rattle.engine_chains.specs.Chain.{Places, Event, nothing, cleared, sent, taken, opens, reads, writes, finishes, renewed, annihilated, successive, back}

-- the sets of lives: of each take, and of each parcel number (empty where none waits)
pub record Sets : Type 0 where
  pub state : ℕ → Incarnations
  pub creation : ℕ → Incarnations
  pub behaviour : ℕ → Incarnations
  pub message : ℕ → Incarnations

abbrev pub no_sets : Sets
no_sets = record { state = λ t. []; creation = λ t. []; behaviour = λ t. []; message = λ n. [] }

-- those of the book
abbrev pub sets_of : Provenance → Sets
sets_of b = record {
  state = λ t. (b.holders t).state;
  creation = λ t. (b.holders t).creation;
  behaviour = λ t. (b.holders t).behaviour;
  message = λ n. (find n b.messages).incarnations;
}

-- life a of take u is in a set that is followed
pub data Reached (S : Sets) (Q : Places) (u : ℕ) (a : Incarnation) : Type 0 where
  by_state : (t : ℕ) → Q.state t ≡ true → In u a (S.state t) → Reached S Q u a
  by-creation : (t : ℕ) → Q.creation t ≡ true → In u a (S.creation t) → Reached S Q u a
  by-behaviour : (t : ℕ) → Q.behaviour t ≡ true → In u a (S.behaviour t) → Reached S Q u a
  by-message : (n : ℕ) → Q.message n ≡ true → In u a (S.message n) → Reached S Q u a

-- what an event does to the sets
unfoldable pub change : Event → Sets → Sets
change nothing S = S
change (cleared n) S = record { state = S.state; creation = S.creation; behaviour = S.behaviour; message = updated S.message n [] }
change (sent n t a) S = record {
  state = S.state;
  creation = S.creation;
  behaviour = S.behaviour;
  message = updated S.message n (S.creation t ++ S.behaviour t ++ one t a);
}
change (taken n t) S = record {
  state = S.state;
  creation = S.creation;
  behaviour = updated S.behaviour t (S.message n);
  message = updated S.message n [];
}
change (opens t c a) S = record {
  state = updated S.state c (one c initial_incarnation);
  creation = updated S.creation c (S.creation t ++ S.behaviour t ++ one t a);
  behaviour = updated (updated S.behaviour t (one c initial_incarnation ++ S.behaviour t)) c [];
  message = S.message;
}
change (reads t) S = record { state = S.state; creation = S.creation; behaviour = updated S.behaviour t (S.state t ++ S.behaviour t); message = S.message }
change (writes t) S = record { state = updated S.state t (S.behaviour t ++ S.state t); creation = S.creation; behaviour = S.behaviour; message = S.message }
change (finishes t) S = record { state = S.state; creation = S.creation; behaviour = updated S.behaviour t []; message = S.message }
change (renewed v a) S = record {
  state = λ u. pick (v u) (one u (a u)) (S.state u);
  creation = λ u. pick (v u) [] (S.creation u);
  behaviour = λ u. pick (v u) [] (S.behaviour u);
  message = S.message;
}
change (annihilated t) S = record { state = updated S.state t []; creation = updated S.creation t []; behaviour = updated S.behaviour t []; message = S.message }
change (successive e f) S = change f (change e S)

-- the lives met: life a of take u
pub data Met : Event → Places → ℕ → Incarnation → Type 0 where
  sender : {n t : ℕ} {a : Incarnation} {Q : Places} → Q.message n ≡ true → Met (sent n t a) Q t a
  opener : {t c : ℕ} {a : Incarnation} {Q : Places} → Q.creation c ≡ true → Met (opens t c a) Q t a
  child : {t c : ℕ} {a : Incarnation} {Q : Places} → Q.state c ≡ true → Met (opens t c a) Q c initial_incarnation
  child-known : {t c : ℕ} {a : Incarnation} {Q : Places} → updated Q.behaviour c false t ≡ true → Met (opens t c a) Q c initial_incarnation
  anew : {v : ℕ → Bool} {a : ℕ → Incarnation} {Q : Places} {t : ℕ} → v t ≡ true → Q.state t ≡ true → Met (renewed v a) Q t (a t)
  in-later : {e f : Event} {Q : Places} {u : ℕ} {a : Incarnation} → Met f Q u a → Met (successive e f) Q u a
  in-earlier : {e f : Event} {Q : Places} {u : ℕ} {a : Incarnation} → Met e (back f Q) u a → Met (successive e f) Q u a

-- ---- through all steps, the last one first

-- the lives met on the way back
pub data Traced : List Event → Places → ℕ → Incarnation → Type 0 where
  here : {e : Event} {es : List Event} {Q : Places} {u : ℕ} {a : Incarnation} → Met e Q u a → Traced (e ∷ es) Q u a
  further : {e : Event} {es : List Event} {Q : Places} {u : ℕ} {a : Incarnation} → Traced es (back e Q) u a → Traced (e ∷ es) Q u a

-- the sets after the steps
unfoldable pub sets_after : List Event → Sets
sets_after [] = no_sets
sets_after (e ∷ es) = change e (sets_after es)
