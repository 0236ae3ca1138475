-- Document 02, W3: "A session grown from fresh never meets an unrelated pair, and this is to be shown."
use Rattle.std.specs.Prelude.{ℕ, false, ◌≡◌}
use mathlib.Core.List.{Memᴰ}
use Rattle.marks.specs.Incarnation.{Incarnation}
use Rattle.marks.specs.Relation.{relation_of, is_unrelated}
use Rattle.maps.specs.declared.DependenceMap.{DependenceMap}
use Rattle.maps.specs.Map.{unrelated_at}
use Rattle.rules.specs.State.{State, transactor_at, message_at}
use Rattle.session.specs.Provenance.{In, WaitingMessage, Provenance}

-- ---- in an image

-- the maps of a state: state, creation and behaviour of every take, and that of every waiting parcel
pub data MapOf (s : State) : DependenceMap → Type 0 where
  of-state : (t : ℕ) → MapOf s (transactor_at s t).state
  of-creation : (t : ℕ) → MapOf s (transactor_at s t).creation
  of-behaviour : (t : ℕ) → MapOf s (transactor_at s t).behaviour
  of-message : (k : ℕ) → MapOf s (message_at s k).dependences

-- no take has unrelated marks in two of them
abbrev pub AllRelated : State → Type 0
AllRelated s = (m n : DependenceMap) → MapOf s m → MapOf s n → (u : ℕ) → unrelated_at m n u ≡ false

-- ---- in the book

-- life a of take u is in one of the book's sets
pub data Held (b : Provenance) (u : ℕ) (a : Incarnation) : Type 0 where
  in-state : (t : ℕ) → In u a (b.holders t).state → Held b u a
  in-creation : (t : ℕ) → In u a (b.holders t).creation → Held b u a
  in-behaviour : (t : ℕ) → In u a (b.holders t).behaviour → Held b u a
  in-message : (q : WaitingMessage) → Memᴰ q b.messages → In u a q.incarnations → Held b u a

-- no two lives of one take in its sets are unrelated
abbrev pub SetsRelated : Provenance → Type 0
SetsRelated b = (u : ℕ) (a c : Incarnation) → Held b u a → Held b u c → is_unrelated (relation_of a c) ≡ false
