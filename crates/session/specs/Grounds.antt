-- Document 01, "The book of demand 3": what a take and a signed text rest on; present, signed, withdrawn; the two sets of a signing.
use Rattle.std.specs.Prelude.{ℕ, true, ◌≡◌, [], ◌∷◌, ◌++◌, ◌↔◌}
use Rattle.marks.specs.Incarnation.{Incarnation, Checkpointed}
use Rattle.rules.specs.Refusals.{named}
use Rattle.session.specs.Provenance.{Provenance, Holder, Live, In, annihilated}

-- All that a set of lives brings in, again and again: a noted life brings in what was noted for it, and a life with a list
-- brings in the one signed last before it (the list without its last entry, that entry as n).
pub data Brought (b : Provenance) (start : ℕ → Incarnation → Type 0) : ℕ → Incarnation → Type 0 where
  from_start : {u : ℕ} {a : Incarnation} → start u a → Brought b start u a
  from-noted : {t u : ℕ} {a c : Incarnation} → Brought b start t a → b.noted t a u c → Brought b start u c
  from_list : {u : ℕ} {a c : Incarnation} → Brought b start u a → a.checkpoints ≡ c.checkpoints ++ (c.number ∷ []) → Brought b start u c

-- a take's state and creation sets
pub data Ground (h : Holder) (u : ℕ) (a : Incarnation) : Type 0 where
  in-state : In u a h.state → Ground h u a
  in-creation : In u a h.creation → Ground h u a

-- "A take rests on its state and creation sets, and on all that these lives bring in, again and again". "Unfinished work is not
-- counted": the behaviour set is left out.
abbrev pub RestsOn : Provenance → ℕ → ℕ → Incarnation → Type 0
RestsOn b t u a = Brought b (Ground (b.holders t)) u a

-- "A signed text rests on what was noted for the life at which it was signed, and on all that this brings in, again and again":
-- the text of take t signed at life n.
abbrev pub ValueRestsOn : Provenance → ℕ → Incarnation → ℕ → Incarnation → Type 0
ValueRestsOn b t n u a = Brought b (b.noted t n) u a

-- ---- "Present, signed and withdrawn in demand 3 go by the book's marks."

-- present: the life of its live take's mark
pub record Present (b : Provenance) (u : ℕ) (a : Incarnation) : Type 0 where
  pub live : Live (b.holders u).status
  pub is : a ≡ (b.holders u).history.incarnation

-- "A life is signed if its take's present L begins with its list followed by its n."
pub record CheckpointedNow (b : Provenance) (u : ℕ) (a : Incarnation) : Type 0 where
  pub live : Live (b.holders u).status
  pub is : Checkpointed a (b.holders u).history.incarnation

-- "A life is withdrawn if its take vanished, or if it is neither present nor signed."
pub data SupersededOrAnnihilated (b : Provenance) (u : ℕ) (a : Incarnation) : Type 0 where
  gone : (b.holders u).status ≡ annihilated → SupersededOrAnnihilated b u a
  neither : (Present b u a → ⊥) → (CheckpointedNow b u a → ⊥) → SupersededOrAnnihilated b u a

-- ---- the two sets of a signing of volume g

-- Demand 3: a signing signs exactly when these two sets of the book are equal, and else replies 5.

-- The first: the unsigned lives that the named takes rest on, their own included. A live take has its present life in its state set, so
-- it rests on it, and no clause of its own is needed for that (law own-included of proofs/Reached).
pub record UncheckpointedGround (b : Provenance) (g u : ℕ) (a : Incarnation) : Type 0 where
  pub by : ℕ
  pub named : named g by ≡ true
  pub rests : RestsOn b by u a
  pub uncheckpointed : CheckpointedNow b u a → ⊥

-- The second: the present lives of the named takes that are frozen.
pub record StablePresent (b : Provenance) (g u : ℕ) (a : Incarnation) : Type 0 where
  pub named : named g u ≡ true
  pub present : Present b u a
  pub stable : (b.holders u).history.stable ≡ true

-- Equal: each life of the one is in the other.
abbrev pub Equal : Provenance → ℕ → Type 0
Equal b g = (u : ℕ) (a : Incarnation) → UncheckpointedGround b g u a ↔ StablePresent b g u a

-- Demand 3: no text signed since the begin rests on a withdrawn life. An accepted begin empties the book, so all that is
-- noted in it was noted at a signing since; where nothing was noted for a life, its text rests on nothing.
abbrev pub Sound : Provenance → Type 0
Sound b = (t : ℕ) (n : Incarnation) (u : ℕ) (a : Incarnation) → ValueRestsOn b t n u a → SupersededOrAnnihilated b u a → ⊥
