-- What a withdrawal spoils: a take falls, and others rest on the life that it had.
use Rattle.std.specs.Prelude.{ℕ, true, false, ◌≡◌, ◌⊎◌, ◌↔◌, ◌≢◌, get_or}
use mathlib.Core.List.{List, Memᴰ}
use Rattle.std.proofs.Math.Option.{Option}
use Rattle.octets.specs.Bytes.{Octets}
use Rattle.marks.specs.Incarnation.{Incarnation}
use Rattle.marks.specs.History.{incarnation_of}
use Rattle.rules.specs.Layout.{Layout}
use Rattle.rules.specs.State.{State, transactor_at, own_history, live}
use Rattle.rules.specs.declared.Step.{Step}
use Rattle.rules.specs.Step.{step_at, fallen_back, vanished}
use Rattle.rules.specs.Refusals.{named}
use Rattle.rules.specs.Rules.{step_of}
use Rattle.rules.specs.Pack.{pack}
use Rattle.rules.specs.Groups.{Smallest}
use Rattle.rules.specs.Dependents.{dependents_of}
use Rattle.session.specs.Provenance.{In, WaitingMessage, Provenance}
use Rattle.session.specs.Grounds.{RestsOn, Present, SupersededOrAnnihilated}
use Rattle.session.specs.Steps.{ProvenanceStep}
use Rattle.session.specs.Trace.{CallsFrom, GoesOn}
use Rattle.session.specs.Point.{outcome_in}
use Rattle.session.specs.Waiting.{ReadyGroup}

-- step p makes take t fall: outcome 3 or 4, with t the take acted on
pub data Withdraws (y : Layout) (s : State) (p : Step) (t : ℕ) : Type 0 where
  rolls-back : (step_of y s p).reply.outcome ≡ fallen_back → (step_of y s p).reply.transactor ≡ t → Withdraws y s p t
  annihilates : (step_of y s p).reply.outcome ≡ vanished → (step_of y s p).reply.transactor ≡ t → Withdraws y s p t

-- any further steps from state s on, signings among them, refused ones included; a step is what some eight bytes hold
pub data Further (y : Layout) (s : State) : State → Type 0 where
  here : Further y s s
  step : {now : State} → Further y s now → (steps : List ℕ) → Octets steps → (i : ℕ) → Further y s (step_of y now (step_at steps i)).state

-- the same of the book: any further steps from b on
pub data ProvenanceFurther (y : Layout) (b : Provenance) : Provenance → Type 1 where
  no-further : ProvenanceFurther y b b
  further : {now after : Provenance} → ProvenanceFurther y b now → (steps : List ℕ) → Octets steps → (i : ℕ) → ProvenanceStep y now (step_at steps i) after → ProvenanceFurther y b after

-- take u is live in the state after with the life that it had in s
pub record SameIncarnation (s after : State) (u : ℕ) : Type 0 where
  pub live : live (transactor_at after u) ≡ true
  pub is : incarnation_of (own_history u (transactor_at after u)) ≡ incarnation_of (own_history u (transactor_at s u))

-- Take w is take t, or rests on its present life, or on the present life of a take that does, and so on: the least such set. A page
-- set from a page that was not read before it was sent has that page's life in its sets and not that of the names; it is lost with them all the
-- same.
pub data RestsThrough (b : Provenance) (t : ℕ) : ℕ → Type 0 where
  itself : RestsThrough b t t
  via : {u w : ℕ} → RestsThrough b t u → RestsOn b w u (b.holders u).history.incarnation → RestsThrough b t w

-- A take is spoilt: it rests on a withdrawn life, or on the present life of a take that is spoilt.
pub data Spoilt (b : Provenance) : ℕ → Type 0 where
  on-withdrawn : {x u : ℕ} {a : Incarnation} → RestsOn b x u a → SupersededOrAnnihilated b u a → Spoilt b x
  on-spoilt : {x u : ℕ} → Spoilt b u → RestsOn b x u (b.holders u).history.incarnation → Spoilt b x

-- Nobody holds life a of take t: it is in no state, creation or behaviour set of a take and in no set of a waiting parcel. Nor does any take rest on it.
pub record Unheld (b : Provenance) (t : ℕ) (a : Incarnation) : Type 0 where
  pub state : (u : ℕ) → In t a (b.holders u).state → ⊥
  pub creation : (u : ℕ) → In t a (b.holders u).creation → ⊥
  pub behaviour : (u : ℕ) → In t a (b.holders u).behaviour → ⊥
  pub messages : (q : WaitingMessage) → Memᴰ q b.messages → In t a q.incarnations → ⊥
  pub rests : (u : ℕ) → RestsOn b u t a → ⊥

-- no volume with take u is ready, after whatever steps, as long as u keeps the life that it has in s
abbrev pub Doomed : Layout → State → ℕ → Type 0
Doomed y s u = (after : State) → Further y s after → SameIncarnation s after u → (v : ℕ) → named v u ≡ true → ReadyGroup y after v → ⊥

-- what smallest_group answers about take u on the image that holds state s, its refusal included
abbrev pub SmallestIn : Layout → State → ℕ → Option ℕ → Type 0
SmallestIn y s u a = Smallest y (pack y s) u a

-- ---- a step of a session by which a take falls

-- its eight bytes of reply say that take t fell: outcome 3 or 4, with t the take acted on
pub data RolledBackIn (reply : List ℕ) (t : ℕ) : Type 0 where
  rolled-back : outcome_in reply ≡ fallen_back → get_or reply 1 0 ≡ t → RolledBackIn reply t
  annihilated-in : outcome_in reply ≡ vanished → get_or reply 1 0 ≡ t → RolledBackIn reply t

-- What the two queries say of it: s and b, the ledger's state and the book just before the step; s' and c, just after it.
pub record Withdrawal (y : Layout) (s : State) (b : Provenance) (s' : State) (c : Provenance) (t : ℕ) : Type 1 where
  -- Its life was present, and is withdrawn.
  pub withdrawn : Present b t (b.holders t).history.incarnation × SupersededOrAnnihilated c t (b.holders t).history.incarnation
  -- The takes that rest on that life afterwards are those of `resting`, but for take t itself.
  pub resting : (u : ℕ) → RestsOn c u t (b.holders t).history.incarnation ↔ ((named (dependents_of y s t).resting u ≡ true) × (t ≢ u))
  -- The takes that are spoilt afterwards are those that were before, and those of `through`; take t apart.
  pub spoils : (x : ℕ) → t ≢ x → Spoilt c x ↔ (Spoilt b x ⊎ (named (dependents_of y s t).through x ≡ true))
  -- No volume that names one of `through` is ready, after whatever steps, as long as that take keeps its present life; nor was one before.
  pub doomed : (x : ℕ) → named (dependents_of y s t).through x ≡ true → t ≢ x → {after : State} → Further y s' after → SameIncarnation s after x → (v : ℕ) → named v x ≡ true → ReadyGroup y after v → ⊥
  pub unready : (x : ℕ) → named (dependents_of y s t).through x ≡ true → (v : ℕ) → named v x ≡ true → ReadyGroup y s v → ⊥
  -- Where `resting` and `unfinished` name nobody but take t itself and no waiting parcel has that life, nobody ever holds it after the fall,
  -- whatever further steps come.
  pub nobody : ((u : ℕ) → named (dependents_of y s t).resting u ≡ true → t ≡ u) → ((u : ℕ) → named (dependents_of y s t).unfinished u ≡ true → t ≡ u) → (dependents_of y s t).carried ≡ 0
      → {d : Provenance} → ProvenanceFurther y c d → Unheld d t (b.holders t).history.incarnation
  -- Every volume is ready after it exactly if it was before: what the fall takes from those of `through` is the future.
  pub ready : (v : ℕ) → ReadyGroup y s v ↔ ReadyGroup y s' v
  -- What smallest_group answers about a take that is not in `through` is the same before and after the fall, a refusal included.
  pub smallest : (u : ℕ) → named (dependents_of y s t).through u ≡ false → (a : Option ℕ) → SmallestIn y s u a ↔ SmallestIn y s' u a

-- ---- calls after it

-- calls of the same session, one after the other, signings among their steps
abbrev pub Continued : Layout → (img after : List ℕ) → Type 0
Continued y img after = CallsFrom y (GoesOn y) img after
