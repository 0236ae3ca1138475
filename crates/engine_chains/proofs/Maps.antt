-- Document 02, W11: the sets that a receipt compares and the test of a signing by the way back over the steps, for every list of steps
-- from a fresh session.
use Prim.Native.Nat.{ℕ, zero, suc, ◌≤◌, ◌<◌}
use mathlib.Core.Bool.{Bool, true, false≢true}
use mathlib.Core.Path.{◌≡◌, refl, subst}
use mathlib.Core.List.Memᴰ
use mathlib.Core.List.{List, ◌∷◌, ◌++◌}
use mathlib.Core.Logic.{◌⊎◌, inl, inr, ⊎_elim, ◌↔◌}
use native.Mathlib.Omega.{arith}
use lib.Dec.{eqb}
use borrow.Author.Tests.{eqb-true, eq-eqb}
use Rattle.octets.specs.Bytes.{Octets}
use Rattle.octets.specs.Numbers.{bound}
use Rattle.marks.specs.Incarnation.{Incarnation, Checkpointed}
use Rattle.marks.specs.History.{HistoryView}
use Rattle.rules.specs.Layout.{Layout, Limits, Fitting}
use Rattle.rules.specs.State.{State}
use Rattle.rules.specs.Step.{step_at}
use Rattle.rules.specs.Refusals.{named}
use Rattle.rules.specs.Rules.{step_of}
use Rattle.rules.specs.Internal.Well.{WellFormed}
use Rattle.rules.specs.Calls.{state_after}
use Rattle.rules.proofs.Keep.Run.{step_ok-at}
use Rattle.rules.proofs.Keep.Step.{keeps-after}
use Rattle.session.specs.Provenance.{Live, In, Provenance, empty_provenance, find}
use Rattle.session.specs.Grounds.{from_start}
use Rattle.session.specs.Grounds as grounds
use Rattle.session.specs.Fed as book
use Rattle.session.specs.Fed.{ProvenanceSteps}
use Rattle.engine_chains.specs.Chain.{Places, message_alone, ground_of, Event, back}
use Rattle.engine_chains.specs.Internal.Sets.{Reached, by_state, by-creation, by-behaviour, by-message, sets_of, Met, Traced, here, further}
use Rattle.engine_chains.specs.Internal.Book.{events_of}
use Rattle.session.proofs.Model.{Ledger, own, view}
use Rattle.session.proofs.Sets.{cell-has}
use Rattle.session.proofs.Relation.{Rel, own-history}
use Rattle.session.proofs.Locals.{live-opened}
use Rattle.session.proofs.Sign.{EntryReady, Ready, Settled, settled}
use Rattle.session.proofs.Step.{Stepped, step_right}
use Rattle.session.proofs.ViewStep.{ready_at, ready-at}
use Rattle.engine_chains.proofs.BookSets.{book-traced}
use Rattle.engine_chains.proofs.Forward.{step-forward, step-opened}

-- ---- the two ways back of a receipt

module _ (b : Provenance) where
  pub message-reached : (n u : ℕ) (a : Incarnation) → In u a (find n b.messages).incarnations ↔ Reached (sets_of b) (message_alone n) u a
  message-reached n u a = (λ i. by-message n (eq-eqb n n refl) i, from)
    where
      from : Reached (sets_of b) (message_alone n) u a → In u a (find n b.messages).incarnations
      from (by_state t q i) = absurd (false≢true q)
      from (by-creation t q i) = absurd (false≢true q)
      from (by-behaviour t q i) = absurd (false≢true q)
      from (by-message k q i) = subst (λ z. In u a (find z b.messages).incarnations) (eqb-true k n q) i

  pub ground-reached : (t u : ℕ) (a : Incarnation) → In u a ((b.holders t).state ++ (b.holders t).creation) ↔ Reached (sets_of b) (ground_of (λ k. eqb k t)) u a
  ground-reached t u a = (
    λ i. ⊎_elim (λ z. by_state t (eq-eqb t t refl) z) (λ z. by-creation t (eq-eqb t t refl) z) (Memᴰ.append_cases (b.holders t).state i),
    from,
  )
    where
      from : Reached (sets_of b) (ground_of (λ k. eqb k t)) u a → In u a ((b.holders t).state ++ (b.holders t).creation)
      from (by_state k q i) = Memᴰ.append_left (b.holders t).creation (subst (λ z. In u a (b.holders z).state) (eqb-true k t q) i)
      from (by-creation k q i) = Memᴰ.append_right (b.holders t).state (subst (λ z. In u a (b.holders z).creation) (eqb-true k t q) i)
      from (by-behaviour k q i) = absurd (false≢true q)
      from (by-message k q i) = absurd (false≢true q)

-- ---- the test at a signing

-- a, a life of take u, is signed, or the present life of a named take: of the own marks alone
pub record IncarnationReady (l : Ledger) (v : ℕ → Bool) (u : ℕ) (a : Incarnation) : Type 0 where
  pub live : Live (l.nodes u).status
  pub is : Checkpointed a (own u (l.nodes u)).incarnation ⊎ ((v u ≡ true) × (a ≡ (own u (l.nodes u)).incarnation))

pub record ReadyBack (l : Ledger) (es : List Event) (v : ℕ → Bool) : Type 0 where
  pub stable : (t : ℕ) → v t ≡ true → (own t (l.nodes t)).stable ≡ true
  pub incarnations : (u : ℕ) (a : Incarnation) → Traced es (ground_of v) u a → IncarnationReady l v u a

module _ {y : Layout} {m : Limits} {steps : List ℕ} {i : ℕ} {b : Provenance} (τ : ProvenanceSteps y (empty_provenance m) steps i b) (l : Ledger) (r : Rel l b) (g : ℕ) where
  same-own : (u : ℕ) → own u (l.nodes u) ≡ (b.holders u).history
  same-own u = own-history (r.holders u)

  settled-incarnation : (u : ℕ) (a : Incarnation) → Settled b g u a → IncarnationReady l (named g) u a
  settled-incarnation u a (inl s) = record { live = rw (r.holders u).status s.live; is = inl (rw (same-own u) s.is) }
  settled-incarnation u a (inr s) = record { live = rw (r.holders u).status s.present.live; is = inr (s.named, rw (same-own u) s.present.is) }

  reached-incarnation : Ready l (named g) → (u : ℕ) (a : Incarnation) → Reached (sets_of b) (ground_of (named g)) u a → IncarnationReady l (named g) u a
  reached-incarnation ok u a (by_state t n x) = settled-incarnation u a (settled l b r g ok t n u a (from_start (grounds.in-state x)))
  reached-incarnation ok u a (by-creation t n x) = settled-incarnation u a (settled l b r g ok t n u a (from_start (grounds.in-creation x)))
  reached-incarnation ok u a (by-behaviour t n x) = absurd (false≢true n)
  reached-incarnation ok u a (by-message t n x) = absurd (false≢true n)

  pub ready-traced : Ready l (named g) ↔ ReadyBack l (events_of τ) (named g)
  ready-traced = (
    λ ok. record { stable = ok.stable; incarnations = λ u a x. reached-incarnation ok u a ((book-traced τ (ground_of (named g)) u a).1 x) },
    λ ok. record {
      stable = ok.stable;
      state = λ t n u k e. entry u k (ok.incarnations u k.incarnation ((book-traced τ (ground_of (named g)) u k.incarnation).0 (by_state t n (cell-has e ((r.holders t).state u)).has)));
      creation = λ t n u k e. entry u k (ok.incarnations u k.incarnation ((book-traced τ (ground_of (named g)) u k.incarnation).0 (by-creation t n (cell-has e ((r.holders t).creation u)).has)));
    },
  )
    where
      entry : (u : ℕ) (k : HistoryView) → IncarnationReady l (named g) u k.incarnation → EntryReady l (named g) u k
      entry u k z = record { live = z.live; is = z.is }

-- ---- every list of steps from a fresh session

pub met-below : {e : Event} {es : List Event} {n k : ℕ} → ((Q : Places) (u : ℕ) (a : Incarnation) → Traced es Q u a → u < n) → n ≤ k → ((Q : Places) (u : ℕ) (a : Incarnation) → Met e Q u a → u < k)
    → (Q : Places) (u : ℕ) (a : Incarnation) → Traced (e ∷ es) Q u a → u < k
met-below f l g Q u a (here x) = g Q u a x
met-below {e} f l g Q u a (further x) = let h = f (back e Q) u a x in omega arith

pub record TracedRun (y : Layout) (m : Limits) (s : State) (steps : List ℕ) (i : ℕ) : Type 1 where
  pub after : Provenance
  pub fed : ProvenanceSteps y (empty_provenance m) steps i after
  pub rel : Rel (view (state_after y s steps i)) after
  -- every take met is opened
  pub below : (Q : Places) (u : ℕ) (a : Incarnation) → Traced (events_of fed) Q u a → u < after.opened

module _ {y : Layout} {m : Limits} (z : Fitting y) {s : State} (well : WellFormed y s) (r : Rel (view s) (empty_provenance m)) (steps : List ℕ) (octets : Octets steps) where
  unfoldable pub traced-more : (i : ℕ) → TracedRun y m s steps i → TracedRun y m s steps (suc i)
  unfolding state_after
  traced-more i before =
      let ok = step_ok-at steps octets i in
      let k : Stepped y (state_after y s steps i) before.after (step_at steps i) = step_right z (keeps-after z well steps octets i) before.rel ok in
      let f = step-forward (view (state_after y s steps i)) before.rel k.right.provenance in
      record { after = k.after; fed = book.more before.fed k.right.provenance; rel = k.rel; below = met-below before.below (step-opened k.right.provenance) (λ Q u a x. live-opened (view (step_of y (state_after y s steps i) (step_at steps i)).state) k.after k.rel u (f.meets Q u a x).1) }

  unfoldable pub traced-run : (i : ℕ) → TracedRun y m s steps i
  unfolding state_after
  traced-run zero = record { after = empty_provenance m; fed = book.none; rel = r; below = λ Q u a x. elim x [ ] }
  traced-run (suc i) = traced-more i (traced-run i)

  module _ (i : ℕ) where
    abbrev now : State
    now = state_after y s steps i

    -- the events of the first i steps, the last one first
    unfoldable pub events : List Event
    unfolding traced-run
    events = events_of (traced-run i).fed

    ok : WellFormed y now
    ok = keeps-after z well steps octets i

    -- "for a signing, the lives"
    pub ready-back : (g : ℕ) → g < bound 2 → (ready_at y now g ≡ true) ↔ ReadyBack (view now) events (named g)
    unfolding events
    ready-back g bits =
        let τ = traced-run i in
        let p = ready-at ok g bits in
        let q = ready-traced τ.fed (view now) τ.rel g in
        (λ e. q.0 (p.0 e), λ e. p.1 (q.1 e))
