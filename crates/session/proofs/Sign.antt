-- Signing: the ledger's test holds exactly if the book's two sets are equal; and no signed text rests on a withdrawn life.
use Prim.Native.Nat.{ℕ}
use mathlib.Core.Bool.{Bool, true, false≢true}
use mathlib.Core.Path.{◌≡◌, refl, ap, sym, ◌∙◌}
use mathlib.Core.Logic.{◌⊎◌, inl, inr, ⊎_elim}
use mathlib.Core.Option.{some}
use Rattle.marks.specs.Incarnation.{Incarnation, Checkpointed}
use Rattle.marks.specs.History.{HistoryView}
use Rattle.marks.specs.Order.{Under}
use Rattle.marks.proofs.Order.{precedes-split, under_split, under-checkpointed, checkpointed-under, checkpointed-longer, before-checkpointed}
use Rattle.marks.proofs.Tests.{dec_checkpointed}
use Rattle.maps.specs.Internal.View.{MapView}
use Rattle.rules.specs.Refusals.{named}
use Rattle.session.specs.Provenance.{Status, annihilated, Live, Incarnations, In, Provenance}
use Rattle.session.specs.Grounds.{Brought, from_start, from-noted, from_list, Ground, in-state, in-creation, RestsOn, ValueRestsOn, Present, CheckpointedNow, SupersededOrAnnihilated, gone, neither, UncheckpointedGround, StablePresent, Equal, Sound}
use Rattle.session.proofs.Model.{Ledger, own}
use Rattle.session.proofs.Sets.{SetRel, cell-some, cell-has}
use Rattle.session.proofs.Relation.{live-or-not, present, present-live, nothing-checkpointed, Whole, Rel, own-history}
use Rattle.session.proofs.Relation as relation

-- ---- the ledger's test, over the takes v names

-- m, a mark of take u, is of a signed life, or of the present life of a named take
pub record EntryReady (l : Ledger) (v : ℕ → Bool) (u : ℕ) (m : HistoryView) : Type 0 where
  pub live : Live (l.nodes u).status
  pub is : Checkpointed m.incarnation (own u (l.nodes u)).incarnation ⊎ ((v u ≡ true) × (m.incarnation ≡ (own u (l.nodes u)).incarnation))

pub record Ready (l : Ledger) (v : ℕ → Bool) : Type 0 where
  pub stable : (t : ℕ) → v t ≡ true → (own t (l.nodes t)).stable ≡ true
  pub state : (t : ℕ) → v t ≡ true → (u : ℕ) (m : HistoryView) → (l.nodes t).state u ≡ some m → EntryReady l v u m
  pub creation : (t : ℕ) → v t ≡ true → (u : ℕ) (m : HistoryView) → (l.nodes t).creation u ≡ some m → EntryReady l v u m

-- ---- signed lives

-- signed, by the total present marks of the relation
pub checkpointed_now-of : (b : Provenance) {u : ℕ} {a : Incarnation} → Checkpointed a (present b.holders u).incarnation → CheckpointedNow b u a
checkpointed_now-of b {u} {a} c = go (live-or-not (b.holders u).status)
  where
    go : Live (b.holders u).status ⊎ (Live (b.holders u).status → ⊥) → CheckpointedNow b u a
    go (inl k) = record { live = k; is = rw (present-live (b.holders u).status (b.holders u).history k) at c }
    go (inr k) = absurd (nothing-checkpointed (b.holders u).status (b.holders u).history k c)

pub checkpointed_now-to : (b : Provenance) {u : ℕ} {a : Incarnation} → CheckpointedNow b u a → Checkpointed a (present b.holders u).incarnation
checkpointed_now-to b {u} s = rw (present-live (b.holders u).status (b.holders u).history s.live) s.is

-- a life under a signed one is signed
checkpointed_now-under : (b : Provenance) {u : ℕ} {a c : Incarnation} → Under c a → CheckpointedNow b u a → CheckpointedNow b u c
checkpointed_now-under b h s = record { live = s.live; is = under-checkpointed h s.is }

-- ---- withdrawn: neither a signed life is, nor a present one

pub live-there : {s : Status} → Live s → s ≡ annihilated → ⊥
live-there {s} k e = none (rw e at k)
  where
    none : Live annihilated → ⊥
    none h = elim h [ ]

pub checkpointed-stands : (b : Provenance) {u : ℕ} {a : Incarnation} → CheckpointedNow b u a → SupersededOrAnnihilated b u a → ⊥
checkpointed-stands b s (gone e) = live-there s.live e
checkpointed-stands b s (neither p n) = n s

pub present-stands : (b : Provenance) {u : ℕ} {a : Incarnation} → Present b u a → SupersededOrAnnihilated b u a → ⊥
present-stands b k (gone e) = live-there k.live e
present-stands b k (neither p n) = p k

module _ (l : Ledger) (b : Provenance) (r : Rel l b) where
  own_is : (u : ℕ) → own u (l.nodes u) ≡ (b.holders u).history
  own_is u = own-history (r.holders u)

  live-is : (u : ℕ) → Live (l.nodes u).status → Live (b.holders u).status
  live-is u k = rw (r.holders u).status at k

  -- the newest mark of a map is in its set
  state-has : (t u : ℕ) (m : HistoryView) → (l.nodes t).state u ≡ some m → In u m.incarnation (b.holders t).state
  state-has t u m e = (cell-has e ((r.holders t).state u)).has

  creation-has : (t u : ℕ) (m : HistoryView) → (l.nodes t).creation u ≡ some m → In u m.incarnation (b.holders t).creation
  creation-has t u m e = (cell-has e ((r.holders t).creation u)).has

  -- a live take has its own present life in its state set
  pub own-has : (t : ℕ) → Live (b.holders t).status → In t (b.holders t).history.incarnation (b.holders t).state
  own-has t k = state-has t t (b.holders t).history ((r.holders t).own k)

  -- what was noted is signed, and so is all that it brings in
  pub value-checkpointed : (t : ℕ) (n : Incarnation) (u : ℕ) (a : Incarnation) → ValueRestsOn b t n u a → CheckpointedNow b u a
  value-checkpointed t n u a (from_start s) = checkpointed_now-of b (r.noted.grounds _ _ _ _ s)
  value-checkpointed t n u a (from-noted x y) = checkpointed_now-of b (r.noted.grounds _ _ _ _ y)
  value-checkpointed t n u a (from_list {u = w} {a = z} {c = y} x e) = checkpointed_now-under b (checkpointed-under (before-checkpointed z y e)) (value-checkpointed t n w z x)

  pub rel-sound : Sound b
  rel-sound t n u a h = checkpointed-stands b (value-checkpointed t n u a h)

-- ---- the two sets, by the book alone

-- a take rests on its state set and on its creation set
rests-state : (b : Provenance) (t u : ℕ) (a : Incarnation) → In u a (b.holders t).state → RestsOn b t u a
rests-state b t u a i = from_start (in-state i)

rests-creation : (b : Provenance) (t u : ℕ) (a : Incarnation) → In u a (b.holders t).creation → RestsOn b t u a
rests-creation b t u a i = from_start (in-creation i)

-- signed, or in the second set
abbrev pub Settled : Provenance → ℕ → ℕ → Incarnation → Type 0
Settled b g u a = CheckpointedNow b u a ⊎ StablePresent b g u a

module _ (b : Provenance) (g : ℕ) where
  -- a life before a settled one is signed
  settle-before : (u : ℕ) (a c : Incarnation) → Checkpointed c a → Settled b g u a → CheckpointedNow b u c
  settle-before u a c s (inl h) = checkpointed_now-under b (checkpointed-under s) h
  settle-before u a c s (inr h) = record { live = h.present.live; is = rw h.present.is at s }

  -- where all that was noted is signed, settled lives bring in nothing else
  pub settle : {start : ℕ → Incarnation → Type 0} → ((t : ℕ) (a : Incarnation) (u : ℕ) (c : Incarnation) → b.noted t a u c → CheckpointedNow b u c)
      → ((u : ℕ) (a : Incarnation) → start u a → Settled b g u a) → (u : ℕ) (a : Incarnation) → Brought b start u a → Settled b g u a
  settle noted support u a (from_start s) = support u a s
  settle noted support u a (from-noted x y) = inl (noted _ _ _ _ y)
  settle noted support u c (from_list {a = a} x e) = inl (settle-before u a c (before-checkpointed a c e) (settle noted support u a x))

  -- the own life of a named take is in the first set: no life with the present list is signed
  pub own-uncheckpointed : (t : ℕ) → named g t ≡ true → In t (b.holders t).history.incarnation (b.holders t).state → UncheckpointedGround b g t (b.holders t).history.incarnation
  own-uncheckpointed t n i = record { by = t; named = n; rests = rests-state b t t _ i; uncheckpointed = λ s. checkpointed-longer s.is refl }

  -- the sets are equal where each named take rests on its own life and on settled ones alone
  pub settled-equal : ((t : ℕ) → named g t ≡ true → (u : ℕ) (a : Incarnation) → RestsOn b t u a → Settled b g u a)
      → ((t : ℕ) → named g t ≡ true → Live (b.holders t).status → In t (b.holders t).history.incarnation (b.holders t).state) → Equal b g
  settled-equal rests own u a = (
    λ z. ⊎_elim (λ s. absurd (z.uncheckpointed s)) (λ f. f) (rests z.by z.named u a z.rests),
    λ z. rw z.present.is (own-uncheckpointed u z.named (own u z.named z.present.live)),
  )

  -- and there alone
  pub equal-settled : Equal b g → (t : ℕ) → named g t ≡ true → (u : ℕ) (a : Incarnation) → RestsOn b t u a → Settled b g u a
  equal-settled same t n u a rests = go (dec_checkpointed a (present b.holders u).incarnation)
    where
      go : Dec (Checkpointed a (present b.holders u).incarnation) → Settled b g u a
      go (yes s) = inl (checkpointed_now-of b s)
      go (no f) = inr ((same u a).0 (record { by = t; named = n; rests = rests; uncheckpointed = λ s. f (checkpointed_now-to b s) }))

-- ---- ready and equal

module _ (l : Ledger) (b : Provenance) (r : Rel l b) (g : ℕ) where
  module _ (ok : Ready l (named g)) where
    -- a named take of a ready volume is live: of any other the own mark is not frozen
    pub ready-live : (t : ℕ) → named g t ≡ true → Live (b.holders t).status
    ready-live t n = go (live-or-not (b.holders t).status)
      where
        go : Live (b.holders t).status ⊎ (Live (b.holders t).status → ⊥) → Live (b.holders t).status
        go (inl k) = k
        go (inr k) = absurd (false≢true (sym (ap (λ h. h.history.stable) ((r.holders t).gone k)) ∙ sym (ap (λ m. m.stable) (own_is l b r t)) ∙ ok.stable t n))

    -- a life under a mark that passes the test
    settle-history : (u : ℕ) (a : Incarnation) (m : HistoryView) → Under a m.incarnation → EntryReady l (named g) u m → Settled b g u a
    settle-history u a m under e = go e.is
      where
        k : Live (b.holders u).status
        k = live-is l b r u e.live

        present-one : named g u ≡ true → m.incarnation ≡ (b.holders u).history.incarnation → (a ≡ m.incarnation) ⊎ Checkpointed a m.incarnation → Settled b g u a
        present-one n p (inl q) = inr (record { named = n; present = record { live = k; is = q ∙ p }; stable = rw (own_is l b r u) at (ok.stable u n) })
        present-one n p (inr q) = inl (record { live = k; is = rw p at q })

        go : Checkpointed m.incarnation (own u (l.nodes u)).incarnation ⊎ ((named g u ≡ true) × (m.incarnation ≡ (own u (l.nodes u)).incarnation)) → Settled b g u a
        go (inl s) = inl (record { live = k; is = under-checkpointed under (rw (own_is l b r u) at s) })
        go (inr s) = present-one s.0 (rw (own_is l b r u) at s.1) (under_split under)

    -- a life of a set of take t is under the newest mark there, since the set is coherent
    settle-cell : (t u : ℕ) (a : Incarnation) (M : MapView) (X : Incarnations) → SetRel (present b.holders) M X → ((c : Incarnation) → In u c X → Whole (b.holders t) u c)
        → ((m : HistoryView) → M u ≡ some m → EntryReady l (named g) u m) → In u a X → Settled b g u a
    settle-cell t u a M X rel whole test x =
        let k = cell-some a x (rel u) in
        let under : Under a k.0.incarnation = ⊎_elim (λ z. z) (λ z. absurd ((r.holders t).coherent u a k.0.incarnation (whole a x) (whole k.0.incarnation k.2.has) z)) (precedes-split (k.2.top a x)) in
        settle-history u a k.0 under (test k.0 k.1)

    settle-ground : (t : ℕ) → named g t ≡ true → (u : ℕ) (a : Incarnation) → Ground (b.holders t) u a → Settled b g u a
    settle-ground t n u a (in-state x) = settle-cell t u a (l.nodes t).state (b.holders t).state (r.holders t).state (λ c. relation.in-state) (ok.state t n u) x
    settle-ground t n u a (in-creation x) = settle-cell t u a (l.nodes t).creation (b.holders t).creation (r.holders t).creation (λ c. relation.in-creation) (ok.creation t n u) x

    -- all that a named take rests on is settled
    pub settled : (t : ℕ) → named g t ≡ true → (u : ℕ) (a : Incarnation) → RestsOn b t u a → Settled b g u a
    settled t n = settle b g (λ t a u c y. checkpointed_now-of b (r.noted.grounds t a u c y)) (settle-ground t n)

    pub ready-equal : Equal b g
    ready-equal = settled-equal b g settled (λ t n k. own-has l b r t k)

  -- each mark of the maps has its life in the sets; if that is unsigned, it is in the second set
  pub equal-ready : ((t : ℕ) → named g t ≡ true → Live (b.holders t).status) → Equal b g → Ready l (named g)
  equal-ready live same = record {
    stable = λ t n. rw (own_is l b r t) ((same t _).0 (own-uncheckpointed b g t n (own-has l b r t (live t n)))).stable;
    state = λ t n u m e. test t n u m (rests-state b t u _ (state-has l b r t u m e)) (dec_checkpointed m.incarnation (present b.holders u).incarnation);
    creation = λ t n u m e. test t n u m (rests-creation b t u _ (creation-has l b r t u m e)) (dec_checkpointed m.incarnation (present b.holders u).incarnation);
  }
    where
      live_back : (u : ℕ) → Live (b.holders u).status → Live (l.nodes u).status
      live_back u k = rw (r.holders u).status k

      test : (t : ℕ) → named g t ≡ true → (u : ℕ) (m : HistoryView) → RestsOn b t u m.incarnation → Dec (Checkpointed m.incarnation (present b.holders u).incarnation) → EntryReady l (named g) u m
      test t n u m rests (yes c) =
          let s = checkpointed_now-of b c in
          record { live = live_back u s.live; is = inl (rw (own_is l b r u) s.is) }
      test t n u m rests (no k) =
          let f = (same u m.incarnation).0 (record { by = t; named = n; rests = rests; uncheckpointed = λ s. k (checkpointed_now-to b s) }) in
          record { live = live_back u f.present.live; is = inr (f.named, rw (own_is l b r u) f.present.is) }
