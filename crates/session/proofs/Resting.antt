-- Who rests on a take's present life: what the query answers is what the book says.
use Prim.Native.Nat.{ℕ, zero, suc, ◌≤◌, ◌<◌}
use mathlib.Core.Bool.{true, false≢true}
use mathlib.Core.Path.{◌≡◌, refl, ap, sym, ◌∙◌, subst}
use mathlib.Core.List.Memᴰ
use mathlib.Core.Logic.{◌⊎◌, inl, inr, ⊎_elim, ◌↔◌}
use Rattle.octets.specs.Bytes.{◌and◌, ◌or◌}
use Rattle.octets.proofs.Chunks.{sides}
use Rattle.octets.proofs.Zero.{both}
use Rattle.marks.specs.Incarnation.{Incarnation, same_incarnation}
use Rattle.marks.specs.History.{HistoryView, incarnation_of}
use Rattle.marks.specs.Order.{Precedes}
use Rattle.marks.proofs.Order.{checkpointed-up, checkpointed-under, under-checkpointed, before-checkpointed, checkpointed-longer, precedes-antisym}
use Rattle.marks.proofs.Tests.{same_test}
use Rattle.maps.specs.declared.DependenceMap.{DependenceMap}
use Rattle.maps.specs.Map.{held_at, history_at}
use Rattle.maps.specs.View.{map_view}
use Rattle.maps.proofs.View.{view-held, view-some}
use Rattle.rules.specs.Layout.{Layout}
use Rattle.rules.specs.State.{Transactor, State, no_transactor, transactor_at, own_history, live}
use Rattle.rules.specs.Refusals.{named}
use Rattle.rules.specs.Dependents.{holds_present, rests_at, group_of, through_at, dependents_of}
use Rattle.rules.specs.Internal.Well.{WellFormed}
use Rattle.rules.proofs.Groups.Impediments.{live-low}
use Rattle.rules.proofs.Bits.{named_past}
use Rattle.rules.proofs.Groups.Dependents.{group-names, in_group}
use Rattle.rules.proofs.Groups.Through.{through-split, through-first, through-self, through-rests, through-trans}
use Rattle.session.specs.Provenance.{Live, Incarnations, In, Holder, Provenance, blank}
use Rattle.session.specs.Grounds.{from_start, from-noted, from_list, Ground, in-state, in-creation, RestsOn, CheckpointedNow}
use Rattle.session.specs.Withdrawal.{RestsThrough, itself, via}
use Rattle.session.proofs.Model.{Ledger, status_of, view}
use Rattle.session.proofs.Tables.{and-of, or-to, or-of}
use Rattle.session.proofs.Sets.{SetRel, cell-some, cell-has}
use Rattle.session.proofs.Relation.{live-or-not, present, present-live, Whole, Rel, whole-known, own-history}
use Rattle.session.proofs.Relation as relation
use Rattle.session.proofs.Sign.{checkpointed_now-of, checkpointed_now-to}
use Rattle.session.proofs.ViewState.{no-transactor, own_view}
use Rattle.session.proofs.ViewRules.{live_test}

-- ---- the book alone

-- a take that is not live has no set, and rests on nothing
pub ground-live : (l : Ledger) (b : Provenance) → Rel l b → {u t : ℕ} {a : Incarnation} → Ground (b.holders u) t a → Live (b.holders u).status
ground-live l b r {u} {t} {a} g = go (live-or-not (b.holders u).status)
  where
    none : Ground (blank (b.holders u).status) t a → ⊥
    none (in-state i) = Memᴰ.not-nil i
    none (in-creation i) = Memᴰ.not-nil i

    go : Live (b.holders u).status ⊎ (Live (b.holders u).status → ⊥) → Live (b.holders u).status
    go (inl k) = k
    go (inr k) = absurd (none (subst (λ (h : Holder). Ground h t a) ((r.holders u).gone k) g))

-- what a take rests on beyond its own two sets is signed
pub rests-ground : (l : Ledger) (b : Provenance) → Rel l b → {t u : ℕ} {a : Incarnation} → RestsOn b t u a → Ground (b.holders t) u a ⊎ CheckpointedNow b u a
rests-ground l b r (from_start g) = inl g
rests-ground l b r (from-noted {t} {u} {a} {c} x y) = inr (checkpointed_now-of b (r.noted.grounds t a u c y))
rests-ground l b r {t} (from_list {u} {a} {c} x e) = inr (⊎_elim (λ g. under g) (λ s. checkpointed s) (rests-ground l b r x))
  where
    whole : Ground (b.holders t) u a → Whole (b.holders t) u a
    whole (in-state i) = relation.in-state i
    whole (in-creation i) = relation.in-creation i

    under : Ground (b.holders t) u a → CheckpointedNow b u c
    under g = checkpointed_now-of b (checkpointed-up (before-checkpointed a c e) (whole-known (r.holders t) u a (whole g)))

    checkpointed : CheckpointedNow b u a → CheckpointedNow b u c
    checkpointed s = checkpointed_now-of b (under-checkpointed (checkpointed-under (before-checkpointed a c e)) (checkpointed_now-to b s))

-- a present life is not signed: what rests on it has it in its own sets
pub rests-present : (l : Ledger) (b : Provenance) → Rel l b → {u t : ℕ} → RestsOn b u t (b.holders t).history.incarnation → Ground (b.holders u) t (b.holders t).history.incarnation
rests-present l b r x = ⊎_elim (λ g. g) (λ s. absurd (checkpointed-longer s.is refl)) (rests-ground l b r x)

-- ---- a map holds the present life exactly if its set does

pub rests-below : {y : Layout} {s : State} → WellFormed y s → (t u : ℕ) → rests_at s t u ≡ true → u < y.transactors
unfolding rests_at
rests-below {y} {s} w t u e = live-low w u (both (live (transactor_at s u)) (holds_present s t (transactor_at s u).state or holds_present s t (transactor_at s u).creation) e).0

module _ {y : Layout} {s : State} (well : WellFormed y s) {b : Provenance} (r : Rel (view s) b) (t : ℕ) (there : Live (b.holders t).status) where
  abbrev now : Incarnation
  now = (b.holders t).history.incarnation

  own_is : incarnation_of (own_history t (transactor_at s t)) ≡ now
  unfolding view
  own_is = ap (λ (m : HistoryView). m.incarnation) (sym (own_view well t) ∙ own-history (r.holders t))

  pub holds-exactly : (m : DependenceMap) (X : Incarnations) → SetRel (present b.holders) (map_view m) X → (holds_present s t m ≡ true) ↔ In t now X
  unfolding holds_present
  holds-exactly m X rel = (to, of)
    where
      to : held_at m t and same_incarnation (incarnation_of (history_at m t)) (incarnation_of (own_history t (transactor_at s t))) ≡ true → In t now X
      to e =
          let p = both (held_at m t) (same_incarnation (incarnation_of (history_at m t)) (incarnation_of (own_history t (transactor_at s t)))) e in
          let q : incarnation_of (history_at m t) ≡ now = (same_test _ _).0 p.1 ∙ own_is in
          subst (λ (a : Incarnation). In t a X) q (cell-has (view-held m t p.0) (rel t)).has

      of : In t now X → held_at m t and same_incarnation (incarnation_of (history_at m t)) (incarnation_of (own_history t (transactor_at s t))) ≡ true
      of x =
          let k = cell-some now x (rel t) in
          let known = subst (λ (h : HistoryView). Precedes k.0.incarnation h.incarnation) (present-live (b.holders t).status (b.holders t).history there) k.2.known.incarnation in
          let same : now ≡ k.0.incarnation = precedes-antisym (k.2.top now x) known in
          let v = view-some m t k.0 k.1 in
          let is : incarnation_of (history_at m t) ≡ incarnation_of (own_history t (transactor_at s t)) = sym (ap (λ (h : HistoryView). h.incarnation) v.1) ∙ sym same ∙ sym own_is in
          and-of (held_at m t) (same_incarnation (incarnation_of (history_at m t)) (incarnation_of (own_history t (transactor_at s t)))) v.0 ((same_test _ _).1 is)

  -- the test of the query at take u
  pub rests-exactly : (u : ℕ) → (rests_at s t u ≡ true) ↔ RestsOn b u t now
  unfolding rests_at view
  rests-exactly u = (to, of)
    where
      x : Transactor
      x = transactor_at s u

      in-s : (holds_present s t x.state ≡ true) ↔ In t now (b.holders u).state
      in-s = holds-exactly x.state (b.holders u).state (r.holders u).state

      in_c : (holds_present s t x.creation ≡ true) ↔ In t now (b.holders u).creation
      in_c = holds-exactly x.creation (b.holders u).creation (r.holders u).creation

      to : live x and (holds_present s t x.state or holds_present s t x.creation) ≡ true → RestsOn b u t now
      to e =
          let p = both (live x) (holds_present s t x.state or holds_present s t x.creation) e in
          ⊎_elim (λ h. from_start (in-state (in-s.0 h))) (λ h. from_start (in-creation (in_c.0 h))) (or-to (holds_present s t x.state) (holds_present s t x.creation) p.1)

      either : Ground (b.holders u) t now → (holds_present s t x.state ≡ true) ⊎ (holds_present s t x.creation ≡ true)
      either (in-state i) = inl (in-s.1 i)
      either (in-creation i) = inr (in_c.1 i)

      of : RestsOn b u t now → live x and (holds_present s t x.state or holds_present s t x.creation) ≡ true
      of k =
          let g = rests-present (view s) b r k in
          let w : Live (status_of x.status) = rw (r.holders u).status (ground-live (view s) b r g) in
          and-of (live x) (holds_present s t x.state or holds_present s t x.creation) ((live_test x.status).1 w)
          (or-of (holds_present s t x.state) (holds_present s t x.creation) (either g))

  -- Take u is in the answer's word exactly if the book says that u rests on take t's present life. Such a take is live.
  pub resting-exactly : (u : ℕ) → (named (dependents_of y s t).resting u ≡ true) ↔ RestsOn b u t now
  unfolding dependents_of
  resting-exactly u = (
    λ e. (rests-exactly u).0 (inside e (sides u y.transactors)),
    λ k. let e = (rests-exactly u).1 k in in_group y.transactors (rests_at s t) u (rests-below well t u e) ∙ e,
  )
    where
      inside : named (group_of y.transactors (rests_at s t)) u ≡ true → (u < y.transactors) ⊎ (y.transactors ≤ u) → rests_at s t u ≡ true
      inside e (inl h) = sym (in_group y.transactors (rests_at s t) u h) ∙ e
      inside e (inr h) = absurd (false≢true (sym (named_past _ u y.transactors (group-names y.transactors (rests_at s t)).bits h) ∙ e))

-- ---- through others

pub rests-trans : {b : Provenance} {t u w : ℕ} → RestsThrough b t u → RestsThrough b u w → RestsThrough b t w
rests-trans p itself = p
rests-trans p (via q e) = via (rests-trans p q) e

module _ {y : Layout} {s : State} (well : WellFormed y s) {b : Provenance} (r : Rel (view s) b) where
  pub through-live : {t u : ℕ} → Live (b.holders t).status → RestsThrough b t u → Live (b.holders u).status
  through-live there itself = there
  through-live there (via q e) = ground-live (view s) b r (rests-present (view s) b r e)

  pub live_below : (t : ℕ) → Live (b.holders t).status → t < y.transactors
  unfolding view
  live_below t there = ⊎_elim (λ h. h) (λ (h : y.transactors ≤ t). absurd (past (no-transactor well t h))) (sides t y.transactors)
    where
      past : transactor_at s t ≡ no_transactor → ⊥
      past e =
          let k : live (transactor_at s t) ≡ true = (live_test (transactor_at s t).status).1 (rw (r.holders t).status there) in
          false≢true (subst (λ (x : Transactor). live x ≡ true) e k)

  pub through-to : (k t w : ℕ) → Live (b.holders t).status → through_at s k t w ≡ true → RestsThrough b t w
  through-to zero t w there e = ⊎_elim (λ (q : t ≡ w). subst (RestsThrough b t) q itself) (λ q. via itself ((rests-exactly well r t there w).0 q)) (through-first s t w e)
  through-to (suc k) t w there e = go (through-split s k t w e) (λ (u x : ℕ). through-to k u x)
    where
      go : (through_at s k t w ≡ true) ⊎ ((through_at s k t k ≡ true) × (through_at s k k w ≡ true))
          → ((u x : ℕ) → Live (b.holders u).status → through_at s k u x ≡ true → RestsThrough b u x) → RestsThrough b t w
      go (inl q) f = f t w there q
      go (inr q) f = let p = f t k there q.0 in rests-trans p (f k w (through-live there p) q.1)

  pub through-of : {t w : ℕ} → Live (b.holders t).status → RestsThrough b t w → through_at s y.transactors t w ≡ true
  through-of {t} there itself = through-self s y.transactors t
  through-of {t} {w} there (via {u} q e) =
      let l = through-live there q in
      through-trans s y.transactors t u w (live_below u l) (through-of there q) (through-rests s y.transactors u w ((rests-exactly well r u l w).1 e))

  -- Take u is in the answer's word exactly if the book says that it is take t or rests on its present life, directly or through others.
  pub through-exactly : (t : ℕ) → Live (b.holders t).status → (u : ℕ) → (named (dependents_of y s t).through u ≡ true) ↔ RestsThrough b t u
  unfolding dependents_of
  through-exactly t there u = (
    λ e. through-to y.transactors t u there (inside e (sides u y.transactors)),
    λ k. in_group y.transactors (through_at s y.transactors t) u (live_below u (through-live there k)) ∙ through-of there k,
  )
    where
      inside : named (group_of y.transactors (through_at s y.transactors t)) u ≡ true → (u < y.transactors) ⊎ (y.transactors ≤ u) → through_at s y.transactors t u ≡ true
      inside e (inl h) = sym (in_group y.transactors (through_at s y.transactors t) u h) ∙ e
      inside e (inr h) = absurd (false≢true (sym (named_past _ u y.transactors (group-names y.transactors (through_at s y.transactors t)).bits h) ∙ e))
