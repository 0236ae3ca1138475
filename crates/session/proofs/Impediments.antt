-- Why no volume with a take could be signed, in a session: what each answer means in the book; hopeless is spoilt.
use Prim.Native.Nat.{ℕ, ◌≤◌, ◌<◌}
use mathlib.Core.Bool.{true, false, false≢true}
use mathlib.Core.Path.{◌≡◌, refl, ap, sym, ◌∙◌, subst}
use mathlib.Core.List.{List}
use mathlib.Core.Option.{some}
use mathlib.Core.Logic.{◌⊎◌, inl, inr, ⊎_elim, ◌↔◌}
use native.Mathlib.Omega.{arith}
use lib.ListN.{length}
use borrow.Author.Tests.{eq-eqb}
use Rattle.std.specs.Prelude.{Option, Some}
use Rattle.marks.specs.declared.History.{History}
use Rattle.marks.specs.Incarnation.{Incarnation, Superseded, Checkpointed}
use Rattle.marks.specs.History.{HistoryView, incarnation_of, view_of}
use Rattle.marks.proofs.Order.{precedes-split, under_split, under-checkpointed}
use Rattle.marks.specs.Order.{Under}
use Rattle.maps.specs.declared.DependenceMap.{DependenceMap}
use Rattle.maps.specs.Map.{held_at, history_at}
use Rattle.maps.specs.View.{map_view}
use Rattle.maps.proofs.View.{view-some}
use Rattle.rules.specs.declared.Impediment.{Impediment}
use Rattle.rules.specs.declared.Impediment.TheVariants.{Hopeless}
use Rattle.rules.specs.Layout.{Layout, Limits, Fitting, base}
use Rattle.rules.specs.State.{State, transactor_at, own_history, live}
use Rattle.rules.specs.Refusals.{named}
use Rattle.rules.specs.Pack.{unpack}
use Rattle.rules.specs.Calls.{query_refusal}
use Rattle.rules.specs.Dependents.{rests_at, through_at}
use Rattle.rules.specs.Obstacle.{StandsIn, WithdrawnMark}
use Rattle.rules.specs.Obstacle as obstacle
use Rattle.rules.specs.Impediment.{withdrawn_by, next_at, impediment_of, impediment_answer, Follows, arrived, link, Leads, Impedes, is-nothing, is-hopeless, is-exhausted, is-unstable}
use Rattle.rules.specs.Internal.Well.{WellFormed}
use Rattle.rules.proofs.Keep.Step.{fitting-base}
use Rattle.rules.proofs.Groups.Through.{through-self, through-rests, through-trans}
use Rattle.rules.proofs.Groups.Impediments.{next-rests, stands-lost, stands_live, live-low, hopeless-some, hopeless-at, impedes}
use Rattle.session.specs.Provenance.{Live, Incarnations, In, Provenance}
use Rattle.session.specs.Grounds.{Ground, in-state, in-creation, RestsOn, SupersededOrAnnihilated, neither}
use Rattle.session.specs.Fed.{ProvenanceOf}
use Rattle.session.specs.Trace.{Trace, calls_of}
use Rattle.session.specs.Point.{Point, at-end}
use Rattle.session.specs.Waiting.{ReadyGroup}
use Rattle.session.specs.Withdrawal.{RestsThrough, itself, via, Spoilt, on-withdrawn, on-spoilt, Doomed}
use Rattle.session.specs.Meanings.{Onto, ImpedimentMeans, means-nothing, means-hopeless, means-exhausted, means-unstable}
use Rattle.session.proofs.Model.{view}
use Rattle.session.proofs.Sets.{Newest, SetRel, cell-some}
use Rattle.session.proofs.Relation.{live-or-not, present, Rel, own-history}
use Rattle.session.proofs.Relation as relation
use Rattle.session.proofs.Sign.{checkpointed-stands, present-stands}
use Rattle.session.proofs.ViewState.{own_view}
use Rattle.session.proofs.ViewSeen.{seen-checkpoints}
use Rattle.session.proofs.Resting.{rests-below, ground-live, rests-ground, rests-exactly, through-live, through-to, live_below}
use Rattle.session.proofs.Reached.{related, well}
use Rattle.session.proofs.Obstacles.{life-is, live_to, live_of, stands-rests, withdrawn-mark}
use Rattle.session.proofs.Withdrawal.{held-opened, spoilt-doomed, query-live}

module _ {y : Layout} {s : State} (w : WellFormed y s) {b : Provenance} (r : Rel (view s) b) where
  -- ---- a withdrawn life in a set shows in the map

  -- m holds a mark of take u, of a withdrawn life
  record Shows (u : ℕ) (m : DependenceMap) : Type 0 where
    held : held_at m u ≡ true
    withdrawn : WithdrawnMark s u (history_at m u)

  -- the newest life of a set that has a withdrawn one: neither is stale by the other, so it is withdrawn too
  shows : (u : ℕ) (m : DependenceMap) (X : Incarnations) (a : Incarnation) → SetRel (present b.holders) (map_view m) X
      → ((c : Incarnation) → In u c X → Superseded a c → ⊥) → In u a X → SupersededOrAnnihilated b u a → Shows u m
  shows u m X a rel free i wd = record {
    held = seen.0;
    withdrawn = record {
      not-present = λ l e. above l (is ∙ e ∙ life-is w r u) below;
      not-checkpointed = λ l e. checkpointed l (under-checkpointed below (subst (λ (x : Incarnation). Checkpointed x (b.holders u).history.incarnation) (sym is) (subst (Checkpointed (incarnation_of (history_at m u))) (life-is w r u) e)));
    };
  }
    where
      top : (k : HistoryView) × (map_view m u ≡ some k) × Newest (λ (c : Incarnation). In u c X) (present b.holders u) k
      top = cell-some a i (rel u)

      seen : (held_at m u ≡ true) × (top.0 ≡ view_of (history_at m u))
      seen = view-some m u top.0 top.1

      is : top.0.incarnation ≡ incarnation_of (history_at m u)
      is = ap (λ (x : HistoryView). x.incarnation) seen.1

      below : Under a top.0.incarnation
      below = ⊎_elim (λ q. q) (λ q. absurd (free top.0.incarnation top.2.has q)) (precedes-split (top.2.top a i))

      checkpointed : live (transactor_at s u) ≡ true → Checkpointed a (b.holders u).history.incarnation → ⊥
      checkpointed l c = checkpointed-stands b (record { live = live_to w r u l; is = c }) wd

      above : live (transactor_at s u) ≡ true → top.0.incarnation ≡ (b.holders u).history.incarnation → Under a top.0.incarnation → ⊥
      above l e q = ⊎_elim
          (λ (c : a ≡ (b.holders u).history.incarnation). present-stands b (record { live = live_to w r u l; is = c }) wd)
          (λ c. checkpointed l c) (under_split (subst (Under a) e q))

  -- a take that rests on a withdrawn life has a mark of one
  record Mark (x u : ℕ) : Type 0 where
    history : History
    stands : StandsIn s x u history
    withdrawn : WithdrawnMark s u history

  mark : {x u : ℕ} {a : Incarnation} → RestsOn b x u a → SupersededOrAnnihilated b u a → Mark x u
  unfolding view
  mark {x} {u} {a} rests wd = go (⊎_elim (λ g. g) (λ c. absurd (checkpointed-stands b c wd)) (rests-ground (view s) b r rests))
    where
      go : Ground (b.holders x) u a → Mark x u
      go (in-state i) =
          let k = shows u (transactor_at s x).state (b.holders x).state a (r.holders x).state (λ c j. (r.holders x).coherent u a c (relation.in-state i) (relation.in-state j)) i wd in
          record { history = _; stands = obstacle.in-state k.held refl; withdrawn = k.withdrawn }
      go (in-creation i) =
          let k = shows u (transactor_at s x).creation (b.holders x).creation a (r.holders x).creation (λ c j. (r.holders x).coherent u a c (relation.in-creation i) (relation.in-creation j)) i wd in
          record { history = _; stands = obstacle.in-creation k.held refl; withdrawn = k.withdrawn }

  -- a mark is of a take of the layout
  mark-low : {x u : ℕ} {a : Incarnation} → RestsOn b x u a → SupersededOrAnnihilated b u a → u < y.transactors
  unfolding view
  mark-low {x} {u} {a} rests wd = go (⊎_elim (λ g. g) (λ c. absurd (checkpointed-stands b c wd)) (rests-ground (view s) b r rests))
    where
      low : u < s.opened → u < y.transactors
      low h = omega (arith, w.opened, w.limits.transactors-high)

      go : Ground (b.holders x) u a → u < y.transactors
      go (in-state i) = let k = cell-some a i ((r.holders x).state u) in low (held-opened w r x u k.0 (inl k.1))
      go (in-creation i) = let k = cell-some a i ((r.holders x).creation u) in low (held-opened w r x u k.0 (inr k.1))

  rests-low : {x u : ℕ} {a : Incarnation} → RestsOn b x u a → SupersededOrAnnihilated b u a → x < y.transactors
  rests-low {x} rests wd = go (⊎_elim (λ g. g) (λ c. absurd (checkpointed-stands b c wd)) (rests-ground (view s) b r rests))
    where
      go : {u : ℕ} {a : Incarnation} → Ground (b.holders x) u a → x < y.transactors
      go g = live_below w r x (ground-live (view s) b r g)

  -- ---- a spoilt take: one of those that it rests on has such a mark

  record LostIn (t : ℕ) : Type 0 where
    at : ℕ
    support : ℕ
    below : at < y.transactors
    ground-below : support < y.transactors
    through : through_at s y.transactors at t ≡ true
    lost : withdrawn_by s at support ≡ true

  directly : {x u : ℕ} {a : Incarnation} → RestsOn b x u a → SupersededOrAnnihilated b u a → LostIn x
  directly {x} {u} rests wd =
      let m = mark rests wd in
      record { at = x; support = u; below = rests-low rests wd; ground-below = mark-low rests wd; through = through-self s y.transactors x; lost = stands-lost s m.stands m.withdrawn }

  lost-in : {t : ℕ} → Spoilt b t → LostIn t
  lost-in (on-withdrawn rests wd) = directly rests wd
  lost-in {t} (on-spoilt {u = u} q rests) = go (live-or-not (b.holders u).status) (lost-in q)
    where
      go : Live (b.holders u).status ⊎ (Live (b.holders u).status → ⊥) → LostIn u → LostIn t
      go (inl l) k = record {
        at = k.at;
        support = k.support;
        below = k.below;
        ground-below = k.ground-below;
        through = through-trans s y.transactors k.at u t (live_below w r u l) k.through (through-rests s y.transactors u t ((rests-exactly w r u l t).1 rests));
        lost = k.lost;
      }
      go (inr l) k = directly rests (neither (λ m. l m.live) (λ m. l m.live))

  -- and the other way round
  spread : {u x : ℕ} → Spoilt b u → RestsThrough b u x → Spoilt b x
  spread q itself = q
  spread q (via o e) = on-spoilt (spread q o) e

  -- ---- chains

  chain-below : {c x : ℕ} → live (transactor_at s c) ≡ true → Follows y s c x → x < y.transactors
  chain-below {c} l arrived = live-low w c l
  chain-below {c} l (link {t} q f) = rests-below w (next_at s y.transactors c t) t q

  along : {c x : ℕ} → live (transactor_at s c) ≡ true → Follows y s c x → through_at s y.transactors c x ≡ true
  along {c} l arrived = through-self s y.transactors c
  along {c} l (link {t} q f) = through-trans s y.transactors c (next_at s y.transactors c t) t (chain-below l f) (along l f) (through-rests s y.transactors (next_at s y.transactors c t) t q)

  onto : {t c x : ℕ} → Leads y s t c x → Onto b t c x
  onto {t} {c} {x} k = record {
    through = through-to w r y.transactors c t (live_to w r c k.live) (along k.live k.follows);
    next = λ n. let e = along k.live k.follows in
        let q = next-rests s y.transactors c t e n in
        let q0 = subst (λ (v : ℕ). rests_at s v t ≡ true) (sym k.next) q.0 in
        let q1 = subst (λ (v : ℕ). through_at s y.transactors c v ≡ true) (sym k.next) q.1 in
        let o = through-to w r y.transactors c x (live_to w r c k.live) q1 in
        ((rests-exactly w r x (through-live w r (live_to w r c k.live) o) t).0 q0, o);
  }

  -- ---- what the book has of a take

  stable-is : (c : ℕ) → (own_history c (transactor_at s c)).stable ≡ false → (b.holders c).history.stable ≡ false
  unfolding view
  stable-is c e = sym (ap (λ (m : HistoryView). m.stable) (own-history (r.holders c))) ∙ ap (λ (m : HistoryView). m.stable) (own_view w c) ∙ e

  counted : (c : ℕ) → s.limits.checkpoints ≤ (own_history c (transactor_at s c)).count → b.limits.checkpoints ≤ length (b.holders c).history.incarnation.checkpoints
  unfolding view
  counted c h =
      let e : (own_history c (transactor_at s c)).count ≡ length (b.holders c).history.incarnation.checkpoints = seen-checkpoints w c ∙ ap (λ (a : Incarnation). length a.checkpoints) (life-is w r c) in
      let f : s.limits.checkpoints ≡ b.limits.checkpoints = ap (λ (m : Limits). m.checkpoints) r.limits in
      omega arith

-- ---- every session, at every point

module _ {y : Layout} (z : Fitting y) {img : List ℕ} {τ : Trace y img} {s : State} {b : Provenance} (k : Point y img τ s b) where
  -- Hopeless is answered exactly about spoilt takes.
  pub hopeless-spoilt : {t c u x : ℕ} → impediment_of y s t ≡ Some (Hopeless c u x) → Spoilt b t
  hopeless-spoilt {t} {c} {u} e =
      let h = hopeless-at y s e in
      let l = live_to (well z k) (related z k) c (stands_live (well z k) h.below h.stands) in
      spread (well z k) (related z k) (on-withdrawn (stands-rests (well z k) (related z k) h.stands) (withdrawn-mark (well z k) (related z k) h.withdrawn))
      (through-to (well z k) (related z k) y.transactors c t l h.through)

  pub spoilt-hopeless : {t : ℕ} → Spoilt b t → (c : ℕ) × (u : ℕ) × (x : ℕ) × (impediment_of y s t ≡ Some (Hopeless c u x))
  spoilt-hopeless {t} q =
      let l = lost-in (well z k) (related z k) q in
      (_, _, _, hopeless-some y s t l.at l.support l.below l.ground-below l.through l.lost)

  -- And then no volume with the take is ready, after whatever steps, as long as it keeps its life.
  pub hopeless-doomed : {t c u x : ℕ} → impediment_of y s t ≡ Some (Hopeless c u x) → Doomed y s t
  hopeless-doomed e = spoilt-doomed z (well z k) (related z k) (hopeless-spoilt e)

  -- What the answer about a live take means.
  pub impediment-means : (t : ℕ) → Live (b.holders t).status → ImpedimentMeans y s b t (impediment_of y s t)
  impediment-means t there =
      let alive = live_of (well z k) (related z k) t there in
      go (impedes z.transactors (well z k) t (live-low (well z k) t alive) alive)
    where
      go : {o : Option Impediment} → Impedes y s t o → ImpedimentMeans y s b t o
      go (is-nothing c) = means-nothing c.contains (record { bits = c.bits; signs = c.signs })
      go (is-hopeless l h stands m) = means-hopeless (onto (well z k) (related z k) l) (stands-rests (well z k) (related z k) stands) (withdrawn-mark (well z k) (related z k) m)
      go (is-exhausted {c} l h) = means-exhausted (onto (well z k) (related z k) l) (counted (well z k) (related z k) c h)
      go (is-unstable {c} l e) = means-unstable (onto (well z k) (related z k) l) (stable-is (well z k) (related z k) c e)

  -- A take that is not spoilt, with all that it rests on frozen and with a signing left, has a volume that is ready.
  pub unspoilt-ready : (t : ℕ) → Live (b.holders t).status → (Spoilt b t → ⊥) → ((u : ℕ) → RestsThrough b u t → (b.holders u).history.stable ≡ true)
      → ((u : ℕ) → RestsThrough b u t → length (b.holders u).history.incarnation.checkpoints < b.limits.checkpoints) → (v : ℕ) × (named v t ≡ true) × ReadyGroup y s v
  unspoilt-ready t there fine stable room = go (impediment_of y s t) refl (impediment-means t there)
    where
      go : (o : Option Impediment) → impediment_of y s t ≡ o → ImpedimentMeans y s b t o → (v : ℕ) × (named v t ≡ true) × ReadyGroup y s v
      go o e (means-nothing {v} n q) = (v, n, q)
      go o e (means-hopeless l rests wd) = absurd (fine (hopeless-spoilt e))
      go o e (means-exhausted {c} l h) = let q = room c l.through in absurd (omega arith)
      go o e (means-unstable {c} l h) = absurd (false≢true (sym h ∙ stable c l.through))

-- Between two calls, and not refused: what the call answers.
pub impediment-answered : {y : Layout} (z : Fitting y) {img : List ℕ} (τ : Trace y img) {b : Provenance} (f : ProvenanceOf y (calls_of τ) b) (t : ℕ) → query_refusal y img t ≡ 0
    → ImpedimentMeans y (unpack y img) b t (impediment_answer y img t)
unfolding impediment_answer
impediment-answered {y} z {img} τ f t e = rw (eq-eqb (query_refusal y img t) 0 e) (impediment-means z (at-end {τ = τ} f) t (query-live z τ f t e))

-- At the ledger's own layout: no hypothesis but the trace.
module _ {img : List ℕ} {τ : Trace base img} {s : State} {b : Provenance} (k : Point base img τ s b) where
  pub hopeless-exactly-base : (t : ℕ) → Spoilt b t ↔ ((c : ℕ) × (u : ℕ) × (x : ℕ) × (impediment_of base s t ≡ Some (Hopeless c u x)))
  hopeless-exactly-base t = (λ q. spoilt-hopeless fitting-base k q, λ e. hopeless-spoilt fitting-base k e.3)

  pub hopeless-doomed-base : {t c u x : ℕ} → impediment_of base s t ≡ Some (Hopeless c u x) → Doomed base s t
  hopeless-doomed-base e = hopeless-doomed fitting-base k e

  pub impediment-means-base : (t : ℕ) → Live (b.holders t).status → ImpedimentMeans base s b t (impediment_of base s t)
  impediment-means-base = impediment-means fitting-base k

  pub unspoilt-ready-base : (t : ℕ) → Live (b.holders t).status → (Spoilt b t → ⊥) → ((u : ℕ) → RestsThrough b u t → (b.holders u).history.stable ≡ true)
      → ((u : ℕ) → RestsThrough b u t → length (b.holders u).history.incarnation.checkpoints < b.limits.checkpoints) → (v : ℕ) × (named v t ≡ true) × ReadyGroup base s v
  unspoilt-ready-base = unspoilt-ready fitting-base k
