-- Which takes can still be signed in the lives that they have. New beside hopeless: whoever rests on a take that has all its signings is doomed as well.
use Prim.Native.Nat.{ℕ, zero, suc, ◌+◌, ◌≤◌, ◌<◌}
use mathlib.Core.Bool.{Bool, true, false, false≢true}
use mathlib.Core.Path.{◌≡◌, refl, ap, sym, ◌∙◌, subst}
use mathlib.Core.List.{List}
use mathlib.Core.Logic.{◌⊎◌, inl, inr, ⊎_elim}
use native.Mathlib.Omega.{arith}
use lib.ListN.{length}
use lib.Dec.{eqb, ltb, leb}
use borrow.Author.Tests.{eq-eqb, leb-false, le-leb, lt-ltb}
use Rattle.std.specs.Prelude.{Option}
use Rattle.octets.specs.Bytes.{Octets}
use Rattle.octets.specs.Numbers.{bound}
use Rattle.octets.proofs.Chunks.{sides}
use Rattle.octets.proofs.Tests.{or-of, and-of}
use Rattle.marks.specs.Incarnation.{Incarnation}
use Rattle.rules.specs.declared.Impediment.{Impediment}
use Rattle.rules.specs.Layout.{Layout, Limits, last_number, Fitting, base}
use Rattle.rules.specs.State.{State, transactor_at, own_history, live}
use Rattle.rules.specs.Step.{step_at, done}
use Rattle.rules.specs.Refusals.{group_bits}
use Rattle.rules.specs.Rules.{step_of}
use Rattle.rules.specs.Pack.{unpack}
use Rattle.rules.specs.Calls.{state_after}
use Rattle.rules.specs.Groups.{signing}
use Rattle.rules.specs.ReadyGroups.{ready_group}
use Rattle.rules.specs.Impediment.{impediment_of}
use Rattle.rules.specs.Plan.{mendable, letters, letters_fit, resting_volume, plan_of, plan_refusal, plan_answer}
use Rattle.rules.specs.Internal.Well.{WellFormed}
use Rattle.rules.proofs.Keep.Step.{fitting-base}
use Rattle.rules.proofs.Bits.{named_past}
use Rattle.rules.proofs.Groups.Signable.{ready-exactly}
use Rattle.rules.proofs.Groups.Impediments.{live-low, none-in-way, mendable-low, exhausted-is}
use Rattle.rules.proofs.Groups.Planned.{limits-same}
use Rattle.rules.proofs.Groups.Plans.{readied, plan-attains}
use Rattle.rules.proofs.Calls.Planning.{plan-query, answer-is, plan-runs}
use Rattle.rules.proofs.Pack.Sizes.{octets-pack}
use Rattle.session.specs.Provenance.{Live, Provenance}
use Rattle.session.specs.Fed.{ProvenanceOf}
use Rattle.session.specs.Trace.{Trace, calls_of}
use Rattle.session.specs.Point.{Point, at-end}
use Rattle.session.specs.Withdrawal.{Further, here, step, RestsThrough, itself, via, Spoilt, on-withdrawn, on-spoilt, Doomed}
use Rattle.session.specs.Meanings.{ImpedimentMeans, means-nothing, means-hopeless, means-exhausted, means-unstable}
use Rattle.session.specs.Grounds.{neither}
use Rattle.session.specs.Attainable.{Attainable, ExhaustedBelow, LettersFit, none_needed, room, AttainableExactly, PlanMeans}
use Rattle.session.proofs.Model.{view}
use Rattle.session.proofs.Relation.{live-or-not, Rel}
use Rattle.session.proofs.ViewSeen.{seen-checkpoints}
use Rattle.session.proofs.Resting.{live_below, through-of}
use Rattle.session.proofs.Reached.{related, well}
use Rattle.session.proofs.Obstacles.{life-is, live_of}
use Rattle.session.proofs.Withdrawal.{reach, withdrawn-unready, unready-doomed, doomed-through, query-live}
use Rattle.session.proofs.Points.{held}
use Rattle.session.proofs.Impediments.{hopeless-spoilt, spoilt-hopeless, hopeless-doomed, impediment-means}

-- ---- the steps after a point

limits-kept : (y : Layout) (s : State) {after : State} → Further y s after → after.limits ≡ s.limits
limits-kept y s here = refl
limits-kept y s (step {now} o steps octets i) = limits-same y now (step_at steps i) ∙ limits-kept y s o

further-after : (y : Layout) (s : State) (b : List ℕ) → Octets b → (i : ℕ) → Further y s (state_after y s b i)
unfolding state_after
further-after y s b o zero = here
further-after y s b o (suc i) = step (further-after y s b o i) b o i

-- ---- room for the letters

fits-test : (y : Layout) (s : State) (g : ℕ) → LettersFit y s g → letters_fit y s g ≡ true
unfolding letters_fit
fits-test y s g (none_needed e) = rw (eq-eqb (letters y s g) 0 e)
fits-test y s g (room h k) = or-of (eqb (letters y s g) 0) _ (inr (and-of (ltb (length s.messages) s.limits.messages) (leb (s.next + letters y s g) last_number) (lt-ltb (length s.messages) s.limits.messages h) (le-leb (s.next + letters y s g) last_number k)))

-- ---- a take that has all its signings

limits-are : (s : State) (b : Provenance) → Rel (view s) b → s.limits.checkpoints ≡ b.limits.checkpoints
unfolding view
limits-are s b r = ap (λ (m : Limits). m.checkpoints) r.limits

module _ {y : Layout} (z : Fitting y) {s : State} (w : WellFormed y s) {b : Provenance} (r : Rel (view s) b) (c : ℕ)
    (full : b.limits.checkpoints ≤ length (b.holders c).history.incarnation.checkpoints) where
  -- is in no ready volume, as long as it keeps its life: its count stays, and so does the limit
  full-doomed : Doomed y s c
  unfolding ready_group bound
  full-doomed after o same v n k =
      let q = reach z w r o in
      let rule = (ready-exactly y after v).0 (eq-eqb (step_of y after (signing v)).reply.outcome done k.signs) in
      let low : c < group_bits = ⊎_elim (λ h. h) (λ (h : group_bits ≤ c). absurd (false≢true (sym (named_past v c group_bits k.bits h) ∙ n))) (sides c group_bits) in
      let spare : (own_history c (transactor_at after c)).count < after.limits.checkpoints = rule.room c low n in
      let e : (own_history c (transactor_at after c)).count ≡ length (b.holders c).history.incarnation.checkpoints =
      seen-checkpoints q.well c ∙ ap (λ (a : Incarnation). length a.checkpoints) (same.is ∙ life-is w r c) in
      let f : after.limits.checkpoints ≡ s.limits.checkpoints = ap (λ (m : Limits). m.checkpoints) (limits-kept y s o) in
      omega (arith, limits-are s b r)

  -- nor is whoever rests on its present life, directly or through others
  exhausted-doomed : {x : ℕ} → RestsThrough b c x → Doomed y s x
  exhausted-doomed itself = full-doomed
  exhausted-doomed {x} (via {u} o e) = go (live-or-not (b.holders u).status) (exhausted-doomed o)
    where
      go : Live (b.holders u).status ⊎ (Live (b.holders u).status → ⊥) → Doomed y s u → Doomed y s x
      go (inl l) d = doomed-through z w r l d e
      go (inr l) d = unready-doomed z w r (withdrawn-unready z w r e (neither (λ m. l m.live) (λ m. l m.live)))

-- whoever rests on a take that is gone is spoilt
dead-spoils : {b : Provenance} {c x : ℕ} → (Live (b.holders c).status → ⊥) → RestsThrough b c x → (x ≡ c) ⊎ Spoilt b x
dead-spoils d itself = inl refl
dead-spoils {b} {c} {x} d (via {u} o e) = go (dead-spoils d o)
  where
    go : (u ≡ c) ⊎ Spoilt b u → (x ≡ c) ⊎ Spoilt b x
    go (inl i) =
        let f : Live (b.holders u).status → ⊥ = λ l. d (subst (λ (v : ℕ). Live (b.holders v).status) i l) in
        inr (on-withdrawn e (neither (λ m. f m.live) (λ m. f m.live)))
    go (inr q) = inr (on-spoilt q e)

-- ---- every session, at every point

module _ {y : Layout} (z : Fitting y) {img : List ℕ} {τ : Trace y img} {s : State} {b : Provenance} (k : Point y img τ s b) where
  -- Exhausted: no volume with the take is ready, after whatever steps, as long as it keeps its life.
  pub below-doomed : {t : ℕ} → ExhaustedBelow b t → Doomed y s t
  below-doomed e = exhausted-doomed z (well z k) (related z k) e.transactor e.full e.through

  module _ (t : ℕ) (there : Live (b.holders t).status) where
    alive : live (transactor_at s t) ≡ true
    alive = live_of (well z k) (related z k) t there

    low : t < y.transactors
    low = live-low (well z k) t alive

    mends-unspoilt : mendable (impediment_of y s t) ≡ true → Spoilt b t → ⊥
    mends-unspoilt e q =
        let h = spoilt-hopeless z k q in
        false≢true (subst (λ (o : Option Impediment). mendable o ≡ true) h.3 e)

    mends-room : mendable (impediment_of y s t) ≡ true → ExhaustedBelow b t → ⊥
    mends-room e f = go (live-or-not (b.holders f.transactor).status)
      where
        go : Live (b.holders f.transactor).status ⊎ (Live (b.holders f.transactor).status → ⊥) → ⊥
        go (inl l) =
            let h = live_below (well z k) (related z k) f.transactor l in
            let i = none-in-way y s 2 t (mendable-low y s t e).1 f.transactor h (through-of (well z k) (related z k) l f.through) in
            let n = leb-false s.limits.checkpoints (own_history f.transactor (transactor_at s f.transactor)).count (sym (exhausted-is y s f.transactor) ∙ i) in
            let m : (own_history f.transactor (transactor_at s f.transactor)).count ≡ length (b.holders f.transactor).history.incarnation.checkpoints =
            seen-checkpoints (well z k) f.transactor ∙ ap (λ (a : Incarnation). length a.checkpoints) (life-is (well z k) (related z k) f.transactor) in
            omega (arith, f.full, limits-are s b (related z k))
        go (inr l) = ⊎_elim (λ (i : t ≡ f.transactor). l (subst (λ (v : ℕ). Live (b.holders v).status) i there)) (mends-unspoilt e) (dead-spoils l f.through)

    both-mend : (Spoilt b t → ⊥) → (ExhaustedBelow b t → ⊥) → mendable (impediment_of y s t) ≡ true
    both-mend fine spare = go (impediment_of y s t) refl (impediment-means z k t there)
      where
        go : (o : Option Impediment) → impediment_of y s t ≡ o → ImpedimentMeans y s b t o → mendable o ≡ true
        go o e (means-nothing n q) = refl
        go o e (means-hopeless l rests wd) = absurd (fine (hopeless-spoilt z k e))
        go o e (means-exhausted {c} l h) = absurd (spare (record { transactor = c; through = l.through; full = h }))
        go o e (means-unstable l h) = refl

    lasting-doomed : mendable (impediment_of y s t) ≡ false → Doomed y s t
    lasting-doomed e = go (impediment_of y s t) refl (impediment-means z k t there) e
      where
        go : (o : Option Impediment) → impediment_of y s t ≡ o → ImpedimentMeans y s b t o → mendable o ≡ false → Doomed y s t
        go o e (means-nothing n q) f = absurd (false≢true (sym f))
        go o e (means-hopeless l rests wd) f = hopeless-doomed z k e
        go o e (means-exhausted {c} l h) f = below-doomed (record { transactor = c; through = l.through; full = h })
        go o e (means-unstable l h) f = absurd (false≢true (sym f))

    planned : mendable (impediment_of y s t) ≡ true → LettersFit y s (resting_volume y s t) → Attainable y s t
    planned e f =
        let q = readied z (well z k) t low alive e (fits-test y s (resting_volume y s t) f) in
        record {
          after = state_after y s q.list q.count;
          further = further-after y s q.list q.octets q.count;
          same = record { live = q.live; is = q.same };
          group = resting_volume y s t;
          names = q.could.contains;
          ready = record { bits = q.could.bits; signs = q.could.signs };
        }

    only-mendable : Attainable y s t → mendable (impediment_of y s t) ≡ true
    only-mendable a = go (mendable (impediment_of y s t)) refl
      where
        go : (c : Bool) → mendable (impediment_of y s t) ≡ c → c ≡ true
        go true e = refl
        go false e = absurd (lasting-doomed e a.after a.further a.same a.group a.names a.ready)

    -- A live take can be signed in its present life after some further steps exactly if `impediment` says neither hopeless nor exhausted, given room for
    -- the letters that are needed.
    pub attainable-exactly : AttainableExactly y s b t
    attainable-exactly = record {
      answered = (λ e. (mends-unspoilt e, mends-room e), λ q. both-mend q.0 q.1);
      attained = planned;
      needed = only-mendable;
      doomed = lasting-doomed;
    }

-- At the ledger's own layout: no hypothesis but the trace.
pub attainable-exactly-base : {img : List ℕ} {τ : Trace base img} {s : State} {b : Provenance} → Point base img τ s b → (t : ℕ) → Live (b.holders t).status → AttainableExactly base s b t
attainable-exactly-base k t there = attainable-exactly fitting-base k t there

-- ---- what the call answers

module _ {y : Layout} (z : Fitting y) {img : List ℕ} (τ : Trace y img) {b : Provenance} (f : ProvenanceOf y (calls_of τ) b) (t : ℕ) (out : List ℕ) (r : plan_refusal y img t out ≡ 0) where
  asked : Live (b.holders t).status
  asked = query-live z τ f t (plan-query y img t out r).0

  image-octets : Octets img
  image-octets = subst Octets (held z τ f).back (octets-pack y (unpack y img))

  no_steps : plan_answer y img t out ≡ 0 → mendable (impediment_of y (unpack y img) t) ≡ true → letters_fit y (unpack y img) (resting_volume y (unpack y img) t) ≡ true → ⊥
  no_steps e m l =
      let k = at-end {τ = τ} f in
      let a = live_of (well z k) (related z k) t asked in
      let p = plan-attains z (well z k) t (live-low (well z k) t a) a m l in
      omega (arith, p.some, answer-is y img t out r)

  no-plan : mendable (impediment_of y (unpack y img) t) ≡ false → plan_answer y img t out ≡ 0
  unfolding plan_of
  no-plan e = answer-is y img t out r ∙ rw e

  -- Between two calls, and not refused: some steps, which sign the take; or none, and `impediment` tells whether it
  -- is doomed, or whether there is no room for the letters.
  pub plan-answered : PlanMeans y img t out
  plan-answered = record {
    steps = λ some lent long. plan-runs z img t out lent image-octets r some long;
    lasting = λ e. (no-plan e, (attainable-exactly z (at-end {τ = τ} f) t asked).doomed e);
    unfit = λ m e l. no_steps e m (fits-test y (unpack y img) (resting_volume y (unpack y img) t) l);
  }

pub plan-answered-base : {img : List ℕ} (τ : Trace base img) {b : Provenance} → ProvenanceOf base (calls_of τ) b → (t : ℕ) (out : List ℕ) → plan_refusal base img t out ≡ 0 → PlanMeans base img t out
plan-answered-base τ f t out r = plan-answered fitting-base τ f t out r
