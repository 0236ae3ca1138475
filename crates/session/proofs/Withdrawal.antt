-- What a withdrawal spoils, and what it does not: of every session, at every s.
use Prim.Native.Nat.{ℕ, zero, suc, ◌-◌, ◌≤◌, ◌<◌}
use mathlib.Core.Bool.{Bool, true, false, not, false≢true}
use mathlib.Core.Path.{◌≡◌, refl, ap, sym, ◌∙◌, subst}
use mathlib.Core.List.{List, [], ◌∷◌, ◌++◌}
use mathlib.Core.Logic.{◌⊎◌, inl, inr, ⊎_elim, ◌↔◌, ◌≢◌}
use mathlib.Core.Option.{Option, some, none}
use native.Mathlib.Decide.{ℕ_discrete}
use native.Mathlib.Omega.{arith}
use lib.Dec.{eqb, leb}
use borrow.Author.Tests.{eqb-false, leb-false, leb-true, le-leb}
use Rattle.octets.specs.Bytes.{part, Octets}
use Rattle.octets.proofs.Chunks.{sides}
use Rattle.octets.proofs.Put.{octets-part}
use Rattle.octets.proofs.Tests.{pick-zero}
use Rattle.octets.proofs.Tests as tests
use Rattle.marks.specs.Incarnation.{Incarnation, Checkpointed, begins, next_incarnation, same_incarnation}
use Rattle.marks.specs.History.{HistoryView, checkpointed_view, incarnation_of}
use Rattle.marks.specs.Order.{Precedes}
use Rattle.marks.proofs.Order.{superseded-ne, superseded-not-checkpointed, precedes-split, under_split, checkpointed-longer, checkpointed-irrefl, checkpointed-up, checkpointed-checkpoint, precedes-next}
use Rattle.marks.proofs.Tests.{dec_test, dec_checkpointed, same_test}
use Rattle.maps.specs.declared.DependenceMap.{DependenceMap}
use Rattle.maps.specs.View.{map_view}
use Rattle.maps.proofs.View.{view-some, view-empty}
use Rattle.rules.specs.Layout.{Layout, Fitting}
use Rattle.rules.specs.State.{Transactor, State, no_transactor, transactor_at, own_history, live}
use Rattle.rules.specs.Status as number
use Rattle.rules.specs.Form.{well_formed}
use Rattle.rules.specs.declared.Step.{Step}
use Rattle.rules.specs.Step.{step_at, sign}
use Rattle.rules.specs.Refusals.{named}
use Rattle.rules.specs.Rules.{step_of}
use Rattle.rules.specs.Pack.{pack, unpack}
use Rattle.rules.specs.Groups.{Checkpointable, Smallest}
use Rattle.rules.specs.Groups as groups
use Rattle.rules.specs.Calls.{wrong_length, state_after, steps_in, run_answer, ran_image, run_image, query_refusal}
use Rattle.rules.specs.Dependents.{dependents_of}
use Rattle.rules.specs.Internal.Well.{StepOk, Known, TransactorFormed, not_opened, gone, alive, WellFormed}
use Rattle.rules.proofs.Pack.RoundTrip.{unpack-pack}
use Rattle.rules.proofs.Groups.Planned.{signing_of}
use Rattle.rules.proofs.Keep.Run.{step_ok-at}
use Rattle.rules.proofs.Keep.Step.{keeps, keeps-after}
use Rattle.session.specs.Provenance.{Status, unused, idle, busy, annihilated, status_number, Live, is-idle, is-busy, Holder, Provenance}
use Rattle.session.specs.Grounds.{from_start, from-noted, from_list, Ground, in-state, in-creation, RestsOn, Present, CheckpointedNow, SupersededOrAnnihilated, neither, StablePresent, Equal}
use Rattle.session.specs.Grounds as grounds
use Rattle.session.specs.Steps.{is_nil, anew, rolled_back_holder, provenance_refusal, ProvenanceStep, refuses, applies, signing, not-ready}
use Rattle.session.specs.Fed.{provenance_query_refusal, ProvenanceOf}
use Rattle.session.specs.Trace.{Trace, calls_of, none, one_more, extended}
use Rattle.session.specs.Point.{Point, at-end}
use Rattle.session.specs.Waiting.{ReadyGroup}
use Rattle.session.specs.Withdrawal.{Withdraws, Further, here, step, SameIncarnation, RestsThrough, itself, via, Spoilt, on-withdrawn, on-spoilt, Doomed, SmallestIn, Continued}
use Rattle.session.proofs.Model.{Ledger, view}
use Rattle.session.proofs.Tables.{pick-view}
use Rattle.session.proofs.Sets.{cell-some}
use Rattle.session.proofs.Relation.{live-or-not, live-used, present, present-live, Whole, Rel, whole-known, own-history}
use Rattle.session.proofs.Relation as relation
use Rattle.session.proofs.Sign.{Ready, equal-ready, checkpointed-stands, present-stands, own-has, ready-live, Settled, settled, settled-equal, equal-settled}
use Rattle.session.proofs.Accepted.{provenance-accepted, named_live}
use Rattle.session.proofs.Kept.{provenance-determined}
use Rattle.session.proofs.Locals.{is_nil-true}
use Rattle.session.proofs.ViewState.{no-transactor, own_view, view-no-map}
use Rattle.session.proofs.ViewRules.{live_test}
use Rattle.session.proofs.ViewStep.{state-kept}
use Rattle.session.proofs.Step.{matches-rel}
use Rattle.session.proofs.Grown.{grown}
use Rattle.session.proofs.Calls.{holds-pack, query-same}
use Rattle.session.proofs.Onward.{Stays, stays-refl, limits-stay}
use Rattle.session.proofs.Carried.{signing-on}
use Rattle.session.proofs.Waiting.{signs-exactly, ready_on, ready-rule, call-keeps}
use Rattle.session.proofs.Resting.{ground-live, rests-ground, rests-present, resting-exactly, rests-trans, through-exactly}
use Rattle.session.proofs.Turns.{Keeps, Turns, kept-all, Past, passed, vanished, past-on, past_all, Turn, turn, SignedBy, turn-signs, Fate, kept, lost, fate-on}
use Rattle.session.proofs.Turns as turns
use Rattle.session.proofs.Falling.{rolled, rolled-past, present-not-past, Alone, checkpointed-others, alone}
use Rattle.session.proofs.Reached.{related, well}

-- ---- withdrawn, by the book

pub past-withdrawn : (b : Provenance) {t : ℕ} {a : Incarnation} → Past (b.holders t) a → SupersededOrAnnihilated b t a
past-withdrawn b (passed l s) = neither (λ p. superseded-ne s p.is) (λ c. superseded-not-checkpointed s c.is)
past-withdrawn b (vanished e) = grounds.gone e

-- a signing of a volume with a take that rests on a withdrawn life is not ready
pub spoilt : (l : Ledger) (b : Provenance) → Rel l b → {u t : ℕ} {a : Incarnation} → RestsOn b u t a → SupersededOrAnnihilated b t a
    → (v : ℕ) → named v u ≡ true → Ready l (named v) → ⊥
spoilt l b r {u} {t} {a} rests w v n ok = go (settled l b r v ok u n t a rests)
  where
    go : CheckpointedNow b t a ⊎ StablePresent b v t a → ⊥
    go (inl s) = checkpointed-stands b s w
    go (inr s) = present-stands b s.present w

-- ---- a ground is of a take that was opened

not-used : (s : Status) → (Live s → ⊥) → (s ≡ unused → ⊥) → s ≡ annihilated
not-used unused n m = absurd (m refl)
not-used idle n m = absurd (n is-idle)
not-used busy n m = absurd (n is-busy)
not-used annihilated n m = refl

module _ {y : Layout} {s : State} (w : WellFormed y s) {b : Provenance} (r : Rel (view s) b) where
  -- a mark in the map of a live take
  pub held-opened : (u t : ℕ) (m : HistoryView) → (map_view (transactor_at s u).state t ≡ some m) ⊎ (map_view (transactor_at s u).creation t ≡ some m) → t < s.opened
  held-opened u t m e = ⊎_elim (λ (h : u < y.transactors). go (w.transactors u h) e) (λ h. absurd (past (no-transactor w u h))) (sides u y.transactors)
    where
      nothing : {m : HistoryView} → none ≡ some m → ⊥
      nothing q = let z : ◌≡◌ {A = ℕ} 0 1 = cc in omega arith

      past : transactor_at s u ≡ no_transactor → ⊥
      past q = ⊎_elim (λ f. nothing (sym (view-no-map t) ∙ subst (λ (x : Transactor). map_view x.state t ≡ some m) q f)) (λ f. nothing (sym (view-no-map t) ∙ subst (λ (x : Transactor). map_view x.creation t ≡ some m) q f)) e

      opened : (N : DependenceMap) → Known s.limits.checkpoints s.opened N → map_view N t ≡ some m → t < s.opened
      opened N k f = ⊎_elim (λ h. h) (λ h. absurd (false≢true (sym (k.unheld t h) ∙ (view-some N t m f).0))) (sides t s.opened)

      go : {x : Transactor} → TransactorFormed y s.limits.checkpoints s.opened u x → (map_view x.state t ≡ some m) ⊎ (map_view x.creation t ≡ some m) → t < s.opened
      go (not_opened h) (inl f) = absurd (nothing (sym (view-empty y.places y.transactors t) ∙ f))
      go (not_opened h) (inr f) = absurd (nothing (sym (view-empty y.places y.transactors t) ∙ f))
      go (gone h) (inl f) = absurd (nothing (sym (view-empty y.places y.transactors t) ∙ f))
      go (gone h) (inr f) = absurd (nothing (sym (view-empty y.places y.transactors t) ∙ f))
      go (alive {x} h a) (inl f) = opened x.state a.state f
      go (alive {x} h a) (inr f) = opened x.creation a.creation f

  ground-used : {u t : ℕ} {a : Incarnation} → Ground (b.holders u) t a → (b.holders t).status ≡ unused → ⊥
  unfolding view
  ground-used {u} {t} {a} (in-state i) =
      let k = cell-some a i ((r.holders u).state t) in
      r.used t (subst (λ (n : ℕ). t < n) r.opened (held-opened u t k.0 (inl k.1)))
  ground-used {u} {t} {a} (in-creation i) =
      let k = cell-some a i ((r.holders u).creation t) in
      r.used t (subst (λ (n : ℕ). t < n) r.opened (held-opened u t k.0 (inr k.1)))

  -- a withdrawn life that a take has in state or creation is past
  pub withdrawn-past : {u t : ℕ} {a : Incarnation} → Ground (b.holders u) t a → SupersededOrAnnihilated b t a → Past (b.holders t) a
  withdrawn-past {u} {t} {a} g (grounds.gone e) = vanished e
  withdrawn-past {u} {t} {a} g (neither p n) = go (live-or-not (b.holders t).status)
    where
      whole : Ground (b.holders u) t a → Whole (b.holders u) t a
      whole (in-state i) = relation.in-state i
      whole (in-creation i) = relation.in-creation i

      known : Live (b.holders t).status → Precedes a (b.holders t).history.incarnation
      known k = subst (λ (h : HistoryView). Precedes a h.incarnation) (present-live (b.holders t).status (b.holders t).history k) (whole-known (r.holders u) t a (whole g))

      under : Live (b.holders t).status → (a ≡ (b.holders t).history.incarnation) ⊎ Checkpointed a (b.holders t).history.incarnation → Past (b.holders t) a
      under k (inl e) = absurd (p (record { live = k; is = e }))
      under k (inr c) = absurd (n (record { live = k; is = c }))

      go : Live (b.holders t).status ⊎ (Live (b.holders t).status → ⊥) → Past (b.holders t) a
      go (inl k) = ⊎_elim (λ z. under k (under_split z)) (λ z. passed k z) (precedes-split (known k))
      go (inr k) = vanished (not-used (b.holders t).status k (ground-used g))

-- a life without a list has nothing signed before it
none-checkpointed : {a c : Incarnation} → c.checkpoints ≡ [] → Checkpointed a c → ⊥
none-checkpointed {a} e (begins r q) = go a.checkpoints (sym e ∙ q)
  where
    go : (l : List ℕ) → [] ≡ l ++ a.number ∷ r → ⊥
    go [] q = let z : ◌≡◌ {A = ℕ} 0 1 = cc in omega arith
    go (x ∷ l) q = let z : ◌≡◌ {A = ℕ} 0 1 = cc in omega arith

-- a take that is the same in two books
module _ {b c : Provenance} {u : ℕ} (e : b.holders u ≡ c.holders u) {a : Incarnation} where
  present-as : Present b u a → Present c u a
  present-as q = record { live = subst (λ (h : Holder). Live h.status) e q.live; is = subst (λ (h : Holder). a ≡ h.history.incarnation) e q.is }

  checkpointed-as : CheckpointedNow b u a → CheckpointedNow c u a
  checkpointed-as q = record { live = subst (λ (h : Holder). Live h.status) e q.live; is = subst (λ (h : Holder). Checkpointed a h.history.incarnation) e q.is }

  stable-as : {v : ℕ} → StablePresent b v u a → StablePresent c v u a
  stable-as q = record { named = q.named; present = present-as q.present; stable = subst (λ (h : Holder). h.history.stable ≡ true) e q.stable }

-- ---- a fall, by the book

module _ {b c : Provenance} {t : ℕ} (k : Alone b c t) (u : ℕ) (n : t ≢ u) where
  rests-to : {v : ℕ} {a : Incarnation} → RestsOn c u v a → RestsOn b u v a
  rests-to {v} {a} (from_start g) = from_start (subst (λ (h : Holder). Ground h v a) (k.others u n) g)
  rests-to (from-noted x z) = from-noted (rests-to x) ((k.noted _ _ _ _).0 z)
  rests-to (from_list x e) = from_list (rests-to x) e

  rests-of : {v : ℕ} {a : Incarnation} → RestsOn b u v a → RestsOn c u v a
  rests-of {v} {a} (from_start g) = from_start (subst (λ (h : Holder). Ground h v a) (sym (k.others u n)) g)
  rests-of (from-noted x z) = from-noted (rests-of x) ((k.noted _ _ _ _).1 z)
  rests-of (from_list x e) = from_list (rests-of x) e

-- no take rests on a life of its own that is past
own-not-past : (l : Ledger) (c : Provenance) → Rel l c → {t : ℕ} {a : Incarnation} → Past (c.holders t) a → RestsOn c t t a → ⊥
own-not-past l c r {t} {a} p rests = ⊎_elim (λ g. support p g) (λ s. checkpointed-stands c s (past-withdrawn c p)) (rests-ground l c r rests)
  where
    whole : Ground (c.holders t) t a → Whole (c.holders t) t a
    whole (in-state i) = relation.in-state i
    whole (in-creation i) = relation.in-creation i

    support : Past (c.holders t) a → Ground (c.holders t) t a → ⊥
    support (passed w s) g = (r.holders t).coherent t a (c.holders t).history.incarnation (whole g) (relation.in-state (own-has l c r t w)) s
    support (vanished e) g = turns.dead-live e (ground-live l c r g)

-- ---- any number of steps

pub record Reaches (y : Layout) (b : Provenance) (s : State) : Type 1 where
  pub after : Provenance
  pub well : WellFormed y s
  pub rel : Rel (view s) after
  pub turns : (u : ℕ) → Turns u (b.holders u) (after.holders u)

module _ {y : Layout} (z : Fitting y) {s : State} (w : WellFormed y s) {b : Provenance} (r : Rel (view s) b) where
  pub reach : {after : State} → Further y s after → Reaches y b after
  reach here = record { after = b; well = w; rel = r; turns = λ u. turns.none }
  reach (step {now} o steps octets i) = one (reach o)
    where
      one : Reaches y b now → Reaches y b (step_of y now (step_at steps i)).state
      one q =
          let ok = step_ok-at steps octets i in
          let k = state-kept q.well q.rel (step_at steps i) ok.message in
          record {
            after = k.after;
            well = keeps z q.well ok;
            rel = k.rel;
            turns = λ u. turns.more (q.turns u) (turn (view now) q.after q.rel y (step_at steps i) ok.message k.step u);
          }

  -- ---- a take that rests on a withdrawn life can't be signed any more, as long as it keeps its life

  status-live : (v : State) (c : Provenance) → Rel (view v) c → (u : ℕ) → live (transactor_at v u) ≡ true → Live (c.holders u).status
  unfolding view
  status-live v c q u e = rw (q.holders u).status at ((live_test (transactor_at v u).status).0 e)

  life-is : (v : State) → WellFormed y v → (c : Provenance) → Rel (view v) c → (u : ℕ) → incarnation_of (own_history u (transactor_at v u)) ≡ (c.holders u).history.incarnation
  unfolding view
  life-is v wv c q u = ap (λ (m : HistoryView). m.incarnation) (sym (own_view wv u) ∙ own-history (q.holders u))

  module _ {u t : ℕ} {a : Incarnation} (rests : RestsOn b u t a) (withdrawn : SupersededOrAnnihilated b t a) {after : State} (o : Further y s after) (same : SameIncarnation s after u) where
    support : Ground (b.holders u) t a
    support = ⊎_elim (λ g. g) (λ c. absurd (checkpointed-stands b c withdrawn)) (rests-ground (view s) b r rests)

    far : Reaches y b after
    far = reach o

    keeps-ground : Ground (far.after.holders u) t a
    keeps-ground =
        let e = sym (life-is after far.well far.after far.rel u) ∙ same.is ∙ life-is s w b r u in
        (kept-all (ground-live (view s) b r support) (far.turns u) (status-live after far.after far.rel u same.live) e).grounds t a support

    still-withdrawn : SupersededOrAnnihilated far.after t a
    still-withdrawn = past-withdrawn far.after (past_all (withdrawn-past w r support withdrawn) (far.turns t))

    pub never-ready : (v : ℕ) → named v u ≡ true → ReadyGroup y after v → ⊥
    never-ready v n k = spoilt (view after) far.after far.rel (from_start keeps-ground) still-withdrawn v n (ready-rule z far.well far.rel k)

-- ---- what rests on a take that can't be signed any more

module _ {y : Layout} (z : Fitting y) {s : State} (w : WellFormed y s) {b : Provenance} (r : Rel (view s) b) where
  -- R does not come true of a volume with take u, after whatever steps, as long as u keeps its life
  abbrev pub Barred : (State → ℕ → Type 0) → ℕ → Type 0
  Barred R u = (after : State) → Further y s after → SameIncarnation s after u → (v : ℕ) → named v u ≡ true → R after v → ⊥

  -- the signing rule, whatever the refusals; with ReadyGroup for R it is Doomed
  abbrev pub Unready : ℕ → Type 0
  Unready u = Barred (λ after v. Ready (view after) (named v)) u

  pub unready-doomed : {u : ℕ} → Unready u → Doomed y s u
  unready-doomed d after o same v n k =
      let q = reach z w r o in
      d after o same v n (ready-rule z q.well q.rel k)

  pub withdrawn-unready : {u t : ℕ} {a : Incarnation} → RestsOn b u t a → SupersededOrAnnihilated b t a → Unready u
  withdrawn-unready rests wd after o same v n ok =
      spoilt (view after) (far z w r rests wd o same).after (far z w r rests wd o same).rel (from_start (keeps-ground z w r rests wd o same)) (still-withdrawn z w r rests wd o same) v n ok

  -- where R is true the signing rule is met, and it is true where a step signs
  record Signs (R : State → ℕ → Type 0) : Type 1 where
    rule : {after : State} → Reaches y b after → (v : ℕ) → R after v → Ready (view after) (named v)
    signed : {now : State} (q : Reaches y b now) (p : Step) → StepOk p → provenance_refusal y q.after p ≡ 0 → p.kind ≡ sign → Equal q.after p.message → R now p.message

  rule-signs : Signs (λ after v. Ready (view after) (named v))
  rule-signs = record {
    rule = λ q v k. k;
    signed = λ {now} q p ok e k i. equal-ready (view now) q.after q.rel p.message (named_live (view now) q.after q.rel y p e k ok.message) i;
  }

  group-signs : Signs (ReadyGroup y)
  group-signs = record {
    rule = λ q v k. ready-rule z q.well q.rel k;
    signed = λ {now} q p ok e k i. record {
      bits = ok.message;
      signs = (signs-exactly z q.well q.rel p.message ok.message).1 (record {
        zero = subst (λ (x : Step). provenance_refusal y q.after x ≡ 0) (signing_of p (provenance-accepted (view now) q.after q.rel y p e).formed k) e;
        same = i;
      });
    };
  }

  module _ {R : State → ℕ → Type 0} (signs : Signs R) {u : ℕ} (there : Live (b.holders u).status) (barred : Barred R u) where
    record Fated (after : State) : Type 1 where
      reaches : Reaches y b after
      fate : Fate (b.holders u) (reaches.after.holders u)

    same-incarnation : {after : State} (q : Reaches y b after) → Keeps (b.holders u) (q.after.holders u) → SameIncarnation s after u
    unfolding view
    same-incarnation {after} q k = record {
      live = (live_test (transactor_at after u).status).1 (rw (q.rel.holders u).status k.live);
      is = life-is z w r after q.well q.after q.rel u ∙ k.incarnation ∙ sym (life-is z w r s w b r u);
    }

    -- it keeps its life or loses it, and is not signed at it
    fated : {after : State} → Further y s after → Fated after
    fated here = record { reaches = record { after = b; well = w; rel = r; turns = λ x. turns.none }; fate = kept (record { live = there; incarnation = refl; grounds = λ x a g. g }) }
    fated (step {now} o steps octets i) = one (fated o)
      where
        one : Fated now → Fated (step_of y now (step_at steps i)).state
        one f =
            let q = f.reaches in
            let ok = step_ok-at steps octets i in
            let k = state-kept q.well q.rel (step_at steps i) ok.message in
            let t = turn-signs (view now) q.after q.rel y (step_at steps i) ok.message k.step u in
            record {
              reaches = record {
                after = k.after;
                well = keeps z q.well ok;
                rel = k.rel;
                turns = λ x. turns.more (q.turns x) (turn (view now) q.after q.rel y (step_at steps i) ok.message k.step x);
              };
              fate = fate-on f.fate t (λ g c. barred now o (same-incarnation q c) (step_at steps i).message g.names (signs.signed q (step_at steps i) ok g.zero g.kind g.same));
            }

    -- Whoever rests on its present life is barred too, as long as that take keeps its own.
    barred-through : {x : ℕ} → RestsOn b x u (b.holders u).history.incarnation → Barred R x
    barred-through {x} rests after o same v n true-now = go f.fate
      where
        f : Fated after
        f = fated o

        ok : Ready (view after) (named v)
        ok = signs.rule f.reaches v true-now

        support : Ground (b.holders x) u (b.holders u).history.incarnation
        support = rests-present (view s) b r rests

        ground-now : Ground (f.reaches.after.holders x) u (b.holders u).history.incarnation
        ground-now =
            let q = f.reaches in
            let e = sym (life-is z w r after q.well q.after q.rel x) ∙ same.is ∙ life-is z w r s w b r x in
            (kept-all (ground-live (view s) b r support) (q.turns x) (status-live z w r after q.after q.rel x same.live) e).grounds u (b.holders u).history.incarnation support

        go : Fate (b.holders u) (f.reaches.after.holders u) → ⊥
        go (lost p) = spoilt (view after) f.reaches.after f.reaches.rel (from_start ground-now) (past-withdrawn f.reaches.after p) v n ok
        go (kept k) = at (settled (view after) f.reaches.after f.reaches.rel v ok x n u (b.holders u).history.incarnation (from_start ground-now))
          where
            at : CheckpointedNow f.reaches.after u (b.holders u).history.incarnation ⊎ StablePresent f.reaches.after v u (b.holders u).history.incarnation → ⊥
            at (inl c) = checkpointed-longer c.is (ap (λ (a : Incarnation). a.checkpoints) (sym k.incarnation))
            at (inr p) = barred after o (same-incarnation f.reaches k) v p.named true-now

  pub unready-through : {u : ℕ} → Live (b.holders u).status → Unready u → {x : ℕ} → RestsOn b x u (b.holders u).history.incarnation → Unready x
  unready-through there d rests = barred-through rule-signs there d rests

  pub doomed-through : {u : ℕ} → Live (b.holders u).status → Doomed y s u → {x : ℕ} → RestsOn b x u (b.holders u).history.incarnation → Doomed y s x
  doomed-through there d rests = barred-through group-signs there d rests

  -- whoever is spoilt
  spoilt-unready : {x : ℕ} → Spoilt b x → Unready x
  spoilt-unready (on-withdrawn rests q) = withdrawn-unready rests q
  spoilt-unready {x} (on-spoilt {u = u} q rests) = go (live-or-not (b.holders u).status) (spoilt-unready q)
    where
      go : Live (b.holders u).status ⊎ (Live (b.holders u).status → ⊥) → Unready u → Unready x
      go (inl l) f = unready-through l f rests
      go (inr l) f = withdrawn-unready rests (neither (λ m. l m.live) (λ m. l m.live))

  -- A spoilt take is in no ready volume, after whatever steps, as long as it keeps its present life.
  pub spoilt-doomed : {x : ℕ} → Spoilt b x → Doomed y s x
  spoilt-doomed q = unready-doomed (spoilt-unready q)

-- ---- the steps of a part, and calls

module _ (y : Layout) (s : State) (steps : List ℕ) (octets : Octets steps) where
  -- from any step of a part to any later one
  pub after-steps : (i j : ℕ) → i ≤ j → Further y (state_after y s steps i) (state_after y s steps j)
  unfolding state_after
  after-steps i zero h = let e : i ≡ 0 = omega arith in subst (λ (k : ℕ). Further y (state_after y s steps k) s) (sym e) here
  after-steps i (suc j) h = go (ℕ_discrete i (suc j)) (λ (l : i ≤ j). after-steps i j l)
    where
      go : Dec (i ≡ suc j) → (i ≤ j → Further y (state_after y s steps i) (state_after y s steps j)) → Further y (state_after y s steps i) (step_of y (state_after y s steps j) (step_at steps j)).state
      go (yes e) f = subst (λ (k : ℕ). Further y (state_after y s steps k) (state_after y s steps (suc j))) (sym e) here
      go (no n) f = step (f (omega arith)) steps octets j

further-trans : {y : Layout} {s now after : State} → Further y s now → Further y now after → Further y s after
further-trans o here = o
further-trans o (step q steps octets i) = step (further-trans o q) steps octets i

module _ (y : Layout) (z : Fitting y) where
  run-onward : {img : List ℕ} → Trace y img → (list : List ℕ) → Octets list → (start end : ℕ) (lent : List ℕ) → Further y (unpack y img) (unpack y (run_image y img list start end lent))
  unfolding run_image ran_image state_after
  run-onward {img} τ list o start end lent = pick-view (λ (i : List ℕ). Further y (unpack y img) (unpack y i)) (eqb (run_answer y img list start end lent) 0) _ img
      (λ e. subst (Further y (unpack y img)) (sym (unpack-pack y (state_after y (unpack y img) b n) (keeps-after z (grown z τ).holds.well b octets n).packable)) (after-steps y (unpack y img) b octets 0 n (omega arith)))
      (λ e. here)
    where
      b : List ℕ
      b = part start (end - start) list

      n : ℕ
      n = steps_in b

      octets : Octets b
      octets = octets-part start (end - start) list o

  -- the calls that follow, any but accepted begins
  pub after-calls : {img after : List ℕ} → Trace y img → Continued y img after → Further y (unpack y img) (unpack y after)
  after-calls τ none = here
  after-calls {img} τ (one_more {now} k g p) = call-keeps y z (Further y (unpack y img)) g p
      (λ list o start end lent e f. further-trans f (run-onward (extended τ k) list o start end lent)) (after-calls τ k)

-- ---- what smallest_group answers

-- by the refusal and the volumes that could be signed
smallest-as : {y : Layout} {img other : List ℕ} {u : ℕ} → query_refusal y img u ≡ query_refusal y other u
    → ((v : ℕ) → Checkpointable y (unpack y img) u v ↔ Checkpointable y (unpack y other) u v) → {a : Option ℕ} → Smallest y img u a → Smallest y other u a
smallest-as e f (groups.refused n) = groups.refused (λ q. n (e ∙ q))
smallest-as e f (groups.nothing q n) = groups.nothing (sym e ∙ q) (λ v c. n v ((f v).1 c))
smallest-as e f (groups.smallest {v} q c l) = groups.smallest (sym e ∙ q) ((f v).0 c) (λ w d. l w ((f w).1 d))

-- ---- every session, at every s

module _ {y : Layout} (z : Fitting y) {img : List ℕ} {τ : Trace y img} {s : State} {b : Provenance} (k : Point y img τ s b) where
  -- Take u is in the word `resting` of the answer about take t exactly if the book says that u rests on take t's present life.
  pub resting-means : (t : ℕ) → Live (b.holders t).status → (u : ℕ) → (named (dependents_of y s t).resting u ≡ true) ↔ RestsOn b u t (b.holders t).history.incarnation
  resting-means t there u = resting-exactly (well z k) (related z k) t there u

  -- Take u is in the word `through` exactly if the book says that it rests on take t's present life, directly or through others.
  pub through-means : (t : ℕ) → Live (b.holders t).status → (u : ℕ) → (named (dependents_of y s t).through u ≡ true) ↔ RestsThrough b t u
  through-means t there u = through-exactly (well z k) (related z k) t there u

  -- the step p, with which take t falls, and the book after it
  module _ {p : Step} (ok : StepOk p) {c : Provenance} (taken : ProvenanceStep y b p c) {t : ℕ} (w : Withdraws y s p t) where
    status-of : (after : State) {d : Provenance} → Rel (view after) d → (u : ℕ) → Live (d.holders u).status → live (transactor_at after u) ≡ true
    unfolding view
    status-of after q u l = (live_test (transactor_at after u).status).1 (rw (q.holders u).status l)

    there : Live (b.holders t).status
    there = (rolled (well z k) (related z k) p ok.message w).0

    rel-after : Rel (view (step_of y s p).state) c
    rel-after =
        let q = state-kept (well z k) (related z k) p ok.message in
        subst (λ (d : Provenance). Rel (view (step_of y s p).state) d) (provenance-determined q.step taken) q.rel

    life-past : Past (c.holders t) (b.holders t).history.incarnation
    life-past = rolled-past (well z k) (keeps z (well z k) ok) (related z k) rel-after (rolled (well z k) (related z k) p ok.message w).1

    only-t : Alone b c t
    only-t = alone (view s) b (related z k) y p t there taken life-past

    -- Its life was present, and is withdrawn.
    pub withdrawn-then : Present b t (b.holders t).history.incarnation × SupersededOrAnnihilated c t (b.holders t).history.incarnation
    withdrawn-then = (record { live = there; is = refl }, past-withdrawn c life-past)

    -- The takes that rest on it afterwards are just those that the query named before, but for take t itself.
    pub spoils : (u : ℕ) → RestsOn c u t (b.holders t).history.incarnation ↔ ((named (dependents_of y s t).resting u ≡ true) × (t ≢ u))
    spoils u = (λ rests. to rests (ℕ_discrete t u), λ q. rests-of only-t u q.1 ((resting-means t there u).0 q.0))
      where
        to : RestsOn c u t (b.holders t).history.incarnation → Dec (t ≡ u) → (named (dependents_of y s t).resting u ≡ true) × (t ≢ u)
        to rests (yes e) = absurd (own-not-past (view (step_of y s p).state) c rel-after life-past (subst (λ (v : ℕ). RestsOn c v t (b.holders t).history.incarnation) (sym e) rests))
        to rests (no n) = ((resting-means t there u).1 (rests-to only-t u n rests), n)

    -- And no volume that names one of them is ready, after whatever steps, signings included, as long as that take keeps its present life.
    pub spoilt-for-good : (u : ℕ) → named (dependents_of y s t).resting u ≡ true → t ≢ u → {after : State} → Further y (step_of y s p).state after → SameIncarnation s after u
        → (v : ℕ) → named v u ≡ true → ReadyGroup y after v → ⊥
    spoilt-for-good u named-u n {after} o same =
        let later = keeps z (well z k) ok in
        let e : incarnation_of (own_history u (transactor_at (step_of y s p).state u)) ≡ incarnation_of (own_history u (transactor_at s u)) =
        life-is z (well z k) (related z k) (step_of y s p).state later c rel-after u
        ∙ ap (λ (h : Holder). h.history.incarnation) (only-t.others u n)
        ∙ sym (life-is z (well z k) (related z k) s (well z k) b (related z k) u) in
        never-ready z later rel-after ((spoils u).1 (named-u, n)) (past-withdrawn c life-past) o (record { live = same.live; is = same.is ∙ sym e })

    life-same : (u : ℕ) → t ≢ u → incarnation_of (own_history u (transactor_at (step_of y s p).state u)) ≡ incarnation_of (own_history u (transactor_at s u))
    life-same u n =
        life-is z (well z k) (related z k) (step_of y s p).state (keeps z (well z k) ok) c rel-after u
        ∙ ap (λ (h : Holder). h.history.incarnation) (only-t.others u n)
        ∙ sym (life-is z (well z k) (related z k) s (well z k) b (related z k) u)

    -- ---- just those of `through` are spoilt by it

    rolled-back : c.holders t ≡ rolled_back_holder t (b.holders t)
    rolled-back = go (turn (view s) b (related z k) y p ok.message taken t) life-past
      where
        new-mark : Past (anew t (checkpointed_view (b.holders t).history)) (b.holders t).history.incarnation → ⊥
        new-mark (passed l q) = superseded-not-checkpointed q (checkpointed-checkpoint (b.holders t).history.incarnation)
        new-mark (vanished e) = turns.dead-live e is-idle

        go : Turn Unit t (b.holders t) (c.holders t) → Past (c.holders t) (b.holders t).history.incarnation → c.holders t ≡ rolled_back_holder t (b.holders t)
        go (turns.stays e) q = absurd (present-not-past there (subst (λ (h : Holder). Past h (b.holders t).history.incarnation) e q))
        go (turns.works l g) q = absurd (present-not-past g.live (subst (Past (c.holders t)) (sym g.incarnation) q))
        go (turns.rolls-back l e) q = e
        go (turns.checkpoints i l e) q = absurd (new-mark (subst (λ (h : Holder). Past h (b.holders t).history.incarnation) e q))
        go (turns.opens e) q = absurd (live-used there e)

    -- what was signed of it stays signed
    checkpointed-on : {a : Incarnation} → CheckpointedNow b t a → CheckpointedNow c t a
    unfolding rolled_back_holder
    checkpointed-on {a} q =
        let P : Holder → Type 0 = λ h. Live h.status × Checkpointed a h.history.incarnation in
        let e = subst P (sym rolled-back) (pick-view P (is_nil (b.holders t).history.incarnation.checkpoints) _ _
        (λ e. absurd (none-checkpointed (is_nil-true (b.holders t).history.incarnation.checkpoints e) q.is))
        (λ e. (is-idle, checkpointed-up q.is (precedes-next (b.holders t).history.incarnation)))) in
        record { live = e.0; is = e.1 }

    -- a life of take t that is not signed afterwards was its present one, or withdrawn before
    by-fall : {x : ℕ} {a : Incarnation} → RestsOn b x t a → (CheckpointedNow c t a → ⊥) → Spoilt b x ⊎ RestsThrough b t x
    by-fall {x} {a} rests n = go (dec_test (same_incarnation a (b.holders t).history.incarnation) (same_test a (b.holders t).history.incarnation))
      where
        go : Dec (a ≡ (b.holders t).history.incarnation) → Spoilt b x ⊎ RestsThrough b t x
        go (yes e) = inr (via itself (subst (RestsOn b x t) e rests))
        go (no m) = inl (on-withdrawn rests (neither (λ q. m q.is) (λ q. n (checkpointed-on q))))

    withdrawn-same : {u : ℕ} {a : Incarnation} → t ≢ u → SupersededOrAnnihilated c u a → SupersededOrAnnihilated b u a
    withdrawn-same {u} n (grounds.gone e) = grounds.gone (ap (λ (h : Holder). h.status) (sym (only-t.others u n)) ∙ e)
    withdrawn-same {u} n (neither q r) = let e = sym (only-t.others u n) in neither (λ m. q (present-as e m)) (λ m. r (checkpointed-as e m))

    spoilt-before : {x : ℕ} → t ≢ x → Spoilt c x → Spoilt b x ⊎ RestsThrough b t x
    spoilt-before {x} n (on-withdrawn {u = u} {a = a} rests q) = go (ℕ_discrete t u)
      where
        go : Dec (t ≡ u) → Spoilt b x ⊎ RestsThrough b t x
        go (yes i) = by-fall (subst (λ (v : ℕ). RestsOn b x v a) (sym i) (rests-to only-t x n rests)) (λ m. checkpointed-stands c m (subst (λ (v : ℕ). SupersededOrAnnihilated c v a) (sym i) q))
        go (no m) = inl (on-withdrawn (rests-to only-t x n rests) (withdrawn-same m q))
    spoilt-before {x} n (on-spoilt {u = u} q rests) = go (ℕ_discrete t u) (λ (m : t ≢ u). spoilt-before m q)
      where
        go : Dec (t ≡ u) → (t ≢ u → Spoilt b u ⊎ RestsThrough b t u) → Spoilt b x ⊎ RestsThrough b t x
        go (yes i) f = by-fall (rests-to only-t x n (subst (λ (v : ℕ). RestsOn c x v (c.holders v).history.incarnation) (sym i) rests)) (λ m. checkpointed-irrefl m.is)
        go (no m) f =
            let e = subst (λ (h : Holder). RestsOn b x u h.history.incarnation) (only-t.others u m) (rests-to only-t x n rests) in
            ⊎_elim (λ o. inl (on-spoilt o e)) (λ o. inr (via o e)) (f m)

    -- who rests on it, and what rests on those
    spoilt-direct : {x : ℕ} → t ≢ x → RestsOn b x t (b.holders t).history.incarnation → Spoilt c x
    spoilt-direct {x} n rests = on-withdrawn (rests-of only-t x n rests) (past-withdrawn c life-past)

    spoilt-on : {x u : ℕ} → t ≢ x → t ≢ u → Spoilt c u → RestsOn b x u (b.holders u).history.incarnation → Spoilt c x
    spoilt-on {x} {u} n m q rests = on-spoilt q (subst (λ (h : Holder). RestsOn c x u h.history.incarnation) (sym (only-t.others u m)) (rests-of only-t x n rests))

    spoilt-after : {x : ℕ} → t ≢ x → Spoilt b x → Spoilt c x
    spoilt-after {x} n (on-withdrawn {u = u} {a = a} rests q) =
        on-withdrawn (rests-of only-t x n rests)
        (⊎_elim (λ g. past-withdrawn c (past-on (withdrawn-past (well z k) (related z k) g q) (turn (view s) b (related z k) y p ok.message taken u)))
        (λ m. absurd (checkpointed-stands b m q)) (rests-ground (view s) b (related z k) rests))
    spoilt-after {x} n (on-spoilt {u = u} q rests) = go (ℕ_discrete t u) (λ (m : t ≢ u). spoilt-after m q)
      where
        go : Dec (t ≡ u) → (t ≢ u → Spoilt c u) → Spoilt c x
        go (yes i) f = spoilt-direct n (subst (λ (v : ℕ). RestsOn b x v (b.holders v).history.incarnation) (sym i) rests)
        go (no m) f = spoilt-on n m (f m) rests

    through-after : {x : ℕ} → RestsThrough b t x → (t ≡ x) ⊎ Spoilt c x
    through-after itself = inl refl
    through-after {x} (via {u} q rests) = go (ℕ_discrete t x) (ℕ_discrete t u) (through-after q)
      where
        go : Dec (t ≡ x) → Dec (t ≡ u) → (t ≡ u) ⊎ Spoilt c u → (t ≡ x) ⊎ Spoilt c x
        go (yes i) d f = inl i
        go (no n) (yes i) f = inr (spoilt-direct n (subst (λ (v : ℕ). RestsOn b x v (b.holders v).history.incarnation) (sym i) rests))
        go (no n) (no m) (inl i) = absurd (m i)
        go (no n) (no m) (inr o) = inr (spoilt-on n m o rests)

    -- The takes that are spoilt after the fall are those that were before, and those of `through`, and no others; take t itself apart.
    pub spoils-exactly : (x : ℕ) → t ≢ x → Spoilt c x ↔ (Spoilt b x ⊎ (named (dependents_of y s t).through x ≡ true))
    spoils-exactly x n = (
      λ q. ⊎_elim (λ o. inl o) (λ o. inr ((through-means t there x).1 o)) (spoilt-before n q),
      λ q. ⊎_elim (λ o. spoilt-after n o) (λ o. ⊎_elim (λ i. absurd (n i)) (λ m. m) (through-after ((through-means t there x).0 o))) q,
    )

    -- And no volume that names one of those of `through` is ready, after whatever steps, as long as that take keeps its present life.
    pub spoilt-through : (x : ℕ) → named (dependents_of y s t).through x ≡ true → t ≢ x → {after : State} → Further y (step_of y s p).state after → SameIncarnation s after x
        → (v : ℕ) → named v x ≡ true → ReadyGroup y after v → ⊥
    spoilt-through x q n {after} o same =
        spoilt-doomed z (keeps z (well z k) ok) rel-after ((spoils-exactly x n).1 (inr q)) after o (record { live = same.live; is = same.is ∙ sym (life-same x n) })

    -- ---- the volumes without take t

    checkpointed-back : {a : Incarnation} → CheckpointedNow c t a → CheckpointedNow b t a
    unfolding rolled_back_holder
    checkpointed-back {a} q =
        let P : Holder → Type 0 = λ h. Live h.status → Checkpointed a h.history.incarnation → Checkpointed a (b.holders t).history.incarnation in
        record {
          live = there;
          is = subst P (sym rolled-back) (pick-view P (is_nil (b.holders t).history.incarnation.checkpoints) _ _ (λ e l m. absurd (turns.dead-live refl l)) (λ e l m. same-list m)) q.live q.is;
        }
      where
        same-list : Checkpointed a (next_incarnation (b.holders t).history.incarnation) → Checkpointed a (b.holders t).history.incarnation
        same-list (begins r e) = begins r e

    module _ (v : ℕ) (without : named v t ≡ false) where
      apart : {u : ℕ} → named v u ≡ true → t ≢ u
      apart n e = false≢true (sym without ∙ subst (λ (x : ℕ). named v x ≡ true) (sym e) n)

      settled_back : {u : ℕ} {a : Incarnation} → Settled c v u a → Settled b v u a
      settled_back {u} {a} (inl q) = inl (go (ℕ_discrete t u))
        where
          go : Dec (t ≡ u) → CheckpointedNow b u a
          go (yes e) = subst (λ (x : ℕ). CheckpointedNow b x a) e (checkpointed-back (subst (λ (x : ℕ). CheckpointedNow c x a) (sym e) q))
          go (no n) = checkpointed-as (only-t.others u n) q
      settled_back {u} (inr q) = inr (stable-as (only-t.others u (apart q.named)) q)

      settled_on : {u : ℕ} {a : Incarnation} → Settled b v u a → Settled c v u a
      settled_on {u} {a} (inl q) = inl (go (ℕ_discrete t u))
        where
          go : Dec (t ≡ u) → CheckpointedNow c u a
          go (yes e) = subst (λ (x : ℕ). CheckpointedNow c x a) e (checkpointed-on (subst (λ (x : ℕ). CheckpointedNow b x a) (sym e) q))
          go (no n) = checkpointed-as (sym (only-t.others u n)) q
      settled_on {u} (inr q) = inr (stable-as (sym (only-t.others u (apart q.named))) q)

      -- The fall makes no difference to a volume that does not name take t: its two sets are equal after it exactly if they were before.
      pub same-sets : Equal c v ↔ Equal b v
      same-sets = (
        λ same. settled-equal b v (λ u n w a rests. settled_back (equal-settled c v same u n w a (rests-of only-t u (apart n) rests))) (λ u n l. own-has (view s) b (related z k) u l),
        λ same. settled-equal c v (λ u n w a rests. settled_on (equal-settled b v same u n w a (rests-to only-t u (apart n) rests))) (λ u n l. own-has (view (step_of y s p).state) c rel-after u l),
      )

    -- ---- what could be signed before the fall and after it

    no-signing : {d : Provenance} → ProvenanceStep y b p d → Past (d.holders t) (b.holders t).history.incarnation → p.kind ≡ sign → ⊥
    no-signing (refuses q) past i = present-not-past there past
    no-signing (applies q n) past i = n i
    no-signing (signing q i e) past j = checkpointed-others (view s) b (related z k) y p t there p.message past
    no-signing (not-ready q i e) past j = present-not-past there past

    limits-same : {d : Provenance} → ProvenanceStep y b p d → b.limits ≡ d.limits
    limits-same (refuses q) = refl
    limits-same (applies q n) = sym (limits-stay b p)
    limits-same (signing q i e) = refl
    limits-same (not-ready q i e) = refl

    unfrozen : (c.holders t).history.stable ≡ false
    unfolding rolled_back_holder
    unfrozen = subst (λ (h : Holder). h.history.stable ≡ false) (sym rolled-back)
        (pick-view (λ (h : Holder). h.history.stable ≡ false) (is_nil (b.holders t).history.incarnation.checkpoints) _ _ (λ e. refl) (λ e. refl))

    -- a volume that is ready after it does not name take t
    without-t : {v : ℕ} → ReadyGroup y (step_of y s p).state v → named v t ≡ false
    without-t {v} after = go (named v t) refl
      where
        go : (n : Bool) → named v t ≡ n → n ≡ false
        go false e = refl
        go true e =
            let stable = (ready-rule z (keeps z (well z k) ok) rel-after after).stable t e in
            absurd (false≢true (sym unfrozen ∙ ap (λ (m : HistoryView). m.stable) (sym (own-history (rel-after.holders t))) ∙ stable))

    ready-before : {v : ℕ} → ReadyGroup y (step_of y s p).state v → ReadyGroup y s v
    ready-before {v} after =
        let now = (signs-exactly z (keeps z (well z k) ok) rel-after v after.bits).0 after.signs in
        let apart = without-t after in
        let lives = ready-live (view (step_of y s p).state) c rel-after v (ready-rule z (keeps z (well z k) ok) rel-after after) in
        record {
          bits = after.bits;
          signs = (signs-exactly z (well z k) (related z k) v after.bits).1 (record {
            zero = signing-on y c b (view s) (related z k) v (limits-same taken)
                (λ u n. subst (Stays (c.holders u)) (only-t.others u (λ e. false≢true (sym apart ∙ subst (λ (x : ℕ). named v x ≡ true) (sym e) n))) (stays-refl (lives u n))) now.zero;
            same = (same-sets v apart).0 now.same;
          });
        }

    -- Every volume is ready after the fall exactly if it was before.
    pub ready-same : (v : ℕ) → ReadyGroup y s v ↔ ReadyGroup y (step_of y s p).state v
    ready-same v = (λ before. ready_on z (well z k) (related z k) ok (no-signing taken life-past) before, λ after. ready-before after)

    -- So none with a take of `through` was.
    pub unready-before : (x : ℕ) → named (dependents_of y s t).through x ≡ true → (v : ℕ) → named v x ≡ true → ReadyGroup y s v → ⊥
    unready-before x q v m before = go (ℕ_discrete t x)
      where
        go : Dec (t ≡ x) → ⊥
        go (yes e) = false≢true (sym (without-t ((ready-same v).0 before)) ∙ subst (λ (u : ℕ). named v u ≡ true) (sym e) m)
        go (no n) =
            let lives = ready-live (view s) b (related z k) v (ready-rule z (well z k) (related z k) before) x m in
            let alive = status-of (step_of y s p).state rel-after x (subst (λ (h : Holder). Live h.status) (sym (only-t.others x n)) lives) in
            spoilt-through x q n here (record { live = alive; is = life-same x n }) v m ((ready-same v).0 before)

    -- the refusals of a query about another take
    query-kept : (u : ℕ) → t ≢ u → provenance_query_refusal b u ≡ provenance_query_refusal c u
    query-kept u n = rw (
      tests.same_test (leb b.opened u) (leb c.opened u)
          (λ e. le-leb c.opened u (⊎_elim (λ (h : u < c.opened). absurd (rel-after.used u h (ap (λ (h : Holder). h.status) (only-t.others u n) ∙ (related z k).fresh u (leb-true b.opened u e)))) (λ h. h) (sides u c.opened)))
          (λ e. le-leb b.opened u (⊎_elim (λ (h : u < b.opened). absurd ((related z k).used u h (ap (λ (h : Holder). h.status) (sym (only-t.others u n)) ∙ rel-after.fresh u (leb-true c.opened u e)))) (λ h. h) (sides u b.opened))),
      only-t.others u n,
    )

    -- What smallest_group answers about any take but t is the same before and after the fall, its refusal included.
    pub smallest-same : (u : ℕ) → t ≢ u → (a : Option ℕ) → SmallestIn y s u a ↔ SmallestIn y (step_of y s p).state u a
    smallest-same u n a = (λ q. smallest-as same (λ v. could v) q, λ q. smallest-as (sym same) (λ v. ((could v).1, (could v).0)) q)
      where
        back : (x : State) → WellFormed y x → unpack y (pack y x) ≡ x
        back x w = unpack-pack y x w.packable

        same : query_refusal y (pack y s) u ≡ query_refusal y (pack y (step_of y s p).state) u
        same = query-same (holds-pack (well z k) (related z k)) u ∙ query-kept u n ∙ sym (query-same (holds-pack (keeps z (well z k) ok) rel-after) u)

        could : (v : ℕ) → Checkpointable y (unpack y (pack y s)) u v ↔ Checkpointable y (unpack y (pack y (step_of y s p).state)) u v
        could v = rw (back s (well z k), back (step_of y s p).state (keeps z (well z k) ok)) (
          λ e. let r = (ready-same v).0 (record { bits = e.bits; signs = e.signs }) in record { bits = e.bits; contains = e.contains; signs = r.signs },
          λ e. let r = (ready-same v).1 (record { bits = e.bits; signs = e.signs }) in record { bits = e.bits; contains = e.contains; signs = r.signs },
        )

    -- Those that are not in `through` among them.
    pub smallest-kept : (u : ℕ) → named (dependents_of y s t).through u ≡ false → (a : Option ℕ) → SmallestIn y s u a ↔ SmallestIn y (step_of y s p).state u a
    smallest-kept u q = smallest-same u (λ e. false≢true (sym q ∙ subst (λ (x : ℕ). named (dependents_of y s t).through x ≡ true) e ((through-means t there t).1 itself)))

  -- ---- and who is not spoilt can be signed

  spread : {u x : ℕ} → Spoilt b u → RestsThrough b u x → Spoilt b x
  spread q itself = q
  spread q (via o e) = on-spoilt (spread q o) e

  -- A take that is not spoilt, once all that it rests on is frozen: its volume, of the takes whose present lives it rests on, directly or through
  -- others, has equal sets, and is signed if its signing is not refused.
  pub unspoilt-equal : (x g : ℕ) → ((u : ℕ) → (named g u ≡ true) ↔ RestsThrough b u x) → (Spoilt b x → ⊥)
      → ((u : ℕ) → RestsThrough b u x → (b.holders u).history.stable ≡ true) → Equal b g
  unspoilt-equal x g exactly fine stable = settled-equal b g settle (λ u n l. own-has (view s) b (related z k) u l)
    where
      settle : (u : ℕ) → named g u ≡ true → (v : ℕ) (a : Incarnation) → RestsOn b u v a → Settled b g v a
      settle u n v a rests = go (live-or-not (b.holders v).status)
        where
          not-withdrawn : SupersededOrAnnihilated b v a → ⊥
          not-withdrawn q = fine (spread (on-withdrawn rests q) ((exactly u).0 n))

          at : Live (b.holders v).status → Dec (Checkpointed a (b.holders v).history.incarnation) → Dec (a ≡ (b.holders v).history.incarnation) → Settled b g v a
          at l (yes q) d = inl (record { live = l; is = q })
          at l (no q) (yes e) =
              let o : RestsThrough b v x = rests-trans (via itself (subst (RestsOn b u v) e rests)) ((exactly u).0 n) in
              inr (record { named = (exactly v).1 o; present = record { live = l; is = e }; stable = stable v o })
          at l (no q) (no e) = absurd (not-withdrawn (neither (λ m. e m.is) (λ m. q m.is)))

          go : Live (b.holders v).status ⊎ (Live (b.holders v).status → ⊥) → Settled b g v a
          go (inl l) = at l (dec_checkpointed a (b.holders v).history.incarnation) (dec_test (same_incarnation a (b.holders v).history.incarnation) (same_test a (b.holders v).history.incarnation))
          go (inr l) = absurd (not-withdrawn (neither (λ m. l m.live) (λ m. l m.live)))

-- ---- what a query that is not refused is about, between two calls of a session

module _ {y : Layout} (z : Fitting y) {img : List ℕ} (τ : Trace y img) {b : Provenance} (fed : ProvenanceOf y (calls_of τ) b) where
  related-here : Rel (view (unpack y img)) b
  related-here = related z (at-end {τ = τ} fed)

  well-here : WellFormed y (unpack y img)
  well-here = well z (at-end {τ = τ} fed)

  opened-used : (t : ℕ) → t < (unpack y img).opened → (b.holders t).status ≡ unused → ⊥
  unfolding view
  opened-used t l = related-here.used t (subst (λ (n : ℕ). t < n) related-here.opened l)

  -- a live take
  pub query-live : (t : ℕ) → query_refusal y img t ≡ 0 → Live (b.holders t).status
  unfolding query_refusal
  query-live t e =
      let f = pick-zero (wrong_length y img) 16 _ (omega arith) e in
      let g = pick-zero (not (well_formed y img)) 19 _ (omega arith) f.1 in
      let h = pick-zero (leb (unpack y img).opened t) 21 _ (omega arith) g.1 in
      let i = pick-zero (eqb (transactor_at (unpack y img) t).status number.annihilated) 22 0 (omega arith) h.1 in
      go (live-or-not (b.holders t).status) (leb-false (unpack y img).opened t h.0) (eqb-false (transactor_at (unpack y img) t).status number.annihilated i.0)
    where
      go : Live (b.holders t).status ⊎ (Live (b.holders t).status → ⊥) → t < (unpack y img).opened → ((transactor_at (unpack y img) t).status ≡ number.annihilated → ⊥) → Live (b.holders t).status
      go (inl k) l n = k
      go (inr k) l n = absurd (n ((matches-rel well-here related-here t).status ∙ ap status_number (not-used (b.holders t).status k (opened-used t l))))
