-- Document 02, W4: in a session grown from fresh every frozen mark of a map was frozen by an earlier step since the last accepted begin.
use Prim.Native.Nat.{ℕ, zero, suc, ◌-◌, ◌<◌}
use mathlib.Core.Bool.{Bool, true, false, not, false≢true}
use mathlib.Core.Path.{◌≡◌, refl, sym, ◌∙◌, subst}
use mathlib.Core.List.{List, [], ◌∷◌}
use mathlib.Core.Logic.{◌≢◌}
use native.Mathlib.Decide.{ℕ_discrete}
use native.Mathlib.Omega.{arith}
use lib.Dec.{eqb}
use borrow.Author.Tests.{eq-eqb, ne_eqb, eqb-true}
use Rattle.octets.specs.Bytes.{pick, part, Octets}
use Rattle.octets.proofs.Put.{octets-part}
use Rattle.octets.proofs.Zero.{both}
use Rattle.marks.specs.Incarnation.{Incarnation}
use Rattle.marks.specs.History.{HistoryView}
use Rattle.maps.proofs.News.{informed_table}
use Rattle.octets.proofs.Tables.{updated-same}
use Rattle.rules.specs.Layout.{Layout, Limits, in_range, base, Fitting}
use Rattle.rules.specs.State.{State, transactor_at}
use Rattle.rules.specs.declared.Step.{Step}
use Rattle.rules.specs.Step.{step_at}
use Rattle.rules.specs.Rules.{refusal, step_of}
use Rattle.rules.specs.Pack.{pack, unpack}
use Rattle.rules.specs.Internal.Well.{StepOk, WellFormed}
use Rattle.rules.specs.Calls.{wrong_length, begin_answer, fresh_image, begin_image, state_after, steps_in, run_answer, ran_image, run_image, query_refusal}
use Rattle.rules.specs.Heard.{all_heard_stable, heard_answer, Heard, in-state, in-creation}
use Rattle.rules.specs.Promises.{HeardPromise}
use Rattle.rules.proofs.Calls.Begin.{begin-accepted}
use Rattle.rules.proofs.Calls.Heard.{heard-test}
use Rattle.rules.proofs.Calls.Query.{query-accepted}
use Rattle.rules.proofs.Pack.RoundTrip.{unpack-pack}
use Rattle.rules.proofs.Pack.Fresh.{pack-fresh}
use Rattle.rules.proofs.Keep.Run.{step_ok-at}
use Rattle.rules.proofs.Keep.State.{well-fresh}
use Rattle.rules.proofs.Keep.Step.{keeps-after, fitting-base}
use Rattle.session.specs.Provenance.{unused, Provenance, empty_provenance}
use Rattle.session.specs.Steps.{freezes, acted, applied, ProvenanceStep, refuses, applies, signing, not-ready}
use Rattle.session.specs.Fed as book
use Rattle.session.specs.Fed.{Call, begin, run, offer, show, call_refusal, ProvenanceSteps, ProvenanceCall, provenance-refuses, provenance-begins, provenance-runs, provenance-offers, provenance-shows, ProvenanceOf, new-provenance, fed}
use Rattle.session.specs.Trace.{Answer, Performed, beginning, running, offering, showing, Trace, opened, called, calls_of, GoesOn}
use Rattle.session.specs.Point.{last-run, earlier-run, Point}
use Rattle.session.specs.Since.{SinceBegin}
use Rattle.session.specs.Withdrawal.{ProvenanceFurther}
use Rattle.session.specs.Stabilized.{Stabilizes, StabilizedIn}
use Rattle.session.proofs.Model.{view}
use Rattle.session.proofs.Relation.{fresh_ledger, Rel, nothing-checkpointed}
use Rattle.session.proofs.News.{informed-law}
use Rattle.session.proofs.ViewRules.{dropped_at, rolled_back_at}
use Rattle.session.proofs.ViewState.{view-fresh}
use Rattle.session.proofs.ViewStep.{ready_at, view-step, same-refusal, state-kept}
use Rattle.session.proofs.Calls.{Holds, holds-pack, holds-fresh, right-length, call-right, run-same, kept}
use Rattle.session.proofs.Points.{held}
use Rattle.session.proofs.Demand3.{next-point}
use Rattle.session.proofs.Fixed.{since-further}
use Rattle.session.proofs.Log.{Log, empty_log, LogAfter, earlier, just-now, absent, none1, backed-has}
use Rattle.session.proofs.Logged.{Logged, log-kept}

-- ---- the steps of a list of calls that freeze

-- one of the first i steps of a part, from the book b on, freezes take u in its life a
pub data StabilizedBy (y : Layout) (b : Provenance) (steps : List ℕ) (i u : ℕ) (a : Incarnation) : Type 1 where
  at-step : (j : ℕ) (c : Provenance) → j < i → ProvenanceSteps y b steps j c → Stabilizes y c (step_at steps j) u a → StabilizedBy y b steps i u a

-- an accepted begin
abbrev pub restarts : Layout → Call → Bool
restarts y (begin m) = in_range y m
restarts y (run list o start end lent) = false
restarts y (offer t) = false
restarts y (show n) = false

-- a step of these calls, the last one first, freezes take u in its life a, in an accepted run after which there is no accepted begin
pub data FrozenIn (y : Layout) : List Call → ℕ → Incarnation → Type 1 where
  in-run : {cs : List Call} {list : List ℕ} {o : Octets list} {start end : ℕ} {lent : List ℕ} {b : Provenance} {u : ℕ} {a : Incarnation}
      → ProvenanceOf y cs b → call_refusal y b (run list o start end lent) ≡ 0
      → StabilizedBy y b (part start (end - start) list) (steps_in (part start (end - start) list)) u a
      → FrozenIn y (run list o start end lent ∷ cs) u a
  in-earlier : {cs : List Call} {c : Call} {u : ℕ} {a : Incarnation} → restarts y c ≡ false → FrozenIn y cs u a → FrozenIn y (c ∷ cs) u a

-- ---- one step

module _ {y : Layout} {s : State} (well : WellFormed y s) {b : Provenance} (r : Rel (view s) b) {p : Step} (ok : StepOk p) (f : Log) (k : Logged (view s) b f) where
  state-logged : {c : Provenance} → ProvenanceStep y b p c → Logged (view (step_of y s p).state) c (LogAfter y b p f)
  state-logged {c} step = subst (λ z. Logged z c (LogAfter y b p f)) (sym (view-step well p ok.message))
      (log-kept (view s) b r y p ok.message f k informed_table informed-law (dropped_at y s p.message) (rolled_back_at y s p.message) (ready_at y s p.message)
      (refusal y s p) (same-refusal well r p) step)

-- ---- the steps of a part

pub data Since (y : Layout) (b : Provenance) (f : Log) (steps : List ℕ) (i u : ℕ) (a : Incarnation) : Type 1 where
  old : f u a → Since y b f steps i u a
  by-step : StabilizedBy y b steps i u a → Since y b f steps i u a

since-more : {y : Layout} {b : Provenance} {f : Log} {steps : List ℕ} {i u : ℕ} {a : Incarnation} → Since y b f steps i u a → Since y b f steps (suc i) u a
since-more (old h) = old h
since-more (by-step (at-step j c h s z)) = by-step (at-step j c (omega arith) s z)

pub record RanLog (y : Layout) (s : State) (b : Provenance) (f : Log) (steps : List ℕ) (i : ℕ) : Type 1 where
  pub after : Provenance
  pub steps_of : ProvenanceSteps y b steps i after
  pub rel : Rel (view (state_after y s steps i)) after
  pub log : Log
  pub logged : Logged (view (state_after y s steps i)) after log
  pub true-log : (u : ℕ) (a : Incarnation) → log u a → Since y b f steps i u a

module _ {y : Layout} (z : Fitting y) {s : State} (well : WellFormed y s) {b : Provenance} (r : Rel (view s) b) (f : Log) (k : Logged (view s) b f) (steps : List ℕ) (octets : Octets steps) where
  one_more : (i : ℕ) → RanLog y s b f steps i → RanLog y s b f steps (suc i)
  unfolding state_after
  one_more i before =
      let w = keeps-after z well steps octets i in
      let ok = step_ok-at steps octets i in
      let n = state-kept w before.rel (step_at steps i) ok.message in
      record {
        after = n.after;
        steps_of = book.more before.steps_of n.step;
        rel = n.rel;
        log = LogAfter y before.after (step_at steps i) before.log;
        logged = state-logged w before.rel ok before.log before.logged n.step;
        true-log = told;
      }
    where
      told : (u : ℕ) (a : Incarnation) → LogAfter y before.after (step_at steps i) before.log u a → Since y b f steps (suc i) u a
      told u a (earlier h) = since-more (before.true-log u a h)
      told u a (just-now h) = by-step (at-step i before.after (omega arith) before.steps_of h)

  run-log : (i : ℕ) → RanLog y s b f steps i
  unfolding state_after
  run-log zero = record { after = b; steps_of = book.none; rel = r; log = f; logged = k; true-log = λ u a. old }
  run-log (suc i) = one_more i (run-log i)

-- ---- the calls of a session

pub record GrownLog (y : Layout) (img : List ℕ) (cs : List Call) : Type 1 where
  pub provenance : Provenance
  pub fed_by : ProvenanceOf y cs provenance
  pub holds : Holds y img provenance
  pub log : Log
  pub logged : Logged (view (unpack y img)) provenance log
  pub true-log : (u : ℕ) (a : Incarnation) → log u a → FrozenIn y cs u a

fresh-logged : (m : Limits) → Logged (fresh_ledger m) (empty_provenance m) empty_log
fresh-logged m = record {
  ledger = record { nodes = λ t. record { state = λ u. absent; creation = λ u. absent; behaviour = λ u. absent }; messages = none1 };
  checkpointed = λ u a c. nothing-checkpointed unused _ (λ k. elim k [ ]) c;
}

pack-logged : {y : Layout} {s : State} {b : Provenance} {f : Log} → WellFormed y s → Logged (view s) b f → Logged (view (unpack y (pack y s))) b f
pack-logged {y} {s} {b} {f} well k = subst (λ z. Logged (view z) b f) (sym (unpack-pack y s well.packable)) k

-- an accepted begin: nothing is logged yet
fresh-grown : {y : Layout} {m : Limits} {cs : List Call} → Fitting y → in_range y m ≡ true → ProvenanceOf y (begin m ∷ cs) (empty_provenance m) → GrownLog y (fresh_image y m) (begin m ∷ cs)
fresh-grown {y} {m} z e p = record {
  provenance = empty_provenance m;
  fed_by = p;
  holds = holds-fresh z m e;
  log = empty_log;
  logged = rw (pack-fresh y m) (pack-logged (well-fresh z m e) (rw (view-fresh y m) (fresh-logged m)));
  true-log = λ u a h. absurd h;
}

module _ {y : Layout} {img : List ℕ} {cs : List Call} (g : GrownLog y img cs) where
  -- a call that only reads
  reading : (c : Call) → restarts y c ≡ false → (call_refusal y g.provenance c ≡ 0 → ProvenanceCall y g.provenance c g.provenance) → GrownLog y img (c ∷ cs)
  reading c e f = record {
    provenance = g.provenance;
    fed_by = fed g.fed_by (kept f);
    holds = g.holds;
    log = g.log;
    logged = g.logged;
    true-log = λ u a h. in-earlier e (g.true-log u a h);
  }

  begin-grown : Fitting y → (m : Limits) → GrownLog y (begin_image y m img) (begin m ∷ cs)
  unfolding begin_answer begin_image
  begin-grown z m = go (in_range y m) refl
    where
      go : (t : Bool) → in_range y m ≡ t → GrownLog y (pick (eqb (pick (wrong_length y img) 16 (pick (not (in_range y m)) 33 0)) 0) (fresh_image y m) img) (begin m ∷ cs)
      go true e = rw (right-length g.holds, e) (fresh-grown z e (fed g.fed_by (provenance-begins (rw e))))
      go false e = rw (right-length g.holds, e) (reading (begin m) e (λ k. absurd (omega (arith, refused k))))
        where
          refused : call_refusal y g.provenance (begin m) ≡ 0 → ◌≡◌ {A = ℕ} 33 0
          refused k = rw e at k

  module _ (z : Fitting y) (list : List ℕ) (o : Octets list) (start end : ℕ) (replies : List ℕ) where
    abbrev part_of : List ℕ
    part_of = part start (end - start) list

    abbrev the-run : Call
    the-run = run list o start end replies

    run-grown : GrownLog y (run_image y img list start end replies) (run list o start end replies ∷ cs)
    unfolding run_image ran_image
    run-grown = go (ℕ_discrete (call_refusal y g.provenance the-run) 0)
      where
        same : run_answer y img list start end replies ≡ call_refusal y g.provenance the-run
        same = run-same g.holds list o start end replies

        go : Dec (call_refusal y g.provenance the-run ≡ 0)
            → GrownLog y (pick (eqb (run_answer y img list start end replies) 0) (pack y (state_after y (unpack y img) part_of (steps_in part_of))) img) (the-run ∷ cs)
        go (yes e) =
            let w = keeps-after z g.holds.well part_of (octets-part start (end - start) list o) (steps_in part_of) in
            let k : RanLog y (unpack y img) g.provenance g.log part_of (steps_in part_of) =
            run-log z g.holds.well g.holds.rel g.log g.logged part_of (octets-part start (end - start) list o) (steps_in part_of) in
            rw (eq-eqb (run_answer y img list start end replies) 0 (same ∙ e))
            (record {
              provenance = k.after;
              fed_by = fed g.fed_by (provenance-runs e k.steps_of);
              holds = holds-pack w k.rel;
              log = k.log;
              logged = pack-logged w k.logged;
              true-log = λ u a h. told u a (k.true-log u a h);
            })
          where
            told : (u : ℕ) (a : Incarnation) → Since y g.provenance g.log part_of (steps_in part_of) u a → FrozenIn y (the-run ∷ cs) u a
            told u a (old h) = in-earlier refl (g.true-log u a h)
            told u a (by-step h) = in-run g.fed_by e h
        go (no n) =
            rw (ne_eqb (run_answer y img list start end replies) 0 (λ e. n (sym same ∙ e)))
            (record {
              provenance = g.provenance;
              fed_by = fed g.fed_by (provenance-refuses n);
              holds = g.holds;
              log = g.log;
              logged = g.logged;
              true-log = λ u a h. in-earlier refl (g.true-log u a h);
            })

begun-grown : {y : Layout} → Fitting y → (m : Limits) (img : List ℕ) → begin_answer y m img ≡ 0 → GrownLog y (begin_image y m img) (begin m ∷ [])
begun-grown {y} z m img e =
    let a = begin-accepted y img m e in
    rw a.1 (fresh-grown z a.0 (new-provenance a.0))

module _ {y : Layout} (z : Fitting y) where
  performed-grown : {img after : List ℕ} {cs : List Call} {c : Call} {a : Answer} → GrownLog y img cs → Performed y img c a after → GrownLog y after (c ∷ cs)
  performed-grown g (beginning {m} e) = rw e.1 (begin-grown g z m)
  performed-grown g (running {list} {o} {start} {end} {lent} e) = rw e.1 (run-grown g z list o start end lent)
  performed-grown g (offering {t} f) = reading g (book.offer t) refl provenance-offers
  performed-grown g (showing {n} f) = reading g (book.show n) refl provenance-shows

  pub grown-log : {img : List ℕ} (τ : Trace y img) → GrownLog y img (calls_of τ)
  unfolding calls_of
  grown-log (opened m img e) = begun-grown z m img e
  grown-log (called τ c a p) = performed-grown (grown-log τ) p

-- ---- as a step of the session, beside the session's own book

goes_on : (y : Layout) (img : List ℕ) (c : Call) → restarts y c ≡ false → GoesOn y img c
goes_on y img c e m i f = false≢true (sym (subst (λ (k : Call). restarts y k ≡ false) i e) ∙ (begin-accepted y img m f).0)

module _ {y : Layout} (z : Fitting y) {u : ℕ} {a : Incarnation} where
  in-last : {img after : List ℕ} (τ : Trace y img) {list : List ℕ} {o : Octets list} {start end : ℕ} {lent : List ℕ} {x : Answer} (p : Performed y img (run list o start end lent) x after) {b : Provenance}
      → ProvenanceOf y (calls_of τ) b → call_refusal y b (run list o start end lent) ≡ 0 → StabilizedBy y b (part start (end - start) list) (steps_in (part start (end - start) list)) u a
      → StabilizedIn y after (called τ (run list o start end lent) x p) u a
  unfolding SinceBegin
  in-last τ {o = o} (running k) f e (at-step j c h s w) = record {
    state = _;
    after = _;
    provenance = c;
    step = _;
    reply = _;
    taken = last-run j f ((call-right z (held z τ f) (running {o = o} k)).refusal ∙ e) h s;
    since = tt;
    stabilizes = w;
  }

  and_then : {img after : List ℕ} {τ : Trace y img} {c : Call} {x : Answer} {p : Performed y img c x after} → GoesOn y img c → StabilizedIn y img τ u a → StabilizedIn y after (called τ c x p) u a
  unfolding SinceBegin
  and_then g k = record {
    state = k.state;
    after = k.after;
    provenance = k.provenance;
    step = k.step;
    reply = k.reply;
    taken = earlier-run k.taken;
    since = (g, k.since);
    stabilizes = k.stabilizes;
  }

  none-frozen : FrozenIn y [] u a → ⊥
  none-frozen k = elim k [ ]

  in-session : {img : List ℕ} (τ : Trace y img) → FrozenIn y (calls_of τ) u a → StabilizedIn y img τ u a
  unfolding calls_of
  in-session (opened m img e) (in-earlier f k) = absurd (none-frozen k)
  in-session (called τ c x p) (in-run f e k) = in-last τ p f e k
  in-session (called {img} τ c x p) (in-earlier e k) = and_then (goes_on y img c e) (in-session τ k)

-- ---- "all heard frozen"

module _ {y : Layout} (z : Fitting y) {img : List ℕ} (τ : Trace y img) where
  -- a frozen mark of a take's two maps was frozen by an earlier step, its own included
  pub heard-stable : (t u : ℕ) (h : HistoryView) → Heard (unpack y img) t u h → h.stable ≡ true → StabilizedIn y img τ u h.incarnation
  unfolding view
  heard-stable t u h (in-state e) i = let g = grown-log z τ in in-session z τ (g.true-log u h.incarnation (backed-has ((g.logged.ledger.nodes t).state u) e i))
  heard-stable t u h (in-creation e) i = let g = grown-log z τ in in-session z τ (g.true-log u h.incarnation (backed-has ((g.logged.ledger.nodes t).creation u) e i))

  -- "In a session grown from fresh, yes must mean that each such life was frozen at some earlier step": where the query's answer is
  -- yes, the life of every other entry of the take's two maps was frozen by a step of this session since its last accepted begin.
  pub yes-means : (t : ℕ) → heard_answer y img t ≡ true → (u : ℕ) (h : HistoryView) → u ≢ t → Heard (unpack y img) t u h → StabilizedIn y img τ u h.incarnation
  unfolding heard_answer
  yes-means t yes-is u h n k =
      let p = both (eqb (query_refusal y img t) 0) (all_heard_stable y t (transactor_at (unpack y img) t)) yes-is in
      let below = (query-accepted y img t (eqb-true (query_refusal y img t) 0 p.0)).below in
      let ok = (grown-log z τ).holds.well.packable.transactors t below in
      heard-stable t u h k ((heard-test (unpack y img) t ok).0 p.1 u h n k)

-- The same at the ledger's own layout, said of the call: whatever refusal it gives with its yes.
pub yes-means-base : {img : List ℕ} (τ : Trace base img) {t r : ℕ} → HeardPromise base img t r true
    → (u : ℕ) (h : HistoryView) → u ≢ t → Heard (unpack base img) t u h → StabilizedIn base img τ u h.incarnation
yes-means-base τ {t} c = yes-means fitting-base τ t (sym c.1)

-- ---- and nothing less: what such a step does, and where there is none

module _ {y : Layout} {u : ℕ} {a : Incarnation} where
  -- after it the take is frozen, in that life
  pub stabilizes-sets : {p : Step} {b c : Provenance} → Stabilizes y b p u a → ProvenanceStep y b p c → (c.holders u).history ≡ record { stable = true; incarnation = a }
  unfolding applied acted freezes
  stabilizes-sets k (refuses n) = absurd (n k.accepted)
  stabilizes-sets {p = p} {b} k (applies e n) = rw (k.transactor, k.incarnation, k.kind, updated-same b.holders p.transactor (freezes (b.holders p.transactor)))
  stabilizes-sets k (signing e i f) = absurd (omega (arith, k.kind, i))
  stabilizes-sets k (not-ready e i f) = absurd (omega (arith, k.kind, i))

-- It was so at a point of the session, going by the session's own book: just after the step. From there the session comes to its end by further
-- steps: none of its calls between is an accepted begin.
pub stabilized-then : {y : Layout} (z : Fitting y) {img : List ℕ} {τ : Trace y img} {u : ℕ} {a : Incarnation} → StabilizedIn y img τ u a
    → (s : State) × (c : Provenance) × Point y img τ s c × ((c.holders u).history ≡ record { stable = true; incarnation = a })
    × ((d : Provenance) → ProvenanceOf y (calls_of τ) d → ProvenanceFurther y c d)
stabilized-then {y} z k =
    let n = next-point y z k.taken in
    (_, n.0, n.1, stabilizes-sets k.stabilizes n.2, λ d f. since-further z k.taken k.since n.2 f)

pub stabilized-then-base : {img : List ℕ} {τ : Trace base img} {u : ℕ} {a : Incarnation} → StabilizedIn base img τ u a
    → (s : State) × (c : Provenance) × Point base img τ s c × ((c.holders u).history ≡ record { stable = true; incarnation = a })
    × ((d : Provenance) → ProvenanceOf base (calls_of τ) d → ProvenanceFurther base c d)
stabilized-then-base k = stabilized-then fitting-base k
