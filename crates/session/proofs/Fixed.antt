-- What a signed text rests on is fixed at its signing (specs/Fixed).
use Prim.Native.Nat.{ℕ, suc, ◌-◌, ◌*◌, ◌≤◌, ◌<◌}
use mathlib.Core.Bool.{true}
use mathlib.Core.Path.{◌≡◌, refl, ap, sym, ◌∙◌, subst}
use mathlib.Core.List.{List, ◌∷◌}
use mathlib.Core.Logic.{◌↔◌}
use native.Mathlib.Decide.{ℕ_discrete}
use native.Mathlib.Omega.{arith}
use Rattle.octets.specs.Bytes.{part, Octets}
use Rattle.octets.proofs.Put.{octets-part}
use Rattle.marks.specs.Incarnation.{Incarnation}
use Rattle.marks.proofs.Order.{checkpointed-longer}
use Rattle.rules.specs.Layout.{Layout, Fitting, base}
use Rattle.rules.specs.State.{State}
use Rattle.rules.specs.declared.Step.{Step}
use Rattle.rules.specs.Step.{step_bytes, step_at, sign, done, not_ready}
use Rattle.rules.specs.Refusals.{named}
use Rattle.rules.specs.Rules.{answer, step_of}
use Rattle.rules.specs.Calls.{steps_in}
use Rattle.rules.specs.Internal.Well.{StepOk, WellFormed}
use Rattle.rules.proofs.Keep.Run.{step_ok-at}
use Rattle.rules.proofs.Keep.Step.{keeps, fitting-base}
use Rattle.session.specs.Provenance.{Live, Provenance}
use Rattle.session.specs.Grounds.{Brought, from_start, from-noted, from_list, in-state, RestsOn, ValueRestsOn, CheckpointedNow, Equal}
use Rattle.session.specs.Steps.{NotedBy, before, now-checkpointed, signs, provenance_refusal, ProvenanceStep, refuses, applies, signing, not-ready}
use Rattle.session.specs.Fed as provenance
use Rattle.session.specs.Fed.{Call, run, call_refusal, ProvenanceSteps, ProvenanceCall, provenance-refuses, provenance-runs, ProvenanceOf, new-provenance, fed}
use Rattle.session.specs.Trace.{ran, Performed, Trace, called, calls_of}
use Rattle.session.specs.Point.{StepIn, last-run, earlier-run, Point, at-end, at-step, earlier, replied, outcome_in}
use Rattle.session.specs.Since.{SinceBegin, Afterwards, in-that-run, after_call, in-later-run, and-more}
use Rattle.session.specs.Withdrawal.{RestsThrough, itself, via, ProvenanceFurther, no-further, further}
use Rattle.session.specs.Fixed.{RestsInAll, Fixed}
use Rattle.session.proofs.Model.{Ledger, view}
use Rattle.session.proofs.Relation.{Rel}
use Rattle.session.proofs.Accepted.{named_live}
use Rattle.session.proofs.Sign.{checkpointed_now-of, own-has, value-checkpointed}
use Rattle.session.proofs.Kept.{provenance-determined}
use Rattle.session.proofs.Onward.{notes}
use Rattle.session.proofs.Resting.{rests-trans}
use Rattle.session.proofs.ViewStep.{state-kept}
use Rattle.session.proofs.Unique.{provenance-unique}
use Rattle.session.proofs.Run.{first-pack_reply}
use Rattle.session.proofs.Calls.{call-right}
use Rattle.session.proofs.Points.{held, beside-steps, step-taken}
use Rattle.session.proofs.Grown.{grown}
use Rattle.session.proofs.Demand3.{step-refused, signs-exactly}
use Rattle.session.proofs.Spreading.{further-trans, further-steps, further-call}

-- ---- what sets bring in

-- what was noted for a life that is brought in is brought in, with all that it brings in
brought-through : {d : Provenance} {start : ℕ → Incarnation → Type 0} {w : ℕ} {c : Incarnation} → Brought d start w c → (u : ℕ) (a : Incarnation) → Brought d (d.noted w c) u a → Brought d start u a
brought-through k u a (from_start s) = from-noted k s
brought-through k u a (from-noted {t = x} {a = c} y s) = from-noted (brought-through k x c y) s
brought-through k u a (from_list {a = c} y e) = from_list (brought-through k u c y) e

-- more notes bring in more
brought-more : {b d : Provenance} {start first : ℕ → Incarnation → Type 0} → ((t : ℕ) (a : Incarnation) (u : ℕ) (c : Incarnation) → b.noted t a u c → d.noted t a u c)
    → ((u : ℕ) (a : Incarnation) → start u a → first u a) → (u : ℕ) (a : Incarnation) → Brought b start u a → Brought d first u a
brought-more f g u a (from_start s) = from_start (g u a s)
brought-more f g u a (from-noted {t = x} {a = c} y s) = from-noted (brought-more f g x c y) (f x c u a s)
brought-more f g u a (from_list {a = c} y e) = from_list (brought-more f g u c y) e

-- ---- at the signing

module _ (l : Ledger) (b : Provenance) (r : Rel l b) (g : ℕ) (same : Equal b g) where
  -- nothing was noted for a present life: such lives are not signed
  present-unnoted : (t u : ℕ) (a : Incarnation) → b.noted t (b.holders t).history.incarnation u a → ⊥
  present-unnoted t u a k = checkpointed-longer (checkpointed_now-of b (r.noted.keys t _ u a k)).is refl

  -- a take on whose present life a named take rests is named
  named-through : (t w : ℕ) → named g t ≡ true → RestsOn b t w (b.holders w).history.incarnation → named g w ≡ true
  named-through t w n k = ((same w (b.holders w).history.incarnation).0 (record { by = t; named = n; rests = k; uncheckpointed = λ s. checkpointed-longer s.is refl })).named

  first-noted : (t u : ℕ) (a : Incarnation) → NotedBy b g t (b.holders t).history.incarnation u a → RestsInAll b t u a
  first-noted t u a (before k) = absurd (present-unnoted t u a k)
  first-noted t u a (now-checkpointed n e rests) = record { by = t; through = itself; rests = rests }

  next-noted : (t w u : ℕ) (c a : Incarnation) → RestsInAll b t w c → NotedBy b g w c u a → RestsInAll b t u a
  next-noted t w u c a q (before k) = record { by = q.by; through = q.through; rests = from-noted q.rests k }
  next-noted t w u c a q (now-checkpointed n e rests) = record { by = w; through = rests-trans (via itself (subst (λ (x : Incarnation). RestsOn b q.by w x) e q.rests)) q.through; rests = rests }

  signed-to : (t u : ℕ) (a : Incarnation) → ValueRestsOn (signs b g) t (b.holders t).history.incarnation u a → RestsInAll b t u a
  signed-to t u a (from_start s) = first-noted t u a s
  signed-to t u a (from-noted {t = w} {a = c} x s) = next-noted t w u c a (signed-to t w c x) s
  signed-to t u a (from_list {a = c} x e) = let q = signed-to t u c x in record { by = q.by; through = q.through; rests = from_list q.rests e }

  signed_of : {w t : ℕ} → RestsThrough b w t → named g t ≡ true → (u : ℕ) (a : Incarnation) → RestsOn b w u a → ValueRestsOn (signs b g) t (b.holders t).history.incarnation u a
  signed_of itself n u a x = from_start (now-checkpointed n refl x)
  signed_of {w} {t} (via {u = v} q e) n u a x = brought-through (from_start (now-checkpointed n refl e)) u a (signed_of q (named-through t v n e) u a x)

  -- just after it
  pub signed-exactly : (t : ℕ) → named g t ≡ true → (u : ℕ) (a : Incarnation) → ValueRestsOn (signs b g) t (b.holders t).history.incarnation u a ↔ RestsInAll b t u a
  signed-exactly t n u a = (signed-to t u a, λ q. signed_of q.through n u a q.rests)

-- ---- at every later step

-- every step keeps what was noted
step-notes : {y : Layout} {p : Step} {b d : Provenance} → ProvenanceStep y b p d → (t : ℕ) (a : Incarnation) (u : ℕ) (c : Incarnation) → b.noted t a u c → d.noted t a u c
step-notes (refuses e) t a u c k = k
step-notes {p = p} {b = b} (applies e f) t a u c k = (notes b p t a u c).1 k
step-notes (signing e f q) t a u c k = before k
step-notes (not-ready e f q) t a u c k = k

module _ (l : Ledger) (b : Provenance) (r : Rel l b) where
  -- for a signed life a signing notes nothing more
  checkpointed-noted : (g t : ℕ) (n : Incarnation) (u : ℕ) (a : Incarnation) → CheckpointedNow b t n → NotedBy b g t n u a → b.noted t n u a
  checkpointed-noted g t n u a s (before k) = k
  checkpointed-noted g t n u a s (now-checkpointed i e x) = absurd (checkpointed-longer s.is (ap (λ (z : Incarnation). z.checkpoints) e))

  signed_back : (g t : ℕ) (n : Incarnation) → CheckpointedNow b t n → (u : ℕ) (a : Incarnation) → ValueRestsOn (signs b g) t n u a → ValueRestsOn b t n u a
  signed_back g t n s u a (from_start k) = from_start (checkpointed-noted g t n u a s k)
  signed_back g t n s u a (from-noted {t = w} {a = c} x k) =
      let q = signed_back g t n s w c x in
      from-noted q (checkpointed-noted g w c u a (value-checkpointed l b r t n w c q) k)
  signed_back g t n s u a (from_list {a = c} x e) = from_list (signed_back g t n s u c x) e

  step_back : {y : Layout} {p : Step} {d : Provenance} → ProvenanceStep y b p d → (t : ℕ) (n : Incarnation) → CheckpointedNow b t n → (u : ℕ) (a : Incarnation) → ValueRestsOn d t n u a → ValueRestsOn b t n u a
  step_back (refuses e) t n s u a x = x
  step_back {p = p} (applies e f) t n s u a x = brought-more (λ t a u c. (notes b p t a u c).0) (λ u a. (notes b p t n u a).0) u a x
  step_back {p = p} (signing e f q) t n s u a x = signed_back p.message t n s u a x
  step_back (not-ready e f q) t n s u a x = x

  -- What the text of a signed life rests on is the same after every step.
  pub step-exactly : {y : Layout} {d : Provenance} {p : Step} → ProvenanceStep y b p d → (t : ℕ) (n : Incarnation) → CheckpointedNow b t n → (u : ℕ) (a : Incarnation) → ValueRestsOn d t n u a ↔ ValueRestsOn b t n u a
  step-exactly step t n s u a = (step_back step t n s u a, brought-more (step-notes step) (λ u a. step-notes step t n u a) u a)

-- ---- any further steps

module _ {y : Layout} (z : Fitting y) {s : State} {b : Provenance} (formed : WellFormed y s) (r : Rel (view s) b) {p : Step} (ok : StepOk p) (zero : provenance_refusal y b p ≡ 0)
    (kind : p.kind ≡ sign) (same : Equal b p.message) (t : ℕ) (n : named p.message t ≡ true) where
  abbrev life : Incarnation
  life = (b.holders t).history.incarnation

  -- the book comes to d beside some state of the ledger
  record Later (d : Provenance) : Type 1 where
    beside : State
    well : WellFormed y beside
    rel : Rel (view beside) d
    noted : d.noted t life t life
    exactly : (u : ℕ) (a : Incarnation) → ValueRestsOn d t life u a ↔ RestsInAll b t u a

  live : Live (b.holders t).status
  live = named_live (view s) b r y p zero kind ok.message t n

  later : {d : Provenance} → ProvenanceFurther y (signs b p.message) d → Later d
  later no-further =
      let q = state-kept formed r p ok.message in
      record {
        beside = (step_of y s p).state;
        well = keeps z formed ok;
        rel = subst (λ (c : Provenance). Rel (view (step_of y s p).state) c) (provenance-determined q.step (signing zero kind same)) q.rel;
        noted = now-checkpointed n refl (from_start (in-state (own-has (view s) b r t live)));
        exactly = signed-exactly (view s) b r p.message same t n;
      }
  later (further {now} {after} o steps octets i next) = one (later o)
    where
      one : Later now → Later after
      one q =
          let fits = step_ok-at steps octets i in
          let m = state-kept q.well q.rel (step_at steps i) fits.message in
          let signed = checkpointed_now-of now (q.rel.noted.keys t life t life q.noted) in
          record {
            beside = (step_of y q.beside (step_at steps i)).state;
            well = keeps z q.well fits;
            rel = subst (λ (e : Provenance). Rel (view (step_of y q.beside (step_at steps i)).state) e) (provenance-determined m.step next) m.rel;
            noted = step-notes next t life t life q.noted;
            exactly = λ u a. let e = step-exactly (view q.beside) now q.rel next t life signed u a in (λ x. (q.exactly u a).0 (e.0 x), λ x. e.1 ((q.exactly u a).1 x));
          }

  -- After the signing and any further steps.
  pub fixed-further : {d : Provenance} → ProvenanceFurther y (signs b p.message) d → Fixed b d t
  fixed-further {d} o =
      let q = later o in
      record { exactly = q.exactly; checkpointed = λ u a x. value-checkpointed (view q.beside) d q.rel t life u a ((q.exactly u a).1 x) }

-- ---- at the points of a session

-- the book after one call more
fed-last : {y : Layout} {cs : List Call} {k : Call} {b d : Provenance} → ProvenanceOf y cs b → ProvenanceOf y (k ∷ cs) d → ProvenanceCall y b k d
fed-last f (new-provenance e) = elim f [ ]
fed-last {y} {k = k} {d = d} f (fed g q) = subst (λ (x : Provenance). ProvenanceCall y x k d) (provenance-unique g f) q

module _ {y : Layout} (z : Fitting y) where
  -- the rest of the step's own run
  rest-of-run : {img after list : List ℕ} {o : Octets list} {start end : ℕ} {lent replies : List ℕ} {r : ℕ} (τ : Trace y img) → Performed y img (run list o start end lent) (ran r replies) after
      → {c b e d : Provenance} {i : ℕ} → ProvenanceOf y (calls_of τ) c → r ≡ 0 → suc i ≤ steps_in (part start (end - start) list) → ProvenanceSteps y c (part start (end - start) list) i b
      → ProvenanceStep y b (step_at (part start (end - start) list) i) e → ProvenanceCall y c (run list o start end lent) d → ProvenanceFurther y e d
  rest-of-run τ q f zero n g step (provenance-refuses m) = absurd (m (sym (call-right z (held z τ f) q).refusal ∙ zero))
  rest-of-run {list = list} {o} {start} {end} τ q f zero n g step (provenance-runs m k) = further-steps (part start (end - start) list) (octets-part start (end - start) list o) (provenance.more g step) k n

  -- the end of the session is come to from every step since its last accepted begin
  pub since-further : {img : List ℕ} {τ : Trace y img} {s s' : State} {b : Provenance} {p : Step} {reply : List ℕ} (k : StepIn y img τ s b p reply s') → SinceBegin k
      → {c d : Provenance} → ProvenanceStep y b p c → ProvenanceOf y (calls_of τ) d → ProvenanceFurther y c d
  unfolding SinceBegin calls_of
  since-further (last-run {τ = τ} {p = q} i f e n g) since step h = rest-of-run τ q f e n g step (fed-last f h)
  since-further (earlier-run {τ = τ} k) since step h =
      let f = (grown z τ).fed in
      further-trans (since-further k since.1 step f) (further-call z τ f since.0 (fed-last f h))

  -- every point after the step is come to from it
  after-further : {img : List ℕ} {τ : Trace y img} {b : Provenance} {p : Step} {reply : List ℕ} {d : Provenance} → Afterwards y img τ b p reply d
      → {c : Provenance} → ProvenanceStep y b p c → ProvenanceFurther y c d
  after-further (in-that-run {list = list} {o} {start} {end} i j f e l n g h) step = further-steps (part start (end - start) list) (octets-part start (end - start) list o) (provenance.more g step) h l
  after-further (after_call k since h) step = since-further k since step h
  after-further (in-later-run {list = list} {o} {start} {end} k j since f e n h) step =
      further-trans (since-further k since step f) (further-steps (part start (end - start) list) (octets-part start (end - start) list o) provenance.none h (omega arith))
  after-further (and-more a) step = after-further a step

  -- the step is a step of the session
  pub after-step : {img : List ℕ} {τ : Trace y img} {b : Provenance} {p : Step} {reply : List ℕ} {d : Provenance} → Afterwards y img τ b p reply d
      → (s : State) × (s' : State) × StepIn y img τ s b p reply s'
  after-step (in-that-run {list = list} {o} {start} {end} i j f e l n g h) = let m : i < steps_in (part start (end - start) list) = omega (arith, l, n) in (_, _, last-run i f e m g)
  after-step (after_call k since h) = (_, _, k)
  after-step (in-later-run k j since f e n h) = (_, _, earlier-run k)
  after-step (and-more a) = let k = after-step a in (_, _, earlier-run k.2)

  -- and the point a point of it
  pub after-point : {img : List ℕ} {τ : Trace y img} {b : Provenance} {p : Step} {reply : List ℕ} {d : Provenance} → Afterwards y img τ b p reply d → (s : State) × Point y img τ s d
  after-point (in-that-run i j f e l n g h) = (_, at-step (last-run j f e n h))
  after-point (after_call k since h) = (_, at-end h)
  after-point (in-later-run k j since f e n h) = (_, at-step (last-run j f e n h))
  after-point (and-more a) = let k = after-point a in (_, earlier k.1)

  -- The book just after the step is among those that are spoken of.
  pub after_next : {img : List ℕ} {τ : Trace y img} {s s' : State} {b : Provenance} {p : Step} {reply : List ℕ} → StepIn y img τ s b p reply s'
      → (c : Provenance) × ProvenanceStep y b p c × Afterwards y img τ b p reply c
  unfolding SinceBegin calls_of
  after_next (last-run {img = img} {after} {list} {o} {start} {end} {lent} {replies} {r} {τ} {p = q} {b} {d} i f e n g) =
      let t = beside-steps z (held z τ f) steps octets i g in
      let k = state-kept t.well t.rel (step_at steps i) (step_ok-at steps octets i).message in
      (k.after, k.step, go k.after (provenance.more g k.step) (ℕ_discrete (suc i) (steps_in steps)))
    where
      steps : List ℕ
      steps = part start (end - start) list

      octets : Octets steps
      octets = octets-part start (end - start) list o

      refusal : call_refusal y b (run list o start end lent) ≡ 0
      refusal = sym (call-right z (held z τ f) q).refusal ∙ e

      go : (c : Provenance) → ProvenanceSteps y b steps (suc i) c → Dec (suc i ≡ steps_in steps) → Afterwards y after (called τ (run list o start end lent) (ran r replies) q) d (step_at steps i) (part (step_bytes * i) step_bytes replies) c
      go c h (yes m) = after_call (last-run i f e n g) tt (fed f (provenance-runs refusal (subst (λ (j : ℕ). ProvenanceSteps y b steps j c) m h)))
      go c h (no m) = let l : suc i < steps_in steps = omega (arith, n) in in-that-run i (suc i) f e (omega arith) l g h
  after_next (earlier-run k) = let a = after_next k in (_, a.1, and-more a.2)

  -- What a signed text rests on is fixed at its signing.
  pub fixed : {img : List ℕ} {τ : Trace y img} {b : Provenance} {p : Step} {reply : List ℕ} {d : Provenance} → Afterwards y img τ b p reply d
      → p.kind ≡ sign → reply ≡ replied done → (t : ℕ) → named p.message t ≡ true → Fixed b d t
  fixed {b = b} {p} {reply} a kind zero t n =
      let k = (after-step a).2 in
      let taken = step-taken z k in
      let low : outcome_in reply ≤ not_ready = subst (λ (x : List ℕ). outcome_in x ≤ not_ready) (sym zero) (omega (arith, first-pack_reply (answer 0 0 0 0) (omega arith))) in
      let accepted : provenance_refusal y b p ≡ 0 = (step-refused y z k).0.0 low in
      let same = (signs-exactly y z k accepted kind).0.0 zero in
      fixed-further z taken.beside.well taken.beside.rel taken.ok accepted kind same t n (after-further a (signing accepted kind same))

-- At the ledger's own layout: no hypothesis but the session.
pub fixed-base : {img : List ℕ} {τ : Trace base img} {b : Provenance} {p : Step} {reply : List ℕ} {d : Provenance} → Afterwards base img τ b p reply d
    → p.kind ≡ sign → reply ≡ replied done → (t : ℕ) → named p.message t ≡ true → Fixed b d t
fixed-base = fixed fitting-base
