-- Demand 3 of document 01, over every list of calls: each of its claims by itself, then the whole (specs/Demand3).
use Prim.Native.Nat.{ℕ, suc, ◌-◌, ◌*◌, ◌≤◌, ◌<◌}
use mathlib.Core.Path.{◌≡◌, refl, ap, sym, ◌∙◌, subst}
use mathlib.Core.List.{List, [], ◌∷◌, ◌++◌}
use mathlib.Core.Logic.{◌↔◌}
use native.Mathlib.Decide.{ℕ_discrete}
use native.Mathlib.Omega.{arith}
use lib.ListN.{length, get_or, drop}
use borrow.Author.Tests.{eq-eqb}
use Rattle.octets.specs.Bytes.{part, Octets}
use Rattle.octets.proofs.Put.{octets-part}
use Rattle.rules.specs.Layout.{Layout, Fitting, base}
use Rattle.rules.specs.State.{State}
use Rattle.rules.specs.declared.Step.{Step}
use Rattle.rules.specs.Step.{step_bytes, step_at, pack_reply, sign, done, not_ready}
use Rattle.rules.specs.Rules.{answer, step_of, checkpoint_group}
use Rattle.rules.specs.Pack.{pack, unpack}
use Rattle.rules.specs.Calls.{state_after, steps_in, run_answer, ran_image, run_image}
use Rattle.rules.proofs.Keep.Accepted.{refusal-range}
use Rattle.rules.proofs.Pack.RoundTrip.{unpack-pack}
use Rattle.rules.proofs.Keep.Run.{step_ok-at}
use Rattle.rules.proofs.Keep.Step.{keeps-after, fitting-base}
use Rattle.session.specs.Provenance.{Provenance}
use Rattle.session.specs.Grounds.{Equal, Sound}
use Rattle.session.specs.Steps.{provenance_seen, provenance_refusal, ProvenanceStep}
use Rattle.session.specs.Fed as provenance
use Rattle.session.specs.Fed.{Call, run, call_refusal, ProvenanceSteps, provenance-runs, ProvenanceOf, fed}
use Rattle.session.specs.Trace.{Answer, ran, refusal_in, Performed, running, Trace, opened, called, calls_of, Matches, Started, Traced}
use Rattle.session.specs.Point.{CallIn, last-call, earlier-call, StepIn, last-run, earlier-run, Point, at-end, at-step, earlier, replied, outcome_in}
use Rattle.session.specs.Demand3.{Demand3}
use Rattle.session.proofs.Model.{view}
use Rattle.session.proofs.Sign.{rel-sound}
use Rattle.session.proofs.Unique.{provenance-unique}
use Rattle.session.proofs.Step.{SigningRight, checkpointed, uncheckpointed, Stepped, step_right, matches-rel}
use Rattle.session.proofs.ViewStep.{state-kept}
use Rattle.session.proofs.Run.{first-pack_reply, run-right}
use Rattle.session.proofs.Calls.{call-right}
use Rattle.session.proofs.Points.{Taken, held, beside-steps, point-beside, step-taken}
use Rattle.session.proofs.Grown.{grown}
use Rattle.session.proofs.Traces.{every-list-base}

-- ---- lists of calls

first-of : {c d : Call} {cs ds : List Call} → c ∷ cs ≡ d ∷ ds → c ≡ d
first-of {c} {d} e = ap (λ (l : List Call). get_or l 0 c) e

rest_of : {c d : Call} {cs ds : List Call} → c ∷ cs ≡ d ∷ ds → cs ≡ ds
rest_of e = ap (λ (l : List Call). drop 1 l) e

one-alone : {c : Call} (d k : Call) (rest later : List Call) → c ∷ [] ≡ later ++ (d ∷ k ∷ rest) → ⊥
one-alone d k rest [] e = let n : ◌≡◌ {A = ℕ} 1 _ = ap length e in omega (arith, n)
one-alone d k rest (x ∷ later) e = some later (rest_of e)
  where
    some : (later : List Call) → [] ≡ later ++ (d ∷ k ∷ rest) → ⊥
    some [] e = let n : ◌≡◌ {A = ℕ} 0 _ = ap length e in omega (arith, n)
    some (x ∷ later) e = let n : ◌≡◌ {A = ℕ} 0 _ = ap length e in omega (arith, n)

-- ---- steps

-- two such replies with different outcomes differ
replied-apart : (n m : ℕ) → n < 256 → m < 256 → replied n ≡ replied m → n ≡ m
replied-apart n m h k e = sym (first-pack_reply (answer n 0 0 0) h) ∙ ap (λ (l : List ℕ). get_or l 0 0) e ∙ first-pack_reply (answer m 0 0 0) k

-- a step that is taken, as step_right has it
module _ {y : Layout} (z : Fitting y) {s s' : State} {b : Provenance} {p : Step} {reply : List ℕ} (k : Taken y s b p reply s') where
  stepped : Stepped y s b p
  stepped = step_right z k.beside.well k.beside.rel k.ok

  refused-taken : (provenance_refusal y b p ≡ 0 → ⊥) → (reply ≡ replied (provenance_refusal y b p)) × (s' ≡ s)
  refused-taken n = let e = stepped.right.refused n in (k.given ∙ ap pack_reply e.0, k.after ∙ e.1)

  exactly-taken : (outcome_in reply ≤ not_ready) ↔ (provenance_refusal y b p ≡ 0)
  unfolding provenance_refusal
  exactly-taken = (λ h. to h (ℕ_discrete (provenance_refusal y b p) 0), of)
    where
      to : outcome_in reply ≤ not_ready → Dec (provenance_refusal y b p ≡ 0) → provenance_refusal y b p ≡ 0
      to h (yes e) = e
      to h (no n) =
          let i = refusal-range y (provenance_seen b) p n in
          let e : outcome_in reply ≡ provenance_refusal y b p = ap (λ (l : List ℕ). get_or l 0 0) (refused-taken n).0 ∙ first-pack_reply (answer (provenance_refusal y b p) 0 0 0) (omega (arith, i.high)) in
          absurd (omega (arith, i.low, e, h))

      of : provenance_refusal y b p ≡ 0 → outcome_in reply ≤ not_ready
      of e =
          let h : (step_of y s p).reply.outcome ≤ not_ready = stepped.right.accepted e in
          let q : outcome_in reply ≡ (step_of y s p).reply.outcome = ap (λ (l : List ℕ). get_or l 0 0) k.given ∙ first-pack_reply (step_of y s p).reply (omega (arith, h)) in
          omega (arith, h, q)

  -- the four facts of a signing
  abbrev Signing : Type 0
  Signing =
      ((reply ≡ replied done) ↔ Equal b p.message)
      × ((reply ≡ replied not_ready) ↔ (Equal b p.message → ⊥))
      × (Equal b p.message → s' ≡ checkpoint_group y s p.message)
      × ((Equal b p.message → ⊥) → s' ≡ s)

  signs_taken : provenance_refusal y b p ≡ 0 → p.kind ≡ sign → Signing
  signs_taken e i = go (stepped.right.signing e i)
    where
      go : SigningRight y s b p → Signing
      go (checkpointed q r t) =
          let g : reply ≡ replied done = k.given ∙ ap pack_reply r in
          let h : reply ≡ replied not_ready → ⊥ = λ f. (let n : ◌≡◌ {A = ℕ} 0 5 = replied-apart 0 5 (omega arith) (omega arith) (sym g ∙ f) in omega arith) in
          ((λ x. q, λ x. g), (λ x. absurd (h x), λ n. absurd (n q)), λ x. k.after ∙ t, λ n. absurd (n q))
      go (uncheckpointed q r t) =
          let g : reply ≡ replied not_ready = k.given ∙ ap pack_reply r in
          let h : reply ≡ replied done → ⊥ = λ f. (let n : ◌≡◌ {A = ℕ} 5 0 = replied-apart 5 0 (omega arith) (omega arith) (sym g ∙ f) in omega arith) in
          ((λ x. absurd (h x), λ x. absurd (q x)), (λ x. q, λ n. g), λ x. absurd (q x), λ n. k.after ∙ t)

-- ---- the claims, one by one: for every layout whose counts fit their fields, every session and every limits that it is begun with

module _ (y : Layout) (z : Fitting y) where
  -- a call is refused exactly where the book refuses it
  pub call-refused : {img : List ℕ} {τ : Trace y img} {b : Provenance} {c : Call} {a : Answer} → CallIn y img τ b c a → refusal_in a ≡ call_refusal y b c
  call-refused (last-call {τ = τ} {p = p} f) = (call-right z (held z τ f) p).refusal
  call-refused (earlier-call k) = call-refused k

  -- a step is refused exactly where the book refuses it
  pub step-refused : {img : List ℕ} {τ : Trace y img} {s s' : State} {b : Provenance} {p : Step} {reply : List ℕ} → StepIn y img τ s b p reply s'
      → ((outcome_in reply ≤ not_ready) ↔ (provenance_refusal y b p ≡ 0))
      × ((provenance_refusal y b p ≡ 0 → ⊥) → (reply ≡ replied (provenance_refusal y b p)) × (s' ≡ s))
  step-refused k = let t = step-taken z k in (exactly-taken z t, refused-taken z t)

  -- a signing that is not refused signs its volume, reply 0, exactly when the two sets are equal; otherwise its reply is 5
  pub signs-exactly : {img : List ℕ} {τ : Trace y img} {s s' : State} {b : Provenance} {p : Step} {reply : List ℕ} → StepIn y img τ s b p reply s'
      → provenance_refusal y b p ≡ 0 → p.kind ≡ sign
      → ((reply ≡ replied done) ↔ Equal b p.message)
      × ((reply ≡ replied not_ready) ↔ (Equal b p.message → ⊥))
      × (Equal b p.message → s' ≡ checkpoint_group y s p.message)
      × ((Equal b p.message → ⊥) → s' ≡ s)
  signs-exactly k = signs_taken z (step-taken z k)

  -- live takes and their own marks are the book's
  pub transactors-match : {img : List ℕ} {τ : Trace y img} {s : State} {b : Provenance} → Point y img τ s b → Matches s b
  transactors-match k = let h = point-beside z k in matches-rel h.well h.rel

  -- no signed text rests on a withdrawn life
  pub never-withdrawn : {img : List ℕ} {τ : Trace y img} {s : State} {b : Provenance} → Point y img τ s b → Sound b
  never-withdrawn {s = s} {b = b} k = rel-sound (view s) b (point-beside z k).rel

  -- every call after the opening begin is among those that are spoken of
  pub every_call : {img : List ℕ} (τ : Trace y img) (later rest : List Call) (c k : Call) → calls_of τ ≡ later ++ (c ∷ k ∷ rest)
      → (b : Provenance) × (a : Answer) × ProvenanceOf y (k ∷ rest) b × CallIn y img τ b c a
  unfolding calls_of
  every_call (opened m img e) later rest c k q = absurd (one-alone c k rest later q)
  every_call (called {img} {after} τ d a p) [] rest c k q =
      let g = grown z τ in
      let e : d ≡ c = first-of q in
      (g.provenance, a, subst (λ (cs : List Call). ProvenanceOf y cs g.provenance) (rest_of q) g.fed, subst (λ (x : Call). CallIn y after (called τ d a p) g.provenance x a) e (last-call g.fed))
  every_call (called τ d a p) (x ∷ later) rest c k q = let n = every_call τ later rest c k (rest_of q) in (n.0, n.1, n.2, earlier-call n.3)

  -- every step of every accepted run is among those that are spoken of
  pub every-step : {img : List ℕ} {τ : Trace y img} {b : Provenance} {list : List ℕ} {o : Octets list} {start end : ℕ} {lent replies : List ℕ}
      → CallIn y img τ b (run list o start end lent) (ran 0 replies) → (i : ℕ) → i < steps_in (part start (end - start) list)
      → (s : State) × (s' : State) × (d : Provenance) × StepIn y img τ s d (step_at (part start (end - start) list) i) (part (step_bytes * i) step_bytes replies) s'
  every-step {list = list} {o = o} {start = start} {end = end} (last-call {τ = τ} f) i n =
      let h = held z τ f in
      let r = run-right z h.well h.rel (part start (end - start) list) (octets-part start (end - start) list o) i in
      (_, _, _, last-run i f refl n r.fed)
  every-step (earlier-call k) i n = let t = every-step k i n in (_, _, _, earlier-run t.3)

  -- and stands at a point, so that what is said of points is said in the middle of runs
  pub step-point : {img : List ℕ} {τ : Trace y img} {s s' : State} {b : Provenance} {p : Step} {reply : List ℕ} → StepIn y img τ s b p reply s' → Point y img τ s b
  step-point = at-step

  -- After the first i steps of an accepted run, all of them included, there is a point: after the last step is after the run.
  pub in-run : {img after list : List ℕ} {o : Octets list} {start end : ℕ} {lent replies : List ℕ} {r : ℕ} {τ : Trace y img}
      {p : Performed y img (run list o start end lent) (ran r replies) after} {b d : Provenance} (i : ℕ)
      → ProvenanceOf y (calls_of τ) b → r ≡ 0 → i ≤ steps_in (part start (end - start) list) → ProvenanceSteps y b (part start (end - start) list) i d
      → Point y after (called τ (run list o start end lent) (ran r replies) p) (state_after y (unpack y img) (part start (end - start) list) i) d
  unfolding calls_of run_image ran_image
  in-run {img} {after} {list} {o} {start} {end} {lent} {replies} {r} {τ} {p} {b} {d} i f e n g = go (ℕ_discrete i (steps_in steps)) p
    where
      steps : List ℕ
      steps = part start (end - start) list

      go : Dec (i ≡ steps_in steps) → (q : Performed y img (run list o start end lent) (ran r replies) after)
          → Point y after (called τ (run list o start end lent) (ran r replies) q) (state_after y (unpack y img) steps i) d
      go (no m) q = let h : i < steps_in steps = omega (arith, n) in at-step (last-run i f e h g)
      go (yes m) (running {after = after} k) =
          let zero : run_answer y img list start end lent ≡ 0 = sym k.0 ∙ e in
          let same : after ≡ pack y (state_after y (unpack y img) steps (steps_in steps)) = k.1 ∙ rw (eq-eqb (run_answer y img list start end lent) 0 zero) in
          let h = held z τ f in
          let back : unpack y after ≡ state_after y (unpack y img) steps (steps_in steps) =
          ap (unpack y) same ∙ unpack-pack y (state_after y (unpack y img) steps (steps_in steps)) (keeps-after z h.well steps (octets-part start (end - start) list o) (steps_in steps)).packable in
          let refusal : call_refusal y b (run list o start end lent) ≡ 0 = sym (call-right z h (running {o = o} k)).refusal ∙ e in
          let fed-all : ProvenanceOf y (run list o start end lent ∷ calls_of τ) d = fed f (provenance-runs refusal (subst (λ (j : ℕ). ProvenanceSteps y b steps j d) m g)) in
          subst (λ (s : State). Point y after (called τ (run list o start end lent) (ran r replies) (running k)) s d) (back ∙ ap (state_after y (unpack y img) steps) (sym m)) (at-end fed-all)

  -- So there is one just after every step.
  pub next-point : {img : List ℕ} {τ : Trace y img} {s s' : State} {b : Provenance} {p : Step} {reply : List ℕ} → StepIn y img τ s b p reply s'
      → (c : Provenance) × Point y img τ s' c × ProvenanceStep y b p c
  next-point (last-run {list = list} {o = o} {start = start} {end = end} {τ = τ} i f e n g) =
      let steps : List ℕ = part start (end - start) list in
      let octets : Octets steps = octets-part start (end - start) list o in
      let t = beside-steps z (held z τ f) steps octets i g in
      let q = state-kept t.well t.rel (step_at steps i) (step_ok-at steps octets i).message in
      (q.after, in-run (suc i) f e n (provenance.more g q.step), q.step)
  next-point (earlier-run k) = let n = next-point k in (n.0, earlier n.1, n.2)

  -- ---- the whole

  pub demand3 : {img : List ℕ} (τ : Trace y img) → Demand3 y img τ
  demand3 τ =
      let g = grown z τ in
      record {
        book = (g.provenance, g.fed, λ c f. provenance-unique f g.fed);
        call-refused = call-refused;
        step-refused = step-refused;
        signs-exactly = signs-exactly;
        transactors-match = transactors-match;
        never-withdrawn = never-withdrawn;
        every_call = every_call τ;
        every-step = every-step;
      }

-- The same at the ledger's own layout: no hypothesis but the trace.
pub demand3-base : {img : List ℕ} (τ : Trace base img) → Demand3 base img τ
demand3-base = demand3 base fitting-base

-- "For every list of calls .. from an accepted begin on": it has a session, and demand 3 holds of it, as of every other that it has.
pub demand3-list : {cs : List Call} → Started base cs → (k : Traced base cs) × Demand3 base k.image k.trace
demand3-list started = let k = every-list-base started in (k, demand3-base k.trace)
