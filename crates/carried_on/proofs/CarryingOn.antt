-- A closed hearing carried on: a session of the old form is one of the new form without the steps that it refused with 28, call by call and step by step.
use Prim.Native.Nat.{ℕ, zero, suc, ◌-◌, ◌*◌, ◌/◌, ◌≤◌, ◌<◌}
use mathlib.Core.Bool.{true}
use mathlib.Core.Path.{◌≡◌, refl, ap, sym, ◌∙◌, subst}
use mathlib.Core.List.{List}
use native.Mathlib.Decide.{ℕ_discrete}
use native.Mathlib.Omega.{arith}
use lib.ListN.{length}
use borrow.Author.Tests.{eq-eqb, ne_eqb}
use Rattle.octets.specs.Bytes.{part, zeros, Octets}
use Rattle.octets.specs.Numbers.{bound}
use Rattle.octets.proofs.Put.{length_part, part-whole, octets-part}
use Rattle.octets.proofs.Zero.{length-zeros}
use Rattle.rules.specs.Layout.{Limits, in_range, widest, largest, image_bytes, narrow, base}
use Rattle.rules.specs.State.{State, fresh}
use Rattle.rules.specs.declared.Step.{Step}
use Rattle.rules.specs.declared.Reply.{Reply}
use Rattle.rules.specs.Step.{step_bytes, step_at, unpack_step}
use Rattle.rules.specs.Rules.{step_of}
use Rattle.rules.specs.Pack.{pack, unpack}
use Rattle.rules.specs.Internal.Well.{WellFormed}
use Rattle.rules.specs.Calls.{begin_answer, fresh_image, begin_image, state_after, steps_in, run_answer, ran_image, run_image}
use Rattle.rules.proofs.Calls.Begin as begin
use Rattle.rules.proofs.Calls.Begin.{begin-accepted}
use Rattle.rules.proofs.Calls.Run.{part-fine}
use Rattle.rules.proofs.Pack.RoundTrip.{unpack-pack}
use Rattle.rules.proofs.Pack.Fresh.{pack-fresh}
use Rattle.rules.proofs.Keep.State.{well-fresh}
use Rattle.rules.proofs.Keep.Run.{step_ok-at}
use Rattle.rules.proofs.Keep.Step.{fitting-narrow}
use Rattle.convert.specs.Convert.{forward, forward_answer, forward_image}
use Rattle.convert.proofs.Images.{narrow-limits, formed-wide}
use Rattle.convert.proofs.Steps.{same-refusal_of, same_step}
use Rattle.session.specs.Provenance.{Provenance, empty_provenance}
use Rattle.session.specs.Steps.{provenance_seen, provenance_refusal, ProvenanceStep, refuses, applies, signing, not-ready}
use Rattle.session.specs.Fed as book
use Rattle.session.specs.Fed.{Call, run, call_refusal, ProvenanceSteps, ProvenanceCall, provenance-refuses, provenance-begins, provenance-runs, provenance-offers, provenance-shows, ProvenanceOf, new-provenance, fed}
use Rattle.session.specs.Trace.{Answer, Performed, beginning, running, offering, showing, Trace, opened, called, calls_of}
use Rattle.session.proofs.Model.{view}
use Rattle.session.proofs.Relation.{Rel}
use Rattle.session.proofs.Unique.{provenance-unique}
use Rattle.session.proofs.Step.{StepRight, step_right}
use Rattle.session.proofs.Calls.{Holds, holds-pack, right-length, right-form, run-same, call-right}
use Rattle.session.proofs.Points.{beside-steps}
use Rattle.session.proofs.Traces.{fresh-begins}
use Rattle.session.proofs.Grown.{grown}
use Rattle.session.proofs.Demand3.{demand3-base}
use Rattle.carried_on.specs.CarriedOn.{CarriedOn}

-- ---- a session of the new form that leaves img, with the book b

record Reached (img : List ℕ) (b : Provenance) : Type 1 where
  session : Trace base img
  fed : ProvenanceOf base (calls_of session) b

more : largest narrow ≤ largest base
unfolding bound
more = omega arith

-- ---- one step of the book

-- a step that the old form does not refuse with 28 is the same in the new one
step-wide : {b d : Provenance} {p : Step} → (provenance_refusal narrow b p ≡ 28 → ⊥) → ProvenanceStep narrow b p d → ProvenanceStep base b p d
unfolding provenance_refusal
step-wide {b} {d} {p} n k = go k
  where
    same : provenance_refusal base b p ≡ provenance_refusal narrow b p
    same = same-refusal_of narrow 2 true more (provenance_seen b) p n

    go : {d : Provenance} → ProvenanceStep narrow b p d → ProvenanceStep base b p d
    go (refuses f) = refuses (λ e. f (sym same ∙ e))
    go (applies e f) = applies (same ∙ e) f
    go (signing e i f) = signing (same ∙ e) i f
    go (not-ready e i f) = not-ready (same ∙ e) i f

-- ---- one step of the ledger

module _ {s : State} (well : WellFormed narrow s) {b : Provenance} (r : Rel (view s) b) (steps : List ℕ) (octets : Octets steps) (i : ℕ) (low : i < steps_in steps) where
  abbrev p : Step
  p = step_at steps i

  right : StepRight narrow s b p (step_right fitting-narrow well r (step_ok-at steps octets i)).after
  right = (step_right fitting-narrow well r (step_ok-at steps octets i)).right

  no-28 : (provenance_refusal narrow b p ≡ 28 → ⊥) → (step_of narrow s p).reply.outcome ≡ 28 → ⊥
  no-28 n e = go (ℕ_discrete (provenance_refusal narrow b p) 0)
    where
      go : Dec (provenance_refusal narrow b p ≡ 0) → ⊥
      go (yes q) = omega (arith, right.accepted q, e)
      go (no f) = n (sym (ap (λ (x : Reply). x.outcome) (right.refused f).0) ∙ e)

  -- its eight bytes by themselves
  abbrev bytes : List ℕ
  bytes = part (step_bytes * i) step_bytes steps

  bytes-octets : Octets bytes
  bytes-octets = octets-part (step_bytes * i) step_bytes steps octets

  long : length bytes ≡ step_bytes
  long = length_part (step_bytes * i) step_bytes steps (omega (arith, low))

  whole : part 0 (step_bytes - 0) bytes ≡ bytes
  whole = part-whole step_bytes bytes long

  one-step : steps_in bytes ≡ 1
  one-step = ap (λ (n : ℕ). n / step_bytes) long

  same_bytes : step_at bytes 0 ≡ p
  unfolding step_at
  same_bytes = ap unpack_step (part-whole step_bytes bytes long)

  abbrev the-run : Call
  the-run = run bytes bytes-octets 0 step_bytes (zeros step_bytes)

  there : Holds base (pack base s) b
  there = holds-pack (formed-wide well) r

  accepted : call_refusal base b the-run ≡ 0
  accepted = rw (part-fine bytes 0 step_bytes (omega arith) (omega (arith, long)) refl (omega arith), eq-eqb (length (zeros step_bytes)) (step_bytes - 0) (length-zeros step_bytes))

  answered : run_answer base (pack base s) bytes 0 step_bytes (zeros step_bytes) ≡ 0
  answered = run-same there bytes bytes-octets 0 step_bytes (zeros step_bytes) ∙ accepted

  after_is : (provenance_refusal narrow b p ≡ 28 → ⊥) → run_image base (pack base s) bytes 0 step_bytes (zeros step_bytes) ≡ pack base (step_of narrow s p).state
  unfolding run_image ran_image state_after
  after_is n =
      let back : unpack base (pack base s) ≡ s = unpack-pack base s (formed-wide well).packable in
      let one : state_after base s bytes 1 ≡ (step_of narrow s p).state = ap (λ (q : Step). (step_of base s q).state) same_bytes ∙ ap (λ x. x.state) (same_step narrow 2 true more s p (no-28 n)) in
      rw (eq-eqb (run_answer base (pack base s) bytes 0 step_bytes (zeros step_bytes)) 0 answered, whole, one-step, back) (ap (pack base) one)

  fed-one : {d : Provenance} → ProvenanceStep base b p d → ProvenanceCall base b the-run d
  fed-one {d} k = provenance-runs {c = d} accepted (rw (whole, one-step) (book.more book.none (subst (λ (q : Step). ProvenanceStep base b q d) (sym same_bytes) k)))

  -- the old session's next step
  step-on : {d : Provenance} → ProvenanceStep narrow b p d → Reached (pack base s) b → Reached (pack base (step_of narrow s p).state) d
  unfolding calls_of
  step-on {d} k t = go (ℕ_discrete (provenance_refusal narrow b p) 28)
    where
      skipped : {d : Provenance} → (provenance_refusal narrow b p ≡ 0 → ⊥) → ProvenanceStep narrow b p d → b ≡ d
      skipped n (refuses f) = refl
      skipped n (applies e f) = absurd (n e)
      skipped n (signing e i f) = absurd (n e)
      skipped n (not-ready e i f) = absurd (n e)

      go : Dec (provenance_refusal narrow b p ≡ 28) → Reached (pack base (step_of narrow s p).state) d
      go (yes e) =
          let n : provenance_refusal narrow b p ≡ 0 → ⊥ = λ q. (let f : ◌≡◌ {A = ℕ} 28 0 = sym e ∙ q in omega arith) in
          subst (λ (x : State). Reached (pack base x) d) (sym (right.refused n).1) (subst (Reached (pack base s)) (skipped n k) t)
      go (no n) = subst (λ (x : List ℕ). Reached x d) (after_is n) (record {
        session = called t.session the-run _ (running (refl, refl, refl));
        fed = fed t.fed (fed-one (step-wide n k));
      })

-- the first i steps of an accepted run
steps_on : {img : List ℕ} {b d : Provenance} → Holds narrow img b → (steps : List ℕ) → Octets steps → (i : ℕ) → i ≤ steps_in steps → ProvenanceSteps narrow b steps i d
    → Reached (forward img) b → Reached (pack base (state_after narrow (unpack narrow img) steps i)) d
unfolding state_after forward
steps_on h steps octets zero l book.none t = t
steps_on {img} {b} {d} h steps octets (suc i) l (book.more {c = c} q k) t =
    let a = beside-steps fitting-narrow h steps octets i q in
    step-on a.well a.rel steps octets i (omega (arith, l)) k (steps_on h steps octets i (omega (arith, l)) q t)

-- ---- one call

widest-range : in_range base (widest base) ≡ true
unfolding in_range
widest-range = refl

-- an accepted begin
begin-on : (m : Limits) → in_range narrow m ≡ true → Reached (forward (fresh_image narrow m)) (empty_provenance m)
unfolding calls_of forward fresh
begin-on m e =
    let w = well-fresh fitting-narrow m e in
    let is : m ≡ widest base = narrow-limits w in
    let range : in_range base m ≡ true = subst (λ (x : Limits). in_range base x ≡ true) (sym is) widest-range in
    let back : unpack narrow (fresh_image narrow m) ≡ fresh narrow m = ap (unpack narrow) (pack-fresh narrow m) ∙ unpack-pack narrow (fresh narrow m) w.packable in
    let z = zeros (image_bytes base) in
    let begun : begin_image base m z ≡ pack base (fresh base m) = (begin-accepted base z m (fresh-begins base m range)).1 ∙ pack-fresh base m in
    subst (λ (x : List ℕ). Reached x (empty_provenance m)) (begun ∙ ap (pack base) (sym back)) (record { session = opened m z (fresh-begins base m range); fed = new-provenance range })

module _ {img : List ℕ} {b : Provenance} (h : Holds narrow img b) (t : Reached (forward img) b) where
  call-on : {c : Call} {a : Answer} {after : List ℕ} {d : Provenance} → Performed narrow img c a after → ProvenanceCall narrow b c d → Reached (forward after) d
  unfolding begin_image run_image ran_image forward
  call-on {after = after} (beginning {m} e) (provenance-refuses n) =
      let f : begin_answer narrow m img ≡ 0 → ⊥ = λ q. n (sym (call-right fitting-narrow h (beginning {m = m} e)).refusal ∙ e.0 ∙ q) in
      subst (λ (x : List ℕ). Reached (forward x) b) (sym (e.1 ∙ rw (ne_eqb (begin_answer narrow m img) 0 f))) t
  call-on (beginning {m} e) (provenance-begins q) =
      let a = begin-accepted narrow img m (sym e.0 ∙ (call-right fitting-narrow h (beginning {m = m} e)).refusal ∙ q) in
      subst (λ (x : List ℕ). Reached (forward x) (empty_provenance m)) (sym (e.1 ∙ a.1)) (begin-on m a.0)
  call-on (running {list} {o} {start} {end} {lent} e) (provenance-refuses n) =
      let f : run_answer narrow img list start end lent ≡ 0 → ⊥ = λ q. n (sym (run-same h list o start end lent) ∙ q) in
      subst (λ (x : List ℕ). Reached (forward x) b) (sym (e.1 ∙ rw (ne_eqb (run_answer narrow img list start end lent) 0 f))) t
  call-on {d = d} (running {list} {o} {start} {end} {lent} {after = after} e) (provenance-runs q f) =
      let steps : List ℕ = part start (end - start) list in
      let octets : Octets steps = octets-part start (end - start) list o in
      let s : State = state_after narrow (unpack narrow img) steps (steps_in steps) in
      let is : after ≡ pack narrow s = e.1 ∙ rw (eq-eqb (run_answer narrow img list start end lent) 0 (run-same h list o start end lent ∙ q)) in
      let w = (beside-steps fitting-narrow h steps octets (steps_in steps) f).well in
      let back : unpack narrow after ≡ s = ap (unpack narrow) is ∙ unpack-pack narrow s w.packable in
      subst (λ (x : State). Reached (pack base x) d) (sym back) (steps_on h steps octets (steps_in steps) (omega arith) f t)
  call-on (offering e) (provenance-refuses n) = t
  call-on (offering e) (provenance-offers q) = t
  call-on (showing e) (provenance-refuses n) = t
  call-on (showing e) (provenance-shows q) = t

-- ---- the whole

reached : {old : List ℕ} (τ : Trace narrow old) → (b : Provenance) × ProvenanceOf narrow (calls_of τ) b × Holds narrow old b × Reached (forward old) b
unfolding calls_of
reached (opened m img e) =
    let a = begin-accepted narrow img m e in
    let σ : Trace narrow (begin_image narrow m img) = opened m img e in
    let g = grown fitting-narrow σ in
    let same : empty_provenance m ≡ g.provenance = provenance-unique (new-provenance a.0) g.fed in
    (g.provenance, g.fed, g.holds, subst (λ (x : List ℕ). Reached (forward x) g.provenance) (sym a.1) (subst (Reached (forward (fresh_image narrow m))) same (begin-on m a.0)))
reached (called τ c a q) =
    let g = reached τ in
    let k = call-right fitting-narrow g.2 q in
    (k.provenance, fed g.1 k.fed, k.holds, call-on g.2 g.3 q k.fed)

-- the call that carries it forward is not refused
forwarded : {old : List ℕ} {b : Provenance} → Holds narrow old b → (new : List ℕ) → length new ≡ image_bytes base → (forward_answer old new ≡ 0) × (forward_image old new ≡ forward old)
unfolding forward_answer forward_image
forwarded {old} h new long =
    let e : forward_answer old new ≡ 0 = rw (right-length h, begin.right-length base new long, right-form h) in
    (e, rw (eq-eqb (forward_answer old new) 0 e))

pub carried_on : {old : List ℕ} (τ : Trace narrow old) → CarriedOn old τ
carried_on {old} τ =
    let g = reached τ in
    record {
      accepted = forwarded g.2;
      session = g.3.session;
      book = λ f. subst (ProvenanceOf base (calls_of g.3.session)) (provenance-unique g.1 f) g.3.fed;
      demand3 = λ k. demand3-base _;
    }
