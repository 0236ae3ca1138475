-- What offer and the queries answer after the calls of a session: refused exactly where the book refuses, and what the answer means in it (specs/Queries).
use Prim.Native.Nat.{ℕ, zero, suc, ◌≤◌, ◌<◌}
use mathlib.Core.Bool.{true, false, not, false≢true}
use mathlib.Core.Path.{◌≡◌, refl, ap, sym, ◌∙◌, subst}
use mathlib.Core.List.{List, [], ◌∷◌, Memᴰ}
use mathlib.Core.Logic.{⊎_elim}
use mathlib.Core.Option.{Option}
use native.Mathlib.Omega.{arith}
use lib.Dec.{eqb, leb}
use lib.ListN.{length, get_or}
use borrow.Author.Tests.{eq-eqb, ne_eqb, eqb-true, lt-leb, leb-true, not-false}
use Rattle.octets.specs.Bytes.{◌and◌}
use Rattle.octets.specs.Numbers.{bound}
use Rattle.octets.proofs.Chunks.{sides}
use Rattle.octets.proofs.Tests.{pick-zero, and-of}
use Rattle.octets.proofs.Zero.{both}
use Rattle.rules.specs.Layout.{Layout, Fitting, base}
use Rattle.rules.specs.Status as number
use Rattle.rules.specs.State.{State, message_at}
use Rattle.rules.specs.Step.{done}
use Rattle.rules.specs.Refusals.{group_bits, named, any_named}
use Rattle.rules.specs.Rules.{step_of}
use Rattle.rules.specs.Pack.{unpack}
use Rattle.rules.specs.Calls.{wrong_length, query_refusal, WaitsFor, Offers}
use Rattle.rules.specs.Calls as calls
use Rattle.rules.specs.Form.{well_formed}
use Rattle.rules.specs.Groups.{signing, Checkpointable, Within, Smallest}
use Rattle.rules.specs.Groups as groups
use Rattle.rules.specs.Heard.{heard_answer}
use Rattle.rules.specs.Heard as heard
use Rattle.rules.specs.ReadyGroups.{size_of, ready_group, ready_count, ready_refusal, ready_answer}
use Rattle.rules.specs.Internal.Well.{WellFormed}
use Rattle.rules.proofs.Bits.{named-zero, unnamed-all}
use Rattle.rules.proofs.Groups.Counting.{zero-size}
use Rattle.rules.proofs.Keep.Accepted.{named-room}
use Rattle.rules.proofs.Keep.Step.{fitting-base}
use Rattle.session.specs.Provenance.{status_number, Live, WaitingMessage, Provenance, no_waiting_message}
use Rattle.session.specs.Steps.{provenance_seen, provenance_refusal}
use Rattle.session.specs.Fed.{ProvenanceOf}
use Rattle.session.specs.Trace.{Trace, calls_of}
use Rattle.rules.specs.Obstacle.{obstacle_answer}
use Rattle.rules.specs.Impediment.{impediment_answer}
use Rattle.session.specs.Meanings.{WaitsIn, OfferMeans, no-message, lowest, Signable, SmallestMeans, no-group, smallest, CountMeans, HeardMeans, DependentsMean}
use Rattle.session.specs.Queries.{Asked}
use Rattle.session.proofs.Model.{view}
use Rattle.session.proofs.Sets.{cell-some}
use Rattle.session.proofs.Relation.{live-used, present, MessageRel, Rel}
use Rattle.session.proofs.Accepted.{named-below, provenance-accepted, named_live}
use Rattle.session.proofs.Calls.{Holds, query-same, counts_same, hinders-same, plan-same}
use Rattle.session.proofs.Queries.{signing-refusal}
use Rattle.session.proofs.Points.{held}
use Rattle.session.proofs.Waiting.{signs-exactly}
use Rattle.session.proofs.Spreading.{at_place, place-in, as_many}
use Rattle.session.proofs.LogTrace.{yes-means}
use Rattle.session.proofs.Withdrawals.{dependents-answered}
use Rattle.session.proofs.Carried.{live-there}
use Rattle.session.proofs.Obstacles.{obstacle-answered}
use Rattle.session.proofs.Impediments.{impediment-answered}
use Rattle.session.proofs.Attainable.{plan-answered}

-- ---- parcels that wait

at_in : (qs : List WaitingMessage) (k : ℕ) → k < length qs → Memᴰ (get_or qs k no_waiting_message) qs
at_in [] k h = absurd (omega arith)
at_in (q ∷ qs) zero h = Memᴰ.head refl
at_in (q ∷ qs) (suc k) h = Memᴰ.tail (at_in qs k (omega arith))

module _ (s : State) {b : Provenance} (r : Rel (view s) b) {t n : ℕ} where
  waits-to : WaitsFor s t n → WaitsIn b t n
  unfolding message_at view
  waits-to w =
      let q = at_place {R = MessageRel (present b.holders)} s.messages b.messages r.messages w.place w.waits in
      record {
        message = get_or b.messages w.place no_waiting_message;
        waits = at_in b.messages w.place (subst (λ (i : ℕ). w.place < i) (as_many s r) w.waits);
        addressee = sym q.addressee ∙ w.addressee;
        number = sym q.number ∙ w.number;
      }

  waits-of : WaitsIn b t n → WaitsFor s t n
  unfolding message_at view
  waits-of w =
      let p = place-in b.messages w.message w.waits in
      let low : p.0 < length s.messages = subst (λ (i : ℕ). p.0 < i) (sym (as_many s r)) p.1 in
      let q = at_place {R = MessageRel (present b.holders)} s.messages b.messages r.messages p.0 low in
      record {
        place = p.0;
        waits = low;
        addressee = q.addressee ∙ ap (λ (m : WaitingMessage). m.addressee) p.2 ∙ w.addressee;
        number = q.number ∙ ap (λ (m : WaitingMessage). m.number) p.2 ∙ w.number;
      }

-- ---- volumes that could be signed

module _ {y : Layout} (z : Fitting y) {s : State} (well : WellFormed y s) {b : Provenance} (r : Rel (view s) b) (v : ℕ) where
  signable-to : v < bound 2 → (step_of y s (signing v)).reply.outcome ≡ done → Signable b v
  unfolding provenance_seen
  signable-to bits e =
      let k = (signs-exactly z well r v bits).0 e in
      record {
        bits = bits;
        live = named_live (view s) b r y (signing v) k.zero refl bits;
        room = λ u n. named-room (provenance-accepted (view s) b r y (signing v) k.zero) refl u (named-below v u bits n) n;
        equal = k.same;
      }

  opened-live : {u : ℕ} → Live (b.holders u).status → u < b.opened
  opened-live {u} l = ⊎_elim (λ h. h) (λ h. absurd (live-used l (r.fresh u h))) (sides u b.opened)

  signable-of : (v ≡ 0 → ⊥) → Signable b v → (step_of y s (signing v)).reply.outcome ≡ done
  unfolding provenance_refusal provenance_seen
  signable-of n k = (signs-exactly z well r v k.bits).1 (record { zero = accepted; same = k.equal })
    where
      opened : any_named v (λ t. leb b.opened t) ≡ false
      opened = unnamed-all v (λ t. leb b.opened t) (λ t h i. lt-leb b.opened t (opened-live (k.live t i)))

      there : any_named v (λ t. eqb (status_number (b.holders t).status) number.annihilated) ≡ false
      there = unnamed-all v (λ t. eqb (status_number (b.holders t).status) number.annihilated) (λ t h i. live-there (k.live t i))

      room : any_named v (λ t. leb b.limits.checkpoints (length (b.holders t).history.incarnation.checkpoints)) ≡ false
      room = unnamed-all v (λ t. leb b.limits.checkpoints (length (b.holders t).history.incarnation.checkpoints)) (λ t h i. lt-leb b.limits.checkpoints (length (b.holders t).history.incarnation.checkpoints) (k.room t i))

      accepted : provenance_refusal y b (signing v) ≡ 0
      accepted = signing-refusal y (provenance_seen b) v ∙ rw (ne_eqb v 0 n, opened, there, room)

-- a volume that names a take is none of no take
some-named : (v t : ℕ) → named v t ≡ true → v ≡ 0 → ⊥
some-named v t n e = false≢true (sym (named-zero t) ∙ ap (λ g. named g t) (sym e) ∙ n)

-- ---- after the calls of a session

module _ {y : Layout} (z : Fitting y) {img : List ℕ} (τ : Trace y img) {b : Provenance} (f : ProvenanceOf y (calls_of τ) b) where
  there : Holds y img b
  there = held z τ f

  offer-means : {t : ℕ} {message : Option ℕ} → query_refusal y img t ≡ 0 → Offers y img t message → OfferMeans b t message
  offer-means e (calls.refused n) = absurd (n e)
  offer-means e (calls.nothing q n) = no-message (λ k w. n k (waits-of (unpack y img) there.rel w))
  offer-means e (calls.waiting q l) = lowest (waits-to (unpack y img) there.rel l.waits) (λ k w. l.lowest k (waits-of (unpack y img) there.rel w))

  could-of : (t v : ℕ) → named v t ≡ true → Signable b v → Checkpointable y (unpack y img) t v
  could-of t v n k = record { bits = k.bits; contains = n; signs = signable-of z there.well there.rel v (some-named v t n) k }

  smallest-means : {t : ℕ} {group : Option ℕ} → query_refusal y img t ≡ 0 → Smallest y img t group → SmallestMeans b t group
  unfolding Within
  smallest-means e (groups.refused n) = absurd (n e)
  smallest-means {t} e (groups.nothing q n) = no-group (λ v i k. n v (could-of t v i k))
  smallest-means {t} e (groups.smallest {v} q c l) = smallest c.contains (signable-to z there.well there.rel v c.bits c.signs) (λ w i k. l w (could-of t w i k))

  count-means : {size : ℕ} → ready_refusal y img size ≡ 0 → CountMeans b size (ready_answer y img size)
  unfolding ready_answer ready_count ready_group ready_refusal
  count-means {size} e = record {
    ready = λ v. eqb (size_of v) size and eqb (step_of y (unpack y img) (signing v)).reply.outcome done;
    exactly = λ v h. (to v h, of v);
    many = rw (eq-eqb (ready_refusal y img size) 0 e);
  }
    where
      some : 1 ≤ size
      some =
          let p = pick-zero (wrong_length y img) 16 _ (omega arith) e in
          let q = pick-zero (not (well_formed y img)) 19 _ (omega arith) p.1 in
          let i = pick-zero (not (leb 1 size and leb size group_bits)) 34 0 (omega arith) q.1 in
          leb-true 1 size (both (leb 1 size) (leb size group_bits) (not-false (leb 1 size and leb size group_bits) i.0)).0

      to : (v : ℕ) → v < bound 2 → eqb (size_of v) size and eqb (step_of y (unpack y img) (signing v)).reply.outcome done ≡ true → (size_of v ≡ size) × Signable b v
      to v h k =
          let p = both (eqb (size_of v) size) (eqb (step_of y (unpack y img) (signing v)).reply.outcome done) k in
          (eqb-true (size_of v) size p.0, signable-to z there.well there.rel v h (eqb-true (step_of y (unpack y img) (signing v)).reply.outcome done p.1))

      of : (v : ℕ) → (size_of v ≡ size) × Signable b v → eqb (size_of v) size and eqb (step_of y (unpack y img) (signing v)).reply.outcome done ≡ true
      of v k =
          let n : v ≡ 0 → ⊥ = λ i. (let q : size_of v ≡ 0 = ap size_of i ∙ zero-size in omega (arith, some, k.0)) in
          and-of (eqb (size_of v) size) (eqb (step_of y (unpack y img) (signing v)).reply.outcome done) (eq-eqb (size_of v) size k.0) (eq-eqb (step_of y (unpack y img) (signing v)).reply.outcome done (signable-of z there.well there.rel v n k.1))

  heard-means : {t : ℕ} → heard_answer y img t ≡ true → HeardMeans y img τ b t
  unfolding view
  heard-means {t} e = record {
    state = λ u a n i.
        let k = cell-some a i ((there.rel.holders t).state u) in
        record { newest = k.0.incarnation; has = k.2.has; later = k.2.top a i; stabilized = yes-means z τ t e u k.0 n (heard.in-state k.1) };
    creation = λ u a n i.
        let k = cell-some a i ((there.rel.holders t).creation u) in
        record { newest = k.0.incarnation; has = k.2.has; later = k.2.top a i; stabilized = yes-means z τ t e u k.0 n (heard.in-creation k.1) };
  }

  pub asked : Asked y img τ b
  asked = record {
    offer = λ t e. (e.0 ∙ query-same there t, λ q. offer-means (sym e.0 ∙ q) e.1);
    smallest = λ t e. (e.0 ∙ query-same there t, λ q. smallest-means (sym e.0 ∙ q) e.1);
    heard = λ t e. (e.0 ∙ query-same there t, λ q. heard-means (sym e.1 ∙ q));
    counts = λ size e. (e.0 ∙ counts_same there size, λ q. subst (CountMeans b size) (sym e.1) (count-means (sym e.0 ∙ q)));
    dependents = λ t e. (e.0 ∙ query-same there t, λ q. subst (DependentsMean b t) (sym e.1) (dependents-answered z τ f t (sym e.0 ∙ q)));
    obstacle = λ v e. (e.0 ∙ hinders-same there v, λ q. (obstacle_answer y img v, e.1, obstacle-answered z τ f v (sym e.0 ∙ q)));
    impediment = λ t e. (e.0 ∙ query-same there t, λ q. (impediment_answer y img t, e.1, impediment-answered z τ f t (sym e.0 ∙ q)));
    plan = λ t lent e. (e.0 ∙ plan-same there t lent, λ q. plan-answered z τ f t lent (sym e.0 ∙ q));
  }

-- At the ledger's own layout: no hypothesis but the trace.
pub asked-base : {img : List ℕ} (τ : Trace base img) {b : Provenance} → ProvenanceOf base (calls_of τ) b → Asked base img τ b
asked-base τ f = asked fitting-base τ f
