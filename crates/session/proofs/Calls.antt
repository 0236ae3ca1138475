-- One call: the book's refusal, what the book makes of it, and the relation after it.
use Prim.Native.Nat.{ℕ, ◌-◌, ◌^◌}
use mathlib.Core.Bool.{Bool, true, false, not}
use mathlib.Core.Path.{◌≡◌, refl, ap, sym, ◌∙◌, subst}
use mathlib.Core.List.{List}
use native.Mathlib.Decide.{ℕ_discrete}
use native.Mathlib.Omega.{arith}
use lib.Dec.{eqb, leb}
use lib.ListN.{length}
use borrow.Author.Tests.{eq-eqb, ne_eqb}
use Rattle.octets.specs.Bytes.{pick, part, chunks, Octets}
use Rattle.octets.proofs.Put.{octets-part}
use Rattle.rules.specs.Layout.{Layout, Limits, in_range, image_bytes}
use Rattle.rules.specs.Layout as layout
use Rattle.rules.specs.State.{State, transactor_at, place_of}
use Rattle.rules.specs.Pack.{pack, unpack}
use Rattle.rules.specs.Form.{well_formed}
use Rattle.rules.specs.Internal.Well.{WellFormed}
use Rattle.rules.specs.Calls.{wrong_length, begin_answer, fresh_image, begin_image, state_after, steps_in, run_answer, reply_at, ran_image, ran_replies, run_image, run_replies, query_refusal, show_refusal}
use Rattle.rules.specs.ReadyGroups.{ready_refusal}
use Rattle.rules.specs.Refusals.{group_bits}
use Rattle.rules.specs.Groups.{signing, signing_refusal}
use Rattle.rules.specs.Obstacle.{obstacle_refusal}
use Rattle.rules.specs.Plan.{plan_refusal}
use Rattle.rules.proofs.Pack.Sizes.{length-pack}
use Rattle.rules.proofs.Pack.RoundTrip.{unpack-pack}
use Rattle.rules.proofs.Form.Packed.{formed-pack}
use Rattle.rules.proofs.Pack.Fresh.{pack-fresh}
use Rattle.rules.proofs.Keep.State.{well-fresh}
use Rattle.rules.proofs.Keep.Step.{keeps-after}
use Rattle.session.specs.Provenance.{Provenance, empty_provenance, status_number, is_missing}
use Rattle.session.specs.Fed.{Call, begin, run, show, provenance_query_refusal, call_refusal, ProvenanceCall, provenance-refuses, provenance-begins, provenance-runs, provenance-offers, provenance-shows}
use Rattle.session.specs.Trace.{Answer, begun, ran, refusal_in, Performed, beginning, running, offering, showing, Matches}
use Rattle.session.specs.Queries.{provenance_count_refusal, provenance_signing_refusal, provenance_plan_refusal}
use Rattle.session.proofs.Model.{view}
use Rattle.session.proofs.Relation.{Rel, fresh-rel}
use Rattle.session.proofs.Messages.{missing-same}
use Rattle.session.proofs.ViewState.{view-fresh, view-missing}
use Rattle.session.proofs.ViewStep.{same-refusal}
use Rattle.session.proofs.Step.{matches-rel}
use Rattle.session.proofs.Run.{Ran}
use Rattle.session.proofs.Run as steps

-- ---- images that hold a well-formed state, related to a book

pub record Holds (y : Layout) (img : List ℕ) (b : Provenance) : Type 0 where
  pub back : pack y (unpack y img) ≡ img
  pub well : WellFormed y (unpack y img)
  pub rel : Rel (view (unpack y img)) b

pub holds-pack : {y : Layout} {s : State} {b : Provenance} → WellFormed y s → Rel (view s) b → Holds y (pack y s) b
holds-pack {y} {s} {b} well r =
    let back : unpack y (pack y s) ≡ s = unpack-pack y s well.packable in
    record { back = ap (pack y) back; well = rw back well; rel = rw back r }

pub holds-fresh : {y : Layout} → layout.Fitting y → (m : Limits) → in_range y m ≡ true → Holds y (fresh_image y m) (empty_provenance m)
holds-fresh {y} z m e = rw (pack-fresh y m) (holds-pack (well-fresh z m e) (rw (view-fresh y m) (fresh-rel m)))

module _ {y : Layout} {img : List ℕ} {b : Provenance} (h : Holds y img b) where
  -- its length is right, so 16 does not arise
  pub right-length : wrong_length y img ≡ false
  right-length = ap not (eq-eqb (length img) (image_bytes y) (ap length (sym h.back) ∙ length-pack y (unpack y img)))

  -- it is well-formed, so 19 does not arise
  pub right-form : well_formed y img ≡ true
  right-form = subst (λ i. well_formed y i ≡ true) h.back (formed-pack y (unpack y img) h.well)

  pub holds-matches : Matches (unpack y img) b
  holds-matches = matches-rel h.well h.rel

  -- ---- the book's refusals

  pub run-same : (list : List ℕ) (o : Octets list) (start end : ℕ) (replies : List ℕ) → run_answer y img list start end replies ≡ call_refusal y b (run list o start end replies)
  unfolding run_answer
  run-same list o start end replies = rw (right-length, right-form)

  pub query-same : (t : ℕ) → query_refusal y img t ≡ provenance_query_refusal b t
  unfolding query_refusal view
  query-same t =
      let n : (unpack y img).opened ≡ b.opened = h.rel.opened in
      let k : (transactor_at (unpack y img) t).status ≡ status_number (b.holders t).status = (holds-matches t).status in
      rw (right-length, right-form, k, n)

  pub counts_same : (n : ℕ) → ready_refusal y img n ≡ provenance_count_refusal n
  unfolding ready_refusal
  counts_same n = rw (right-length, right-form)

  pub hinders-same : (v : ℕ) → obstacle_refusal y img v ≡ provenance_signing_refusal y b v
  unfolding obstacle_refusal signing_refusal
  hinders-same v = rw (right-length, right-form) (ap (pick (leb (2 ^ group_bits) v) 21) (same-refusal h.well h.rel (signing v)))

  pub plan-same : (t : ℕ) (lent : List ℕ) → plan_refusal y img t lent ≡ provenance_plan_refusal y b t lent
  unfolding plan_refusal
  plan-same t lent = rw (query-same t)

  show-same : (n : ℕ) → show_refusal y img n ≡ call_refusal y b (show n)
  unfolding show_refusal
  show-same n =
      let k : leb (length (unpack y img).messages) (place_of (unpack y img) n) ≡ is_missing n b.messages = sym (view-missing (unpack y img) n) ∙ missing-same n h.rel.messages in
      rw (right-length, right-form, k)

-- ---- every call

-- the book after call c: the call's refusal is the book's, and the image after it holds a state related to the book
pub record Called (y : Layout) (img : List ℕ) (b : Provenance) (c : Call) (a : Answer) (after : List ℕ) : Type 1 where
  pub provenance : Provenance
  pub fed : ProvenanceCall y b c provenance
  pub refusal : refusal_in a ≡ call_refusal y b c
  pub holds : Holds y after provenance

-- a call that changes nothing in the book, refused or not
pub kept : {y : Layout} {b : Provenance} {c : Call} → (call_refusal y b c ≡ 0 → ProvenanceCall y b c b) → ProvenanceCall y b c b
kept {y} {b} {c} f = go (ℕ_discrete (call_refusal y b c) 0)
  where
    go : Dec (call_refusal y b c ≡ 0) → ProvenanceCall y b c b
    go (yes e) = f e
    go (no n) = provenance-refuses n

module _ {y : Layout} {img after : List ℕ} {b d : Provenance} {c : Call} {a : Answer} where
  called-as : ProvenanceCall y b c d → refusal_in a ≡ call_refusal y b c → Holds y after d → Called y img b c a after
  called-as fed refusal h = record { provenance = d; fed = fed; refusal = refusal; holds = h }

module _ {y : Layout} (z : layout.Fitting y) {img : List ℕ} {b : Provenance} (h : Holds y img b) where
  module _ (list : List ℕ) (o : Octets list) (start end : ℕ) (replies : List ℕ) where
    abbrev steps_of : List ℕ
    steps_of = part start (end - start) list

    abbrev the-run : Call
    the-run = run list o start end replies

    abbrev the-answer : Answer
    the-answer = ran (run_answer y img list start end replies) (run_replies y img list start end replies)

    run-called : Called y img b the-run the-answer (run_image y img list start end replies)
    unfolding run_image ran_image run_replies ran_replies
    run-called = go (ℕ_discrete (call_refusal y b the-run) 0)
      where
        same : run_answer y img list start end replies ≡ call_refusal y b the-run
        same = run-same h list o start end replies

        -- the run accepted or not, by its answer: the replies and the image
        go : Dec (call_refusal y b the-run ≡ 0)
            → Called y img b the-run (ran (run_answer y img list start end replies) (pick (eqb (run_answer y img list start end replies) 0) (chunks (steps_in steps_of) (reply_at y (unpack y img) steps_of)) replies))
            (pick (eqb (run_answer y img list start end replies) 0) (pack y (state_after y (unpack y img) steps_of (steps_in steps_of))) img)
        go (yes e) =
            let k : Ran y (unpack y img) b steps_of (steps_in steps_of) = steps.run-right z h.well h.rel steps_of (octets-part start (end - start) list o) (steps_in steps_of) in
            let after : Holds y (pack y (state_after y (unpack y img) steps_of (steps_in steps_of))) k.after =
            holds-pack (keeps-after z h.well steps_of (octets-part start (end - start) list o) (steps_in steps_of)) k.rel in
            rw (eq-eqb (run_answer y img list start end replies) 0 (same ∙ e))
            (called-as (provenance-runs e k.fed) same after)
        go (no n) =
            rw (ne_eqb (run_answer y img list start end replies) 0 (λ e. n (sym same ∙ e)))
            (called-as (provenance-refuses n) same h)

  -- a begin: accepted, or refused with 33
  begin-called : (m : Limits) → Called y img b (begin m) (begun (begin_answer y m img)) (begin_image y m img)
  unfolding begin_answer begin_image
  begin-called m = go (in_range y m) refl
    where
      go : (t : Bool) → in_range y m ≡ t
          → Called y img b (begin m) (begun (pick (wrong_length y img) 16 (pick (not (in_range y m)) 33 0))) (pick (eqb (pick (wrong_length y img) 16 (pick (not (in_range y m)) 33 0)) 0) (fresh_image y m) img)
      go true e = rw (right-length h, e) (called-as (provenance-begins (rw e)) (rw e) (holds-fresh z m e))
      go false e = rw (right-length h, e) (called-as (provenance-refuses (λ k. omega (arith, refused k))) (rw e) h)
        where
          refused : call_refusal y b (begin m) ≡ 0 → ◌≡◌ {A = ℕ} 33 0
          refused k = rw e at k

  pub call-right : {c : Call} {a : Answer} {after : List ℕ} → Performed y img c a after → Called y img b c a after
  call-right (beginning {m} e) = rw (e.0, e.1) (begin-called m)
  call-right (running {list} {o} {start} {end} {lent} e) = rw (e.0, e.1, e.2) (run-called list o start end lent)
  call-right (offering {t} e) = called-as (kept provenance-offers) (e.0 ∙ query-same h t) h
  call-right (showing {n} e) = called-as (kept provenance-shows) (e.1 ∙ show-same h n) h
