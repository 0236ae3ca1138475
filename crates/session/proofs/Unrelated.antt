-- Document 02, W3: "A session grown from fresh never meets an unrelated pair", so it never gets a 31.
use Prim.Native.Nat.{ℕ, ◌-◌, ◌*◌, ◌<◌}
use mathlib.Core.Bool.{Bool, true, false, true≢false}
use mathlib.Core.Path.{◌≡◌, refl, sym, ◌∙◌, subst}
use mathlib.Core.List.{List}
use native.Mathlib.Omega.{arith}
use native.Mathlib.Decide.{ℕ_discrete}
use lib.Dec.{eqb}
use lib.ListN.{get_or}
use borrow.Author.Tests.{eq-eqb, ne_eqb}
use Rattle.octets.specs.Bytes.{pick, ◌and◌, part, Octets}
use Rattle.octets.proofs.Put.{octets-part}
use Rattle.rules.specs.Layout.{Layout, base, Fitting}
use Rattle.rules.specs.State.{State}
use Rattle.rules.specs.declared.Step.{Step}
use Rattle.rules.specs.Step.{step_bytes, step_at, receive}
use Rattle.rules.specs.Refusals.{Seen, unrelated_receipt, refusal_of}
use Rattle.rules.specs.Rules.{receipt_unrelated, seen, refusal, answer, apply, step_of}
use Rattle.rules.specs.Pack.{unpack}
use Rattle.rules.specs.Calls.{state_after, steps_in, run_answer, run_replies, ran_replies}
use Rattle.rules.proofs.Keep.Accepted.{refusal-view}
use Rattle.rules.proofs.Keep.Step.{fitting-base}
use Rattle.session.specs.Provenance.{Provenance}
use Rattle.session.specs.Fed.{ProvenanceOf}
use Rattle.session.specs.Trace.{Trace, calls_of}
use Rattle.session.specs.Related.{AllRelated, SetsRelated}
use Rattle.session.proofs.Model.{view}
use Rattle.session.proofs.Related.{all-related, state-related, sets-related}
use Rattle.rules.proofs.ByKind.Outcomes.{apply-outcome}
use Rattle.session.proofs.Run.{run-right}
use Rattle.session.proofs.Count.{reply-byte}
use Rattle.session.proofs.Unique.{provenance-unique}
use Rattle.session.proofs.Grown.{grown}

-- ---- 31 is that one condition

refusal-31 : (y : Layout) (v : Seen) (p : Step) → unrelated_receipt v p ≡ false → refusal_of y v p ≡ 31 → ⊥
refusal-31 y v p e = refusal-view (λ n. n ≡ 31 → ⊥) y v p (λ n low high k i. omega arith) (λ f i. true≢false (sym f ∙ e)) (λ f i. omega arith) (λ i. omega arith)

state-31 : (y : Layout) (s : State) (p : Step) → ((n : ℕ) → receipt_unrelated y s n ≡ false) → refusal y s p ≡ 31 → ⊥
unfolding refusal unrelated_receipt seen
state-31 y s p related = refusal-31 y (seen y s) p (and_none (eqb p.kind receive) (related p.message))
  where
    and_none : (c : Bool) {d : Bool} → d ≡ false → c and d ≡ false
    and_none true e = e
    and_none false e = refl

step-31 : (y : Layout) (s : State) (p : Step) → ((n : ℕ) → receipt_unrelated y s n ≡ false) → (step_of y s p).reply.outcome ≡ 31 → ⊥
unfolding step_of
step-31 y s p related = go (ℕ_discrete (refusal y s p) 0)
  where
    go : Dec (refusal y s p ≡ 0) → (pick (eqb (refusal y s p) 0) (apply y s p) (record { reply = answer (refusal y s p) 0 0 0; state = s })).reply.outcome ≡ 31 → ⊥
    go (yes e) = rw (eq-eqb (refusal y s p) 0 e) (λ k. omega (arith, apply-outcome y s p))
    go (no n) = rw (ne_eqb (refusal y s p) 0 n) (state-31 y s p related)

-- ---- every session

module _ (y : Layout) (z : Fitting y) {img : List ℕ} (τ : Trace y img) where
  -- No two marks of one take anywhere in the image of a session are unrelated: in state, creation and behaviour maps, and in those
  -- of waiting parcels. For every layout whose counts fit their fields, and every trace.
  pub never-unrelated : AllRelated (unpack y img)
  never-unrelated = let k = grown z τ in all-related (unpack y img) k.provenance k.holds.rel

  -- The same within a run: after each step of whatever part comes next.
  pub never-unrelated-within : (steps : List ℕ) → Octets steps → (i : ℕ) → AllRelated (state_after y (unpack y img) steps i)
  never-unrelated-within steps octets i =
      let k = grown z τ in
      let s = run-right z k.holds.well k.holds.rel steps octets i in
      all-related (state_after y (unpack y img) steps i) s.after s.rel

  -- And of the sets of the book that is fed the session's calls.
  pub never-unrelated-sets : (b : Provenance) → ProvenanceOf y (calls_of τ) b → SetsRelated b
  never-unrelated-sets b told =
      let k = grown z τ in
      subst SetsRelated (provenance-unique k.fed told) (sets-related (view (unpack y img)) k.provenance k.holds.rel)

  -- No step of any run on that image replies 31: of the bytes handed back, the first of every eight is another number.
  pub never-31 : (list : List ℕ) → Octets list → (start end : ℕ) (lent : List ℕ) → run_answer y img list start end lent ≡ 0
      → (i : ℕ) → i < steps_in (part start (end - start) list) → get_or (run_replies y img list start end lent) (step_bytes * i) 0 ≡ 31 → ⊥
  unfolding run_replies ran_replies
  never-31 list o start end lent e i h =
      let k = grown z τ in
      let steps : List ℕ = part start (end - start) list in
      let octets : Octets steps = octets-part start (end - start) list o in
      let r = run-right z k.holds.well k.holds.rel steps octets i in
      rw (eq-eqb (run_answer y img list start end lent) 0 e, reply-byte z k.holds.well steps octets (steps_in steps) i h)
      (step-31 y (state_after y (unpack y img) steps i) (step_at steps i) (state-related (state_after y (unpack y img) steps i) r.after r.rel y))

-- At the ledger's own layout: no hypothesis but the trace.
module _ {img : List ℕ} (τ : Trace base img) where
  pub never-unrelated-base : AllRelated (unpack base img)
  never-unrelated-base = never-unrelated base fitting-base τ

  pub never-unrelated-within-base : (steps : List ℕ) → Octets steps → (i : ℕ) → AllRelated (state_after base (unpack base img) steps i)
  never-unrelated-within-base = never-unrelated-within base fitting-base τ

  pub never-unrelated-sets-base : (b : Provenance) → ProvenanceOf base (calls_of τ) b → SetsRelated b
  never-unrelated-sets-base = never-unrelated-sets base fitting-base τ

  pub never-31-base : (list : List ℕ) → Octets list → (start end : ℕ) (lent : List ℕ) → run_answer base img list start end lent ≡ 0
      → (i : ℕ) → i < steps_in (part start (end - start) list) → get_or (run_replies base img list start end lent) (step_bytes * i) 0 ≡ 31 → ⊥
  never-31-base = never-31 base fitting-base τ
