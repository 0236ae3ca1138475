-- Document 02, W11: one step of the ledger beside the book's: its reply tells the book's event, and how each life went on.
use Prim.Native.Nat.{ℕ, ◌≤◌}
use mathlib.Core.Bool.{Bool, false, true}
use mathlib.Core.Path.{◌≡◌, refl, ap, sym, ◌∙◌, subst}
use mathlib.Core.List.{List}
use mathlib.Core.Logic.{⊎_elim}
use native.Mathlib.Omega.{arith}
use lib.Dec.{eqb}
use borrow.Author.Tests.{ne_eqb, lt-leb, le-leb}
use Rattle.octets.specs.Bytes.{pick, ◌and◌}
use Rattle.marks.specs.Incarnation.{initial_incarnation}
use Rattle.rules.specs.Layout.{Layout}
use Rattle.rules.specs.State.{State}
use Rattle.rules.specs.declared.Step.{Step}
use Rattle.rules.specs.declared.Reply.{Reply}
use Rattle.rules.specs.declared.Told.{Told}
use Rattle.rules.specs.Step.{step_at, done, fallen_back, not_ready, sign, is_refusal, told}
use Rattle.rules.specs.Refusals.{named}
use Rattle.rules.specs.Rules.{Result, answer, apply, step_of}
use Rattle.rules.specs.Internal.Well.{WellFormed}
use Rattle.rules.specs.Calls.{state_after}
use Rattle.rules.proofs.Keep.Accepted.{refusal-large}
use Rattle.rules.proofs.Keep.Step.{applied-same}
use Rattle.session.specs.Provenance.{unused, Live, Provenance}
use Rattle.session.specs.Steps.{provenance_seen, provenance_refusal, applied, signs, ProvenanceStep, refuses, applies, signing, not-ready}
use Rattle.session.proofs.Step.{SigningRight, checkpointed, uncheckpointed, StepRight}
use Rattle.engine_chains.specs.Chain as chain
use Rattle.engine_chains.specs.Chain.{Event}
use Rattle.engine_chains.specs.Back.{event_from}
use Rattle.engine_chains.specs.Internal.Walk.{was_rolled_back, was_checkpointed}
use Rattle.engine_chains.proofs.Walked.{Turned, stays}
use Rattle.engine_chains.specs.Internal.Book.{applied_event, sign_event, step_event, incarnations_in}
use Rattle.session.proofs.Model.{Ledger, view}
use Rattle.session.proofs.Relation.{Rel}
use Rattle.session.proofs.ViewStep.{same-refusal}
use Rattle.engine_chains.proofs.Replies.{Alike, alike_same, applied-replied, sign-alike, sign-turned, unready-turned, unready-alike, applied_told}
use Rattle.engine_chains.proofs.Replied.{told_same}

-- the event by the reply w and the lives after the step is e
pub record Followed (b c : Provenance) (p : Step) (w : Told) (e : Event) : Type 0 where
  pub event : Alike (pick (is_refusal w.outcome) chain.nothing (event_from p w (incarnations_in c))) e
  pub turned : (u : ℕ) → Turned (was_rolled_back w u) (was_checkpointed p w u) (incarnations_in b u) (incarnations_in c u)

refused-followed : (b : Provenance) (p : Step) (w : Told) → 20 ≤ w.outcome → Followed b b p w chain.nothing
unfolding was_rolled_back was_checkpointed
refused-followed b p w h = record {
  event = rw (le-leb 20 w.outcome h) alike_same;
  turned = λ u. stays (rw (ne_eqb w.outcome fallen_back (λ e. omega arith))) (rw (ne_eqb w.outcome done (λ e. omega arith)) (and_no (eqb p.kind sign) (named p.message u))) refl;
}
  where
    and_no : (q c : Bool) → (q and false) and c ≡ false
    and_no true c = refl
    and_no false c = refl

accepted-followed : (b c : Provenance) (p : Step) (w : Told) (e : Event) → w.outcome ≤ not_ready → Alike (event_from p w (incarnations_in c)) e
    → ((u : ℕ) → Turned (was_rolled_back w u) (was_checkpointed p w u) (incarnations_in b u) (incarnations_in c u)) → Followed b c p w e
accepted-followed b c p w e h x t = record { event = rw (lt-leb 20 w.outcome (omega arith)) x; turned = t }

-- a take that is not opened has the opening life
opening-incarnation : (l : Ledger) (b : Provenance) → Rel l b → incarnations_in b b.opened ≡ initial_incarnation
opening-incarnation l b r =
    let e = r.fresh b.opened (omega arith) in
    ap (λ h. h.history.incarnation) ((r.holders b.opened).gone (λ k. none (rw e at k)))
  where
    none : Live unused → ⊥
    none k = elim k [ ]

module _ {y : Layout} {s : State} {b : Provenance} {p : Step} (well : WellFormed y s) (r : Rel (view s) b) where
  step-followed : {c : Provenance} (k : ProvenanceStep y b p c) → StepRight y s b p c → Followed b c p (told (step_of y s p).reply) (step_event k)
  unfolding provenance_refusal
  step-followed (refuses z) k = ⊎_elim (λ e. absurd (z e))
      (λ e. subst (λ (o : Reply). Followed b b p (told o) chain.nothing) (sym (k.refused z).0) (refused-followed b p _ e.low)) (refusal-large y (provenance_seen b) p)
  step-followed (applies z k) q =
      let e : step_of y s p ≡ apply y s p = applied-same y s p (same-refusal well r p ∙ z) in
      let x = applied-replied b p k (λ t. (r.holders t).first) (opening-incarnation (view s) b r) in
      subst (λ o. Followed b (applied b p) p o (applied_event b p)) (sym (ap (λ (o : Result). told o.reply) e ∙ told_same well r p k)) (accepted-followed b (applied b p) p (applied_told b p) (applied_event b p) x.small x.event x.turned)
  step-followed (signing z k e) q = go (q.signing z k)
    where
      go : SigningRight y s b p → Followed b (signs b p.message) p (told (step_of y s p).reply) (step_event {y = y} (signing z k e))
      go (checkpointed i o n) = subst (λ (o : Reply). Followed b (signs b p.message) p (told o) (step_event {y = y} (signing z k e))) (sym o) (accepted-followed b (signs b p.message) p (told (answer done 0 0 0)) (sign_event b p.message) (omega arith) (sign-alike b p k) (sign-turned b p k))
      go (uncheckpointed i o n) = absurd (i e)
  step-followed (not-ready z k e) q = go (q.signing z k)
    where
      go : SigningRight y s b p → Followed b b p (told (step_of y s p).reply) chain.nothing
      go (checkpointed i o n) = absurd (e i)
      go (uncheckpointed i o n) = subst (λ (o : Reply). Followed b b p (told o) chain.nothing) (sym o) (accepted-followed b b p (told (answer not_ready 0 0 0)) chain.nothing (omega arith) (unready-alike b p k (incarnations_in b)) (unready-turned b p k))

  pub followed : {c : Provenance} (right : StepRight y s b p c) → Followed b c p (told (step_of y s p).reply) (step_event right.provenance)
  followed right = step-followed right.provenance right

-- the reply to step j
abbrev pub told_at : Layout → State → List ℕ → ℕ → Told
told_at y s steps j = told (step_of y (state_after y s steps j) (step_at steps j)).reply
