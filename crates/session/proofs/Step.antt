-- One step: refused as the book says, an outcome at most 5 else, signed exactly if the two sets are equal; marks and relation after it.
use Prim.Native.Nat.{ℕ, ◌≤◌}
use mathlib.Core.Bool.{Bool, true, false, false≢true}
use mathlib.Core.Path.{◌≡◌, refl, ap, sym, ◌∙◌}
use mathlib.Core.Logic.{◌↔◌}
use borrow.Author.Tests.{eq-eqb}
use Rattle.marks.specs.History.{HistoryView, view_of}
use Rattle.maps.proofs.News.{informed_table}
use Rattle.maps.proofs.View.{view-some}
use Rattle.rules.specs.Layout.{Layout}
use Rattle.rules.specs.Layout as layout
use Rattle.rules.specs.State.{State, transactor_at, own_history}
use Rattle.rules.specs.declared.Step.{Step}
use Rattle.rules.specs.Step.{done, not_ready, sign}
use Rattle.rules.specs.Rules.{Result, group_ready, checkpoint_group, seen, refusal, answer, apply_sign, apply, step_of}
use Rattle.rules.specs.Internal.Well.{StepOk, WellFormed}
use Rattle.rules.proofs.Keep.Step.{refused-same, applied-same}
use Rattle.session.specs.Provenance.{Provenance, status_number}
use Rattle.session.specs.Grounds.{Equal}
use Rattle.session.specs.Steps.{provenance_refusal, ProvenanceStep}
use Rattle.session.specs.Trace.{Matches}
use Rattle.session.proofs.Model.{view}
use Rattle.session.proofs.Relation.{Rel, own-history}
use Rattle.rules.proofs.ByKind.Outcomes.{apply-outcome}
use Rattle.rules.proofs.Keep.Accepted.{accepted}
use Rattle.session.proofs.News.{informed-law}
use Rattle.session.proofs.Kept.{sign-exact}
use Rattle.session.proofs.ViewState.{own_view}
use Rattle.session.proofs.ViewRules.{dropped_at, rolled_back_at}
use Rattle.session.proofs.ViewSeen.{seen-status}
use Rattle.session.proofs.ViewStep.{ready_at, ready-same, step-tests, applicable, same-refusal, state-kept}

-- ---- what is shown of a step

-- A signing that is not refused replies 0 and signs its volume exactly if the two sets are equal; else 5, and nothing changes.
pub data SigningRight (y : Layout) (s : State) (b : Provenance) (p : Step) : Type 0 where
  checkpointed : Equal b p.message → (step_of y s p).reply ≡ answer done 0 0 0 → (step_of y s p).state ≡ checkpoint_group y s p.message → SigningRight y s b p
  uncheckpointed : (Equal b p.message → ⊥) → (step_of y s p).reply ≡ answer not_ready 0 0 0 → (step_of y s p).state ≡ s → SigningRight y s b p

-- One step, from the state s and the book b to the book c.
pub record StepRight (y : Layout) (s : State) (b : Provenance) (p : Step) (c : Provenance) : Type 1 where
  pub provenance : ProvenanceStep y b p c
  -- refused exactly where the book refuses it, with the same number, and nothing changes
  pub refused : (provenance_refusal y b p ≡ 0 → ⊥) → ((step_of y s p).reply ≡ answer (provenance_refusal y b p) 0 0 0) × ((step_of y s p).state ≡ s)
  pub accepted : provenance_refusal y b p ≡ 0 → (step_of y s p).reply.outcome ≤ not_ready
  pub signing : provenance_refusal y b p ≡ 0 → p.kind ≡ sign → SigningRight y s b p

-- ---- a signing

pub apply-sign : (y : Layout) (s : State) (p : Step) → p.kind ≡ sign → apply y s p ≡ apply_sign y s p
unfolding apply
apply-sign y s p k = rw k

-- ---- marks and statuses are those of a book that is related to the view

pub matches-rel : {y : Layout} {s : State} {b : Provenance} → WellFormed y s → Rel (view s) b → Matches s b
unfolding view
matches-rel {y} {s} {b} well r t =
    let own : view_of (own_history t (transactor_at s t)) ≡ (b.holders t).history = sym (own_view well t) ∙ own-history (r.holders t) in
    record {
      status = seen-status well t ∙ ap status_number (r.holders t).status;
      held = λ k. (view-some (transactor_at s t).state t (b.holders t).history ((r.holders t).own k)).0;
      incarnation = λ k. ap (λ (m : HistoryView). m.incarnation) own;
      stable = λ k. ap (λ (m : HistoryView). m.stable) own;
    }

-- ---- every step

-- the book after step p: all that is claimed of the step, and the relation after it
pub record Stepped (y : Layout) (s : State) (b : Provenance) (p : Step) : Type 1 where
  pub after : Provenance
  pub right : StepRight y s b p after
  pub rel : Rel (view (step_of y s p).state) after

module _ {y : Layout} (z : layout.Fitting y) {s : State} (well : WellFormed y s) {b : Provenance} (r : Rel (view s) b) {p : Step} (ok : StepOk p) where
  same : refusal y s p ≡ provenance_refusal y b p
  same = same-refusal well r p

  is-refused : (provenance_refusal y b p ≡ 0 → ⊥) → ((step_of y s p).reply ≡ answer (provenance_refusal y b p) 0 0 0) × ((step_of y s p).state ≡ s)
  is-refused n =
      let e : step_of y s p ≡ record { reply = answer (refusal y s p) 0 0 0; state = s } = refused-same y s p (λ e. n (sym same ∙ e)) in
      (ap (λ (x : Result). x.reply) e ∙ ap (λ (n : ℕ). answer n 0 0 0) same, ap (λ (x : Result). x.state) e)

  module _ (zero : provenance_refusal y b p ≡ 0) where
    is-applied : step_of y s p ≡ apply y s p
    is-applied = applied-same y s p (same ∙ zero)

    reply-accepted : (step_of y s p).reply.outcome ≤ not_ready
    reply-accepted = rw is-applied (apply-outcome y s p)

    module _ (k : p.kind ≡ sign) where
      is-signing : step_of y s p ≡ apply_sign y s p
      is-signing = is-applied ∙ apply-sign y s p k

      -- the ledger's test holds exactly if the two sets are equal
      pub ready-exact : (group_ready y s p.message ≡ true) ↔ Equal b p.message
      unfolding refusal
      ready-exact =
          let a = applicable well ok.message (accepted y (seen y s) p (same ∙ zero)) in
          rw (ready-same well p.message ok.message (a.among (eq-eqb p.kind sign k)))
          (sign-exact informed_table informed-law (view s) b r y p zero (dropped_at y s p.message) (rolled_back_at y s p.message) (ready_at y s p.message) (step-tests well p ok.message) k ok.message)

      signing-right : SigningRight y s b p
      unfolding apply_sign
      signing-right = go (group_ready y s p.message) refl
        where
          go : (t : Bool) → group_ready y s p.message ≡ t → SigningRight y s b p
          go true e = checkpointed (ready-exact.0 e) (rw (is-signing, e)) (rw (is-signing, e))
          go false e = uncheckpointed (λ q. false≢true (sym e ∙ ready-exact.1 q)) (rw (is-signing, e)) (rw (is-signing, e))

  pub step_right : Stepped y s b p
  step_right =
      let k = state-kept well r p ok.message in
      record {
        after = k.after;
        right = record {
          provenance = k.step;
          refused = is-refused;
          accepted = reply-accepted;
          signing = signing-right;
        };
        rel = k.rel;
      }
