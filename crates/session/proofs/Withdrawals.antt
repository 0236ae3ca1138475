-- Every step of a session by which a take falls: all that is said of it (specs/Withdrawal), from its reply alone; and what is said at every point.
use Prim.Native.Nat.{ℕ, ◌<◌}
use mathlib.Core.Path.{◌≡◌, ap, sym, ◌∙◌, subst}
use mathlib.Core.List.{List}
use lib.ListN.{get_or}
use borrow.Author.Tests.{eq-eqb}
use Rattle.octets.proofs.Numbers.{be-one}
use Rattle.rules.specs.Layout.{Layout, Fitting, base}
use Rattle.rules.specs.State.{State}
use Rattle.rules.specs.declared.Step.{Step}
use Rattle.rules.specs.declared.Reply.{Reply}
use Rattle.rules.specs.Step.{pack_reply}
use Rattle.rules.specs.Rules.{step_of}
use Rattle.rules.specs.Calls.{query_refusal}
use Rattle.rules.specs.Dependents.{dependents_of, dependents_answer}
use Rattle.rules.proofs.Keep.Kinds.{ReplyOk}
use Rattle.rules.proofs.Keep.Step.{reply-fits, fitting-base}
use Rattle.session.specs.Provenance.{Live, Provenance}
use Rattle.session.specs.Steps.{ProvenanceStep}
use Rattle.session.specs.Fed.{ProvenanceOf}
use Rattle.session.specs.Trace.{Trace, calls_of}
use Rattle.session.specs.Point.{StepIn, Point, at-end}
use Rattle.session.specs.Withdrawal.{Withdraws, rolls-back, annihilates, Spoilt, Doomed, RolledBackIn, rolled-back, annihilated-in, Withdrawal}
use Rattle.session.specs.Meanings.{DependentsMean}
use Rattle.session.proofs.Run.{first-pack_reply}
use Rattle.session.proofs.Points.{Taken, step-taken}
use Rattle.session.proofs.ViewStep.{state-kept}
use Rattle.session.proofs.Demand3.{step-point}
use Rattle.session.proofs.Reached.{related, well}
use Rattle.session.proofs.Spreading.{nobody-holds, unfinished-means, carried-means}
use Rattle.session.proofs.Withdrawal.{resting-means, through-means, query-live, spoilt-doomed, withdrawn-then, spoils, spoils-exactly, spoilt-through, unready-before, ready-same, smallest-kept}

-- the second byte of a reply is the take
second-pack_reply : (r : Reply) → r.outcome < 256 → r.transactor < 256 → get_or (pack_reply r) 1 0 ≡ r.transactor
unfolding pack_reply
second-pack_reply r h g = rw (be-one r.outcome h, be-one r.transactor g)

module _ {y : Layout} (z : Fitting y) {img : List ℕ} {τ : Trace y img} {s s' : State} {b : Provenance} {p : Step} {reply : List ℕ} (k : StepIn y img τ s b p reply s') where
  taken : Taken y s b p reply s'
  taken = step-taken z k

  pub withdraws : {t : ℕ} → RolledBackIn reply t → Withdraws y s p t
  withdraws {t} f = go f
    where
      fits : ReplyOk (step_of y s p).reply
      fits = reply-fits z taken.beside.well taken.ok

      outcome : get_or reply 0 0 ≡ (step_of y s p).reply.outcome
      outcome = ap (λ (l : List ℕ). get_or l 0 0) taken.given ∙ first-pack_reply (step_of y s p).reply fits.outcome

      transactor : get_or reply 1 0 ≡ (step_of y s p).reply.transactor
      transactor = ap (λ (l : List ℕ). get_or l 1 0) taken.given ∙ second-pack_reply (step_of y s p).reply fits.outcome fits.transactor

      go : RolledBackIn reply t → Withdraws y s p t
      go (rolled-back e q) = rolls-back (sym outcome ∙ e) (sym transactor ∙ q)
      go (annihilated-in e q) = annihilates (sym outcome ∙ e) (sym transactor ∙ q)

  -- The book after the step, and what is said of the fall.
  pub withdrawal : {t : ℕ} → RolledBackIn reply t → (c : Provenance) × ProvenanceStep y b p c × Withdrawal y s b s' c t
  withdrawal {t} f =
      let j = step-point y z k in
      let ok = taken.ok in
      let w = withdraws f in
      let q = state-kept taken.beside.well taken.beside.rel p ok.message in (
        q.after,
        q.step,
        subst (λ (x : State). Withdrawal y s b x q.after t) (sym taken.after) (record {
          withdrawn = withdrawn-then z j ok q.step w;
          resting = spoils z j ok q.step w;
          spoils = spoils-exactly z j ok q.step w;
          doomed = spoilt-through z j ok q.step w;
          unready = unready-before z j ok q.step w;
          nobody = nobody-holds z j ok q.step w;
          ready = ready-same z j ok q.step w;
          smallest = smallest-kept z j ok q.step w;
        }),
      )

-- At the ledger's own layout: no hypothesis but the trace.
pub withdrawal-base : {img : List ℕ} {τ : Trace base img} {s s' : State} {b : Provenance} {p : Step} {reply : List ℕ} → StepIn base img τ s b p reply s'
    → {t : ℕ} → RolledBackIn reply t → (c : Provenance) × ProvenanceStep base b p c × Withdrawal base s b s' c t
withdrawal-base k = withdrawal fitting-base k

-- ---- at every point: who rests on a take, and what is spoilt

module _ {y : Layout} (z : Fitting y) {img : List ℕ} {τ : Trace y img} {s : State} {b : Provenance} (k : Point y img τ s b) where
  -- A spoilt take is in no ready volume, after whatever steps, as long as it keeps its present life.
  pub doomed : {x : ℕ} → Spoilt b x → Doomed y s x
  doomed q = spoilt-doomed z (well z k) (related z k) q

  -- What the answer says of a live take, word by word.
  pub asked : (t : ℕ) → Live (b.holders t).status → DependentsMean b t (dependents_of y s t)
  asked t there = record { resting = resting-means z k t there; through = through-means z k t there; unfinished = unfinished-means z k t there; carried = carried-means z k t there }

-- What the call answers between two calls, if it is not refused.
pub dependents-answered : {y : Layout} (z : Fitting y) {img : List ℕ} (τ : Trace y img) {b : Provenance} → ProvenanceOf y (calls_of τ) b → (t : ℕ) → query_refusal y img t ≡ 0
    → DependentsMean b t (dependents_answer y img t)
unfolding dependents_answer
dependents-answered {y} z {img} τ f t e = rw (eq-eqb (query_refusal y img t) 0 e) (asked z (at-end {τ = τ} f) t (query-live z τ f t e))

pub dependents-answered-base : {img : List ℕ} (τ : Trace base img) {b : Provenance} → ProvenanceOf base (calls_of τ) b → (t : ℕ) → query_refusal base img t ≡ 0
    → DependentsMean b t (dependents_answer base img t)
dependents-answered-base = dependents-answered fitting-base

module _ {img : List ℕ} {τ : Trace base img} {s : State} {b : Provenance} (k : Point base img τ s b) where
  pub doomed-base : {x : ℕ} → Spoilt b x → Doomed base s x
  doomed-base q = doomed fitting-base k q

  pub asked-base : (t : ℕ) → Live (b.holders t).status → DependentsMean b t (dependents_of base s t)
  asked-base = asked fitting-base k
