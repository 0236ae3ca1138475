-- Document 02, W4: the ledger without the news keeps its states well-formed, is related to the same book, and a step of it replies what
-- the ledger's own step would reply from the same state.
use Prim.Native.Nat.{ℕ, ◌<◌}
use mathlib.Core.Bool.{Bool, true, false}
use mathlib.Core.Path.{◌≡◌, refl, ap, sym, ◌∙◌}
use native.Mathlib.Omega.{arith}
use lib.Dec.{eqb}
use lib.ListN.{length}
use borrow.Author.Tests.{eqb-true}
use Rattle.octets.specs.Bytes.{◌and◌}
use Rattle.octets.proofs.Zero.{both}
use Rattle.maps.proofs.News.{informed_table}
use Rattle.rules.specs.Layout.{Layout, Fitting}
use Rattle.rules.specs.Status.{idle}
use Rattle.rules.specs.State.{Transactor, Message, State, transactor_at, message_at, with_transactor, place_of}
use Rattle.rules.specs.declared.Step.{Step}
use Rattle.rules.specs.Step.{receive}
use Rattle.rules.specs.Rules.{Effect, Result, rollback, message_superseded, receiver_superseded, receive_by, receipt_rolls_back, seen, refusal, answer, apply_receive, step_of}
use Rattle.rules.specs.Internal.Well.{TransactorOk, Live, Alive, TransactorFormed, StepOk, WellFormed}
use Rattle.rules.proofs.Keep.Accepted.{Accepted, accepted, receiver-idle, rolls-received}
use Rattle.rules.proofs.Keep.Transactor.{TransactorWell, formed-alive, rollback-ok}
use Rattle.rules.proofs.Keep.State.{well-with_transactor, well-without_message}
use Rattle.rules.proofs.Keep.Step.{applied-same, keeps}
use Rattle.rules.proofs.ByKind.Applied.{applies}
use Rattle.session.specs.Provenance.{Provenance}
use Rattle.session.specs.Silent.{receive_silently, apply_silently, step_silently}
use Rattle.session.proofs.Model.{News, Ledger, view}
use Rattle.session.proofs.Tables.{pick-view, pick-both}
use Rattle.session.proofs.News.{silent, silent-law}
use Rattle.session.proofs.Relation.{Rel}
use Rattle.session.proofs.Messages.{receive_message}
use Rattle.session.proofs.Kept.{applied_ledger, step_ledger, Kept, step_kept}
use Rattle.session.proofs.ViewRules.{dropped_at, rolled_back_at, view-receive-silently}
use Rattle.session.proofs.ViewStep.{ready_at, step-tests, view-step, same-refusal}
use Rattle.rules.proofs.Keep.Kinds.{place-waits}

-- ---- a receipt that is not refused

-- it says what the ledger's says
said_same : (y : Layout) (t : ℕ) (x : Transactor) (m : Message) → ((receive_silently y t x m).outcome ≡ (receive_by y t x m).outcome) × ((receive_silently y t x m).value ≡ (receive_by y t x m).value)
unfolding receive_silently receive_by
said_same y t x m =
    let P : Effect → Effect → Type 0 = λ e f. (e.outcome ≡ f.outcome) × (e.value ≡ f.value) in
    pick-both P (message_superseded y x m) (message_superseded y x m) refl _ _ _ _ (λ e. (refl, refl)) λ e.
    pick-both P (receiver_superseded y x m) (receiver_superseded y x m) refl _ _ _ _ (λ f. (refl, refl)) (λ f. (refl, refl))

module _ {y : Layout} {s : State} {p : Step} (well : WellFormed y s) (k : eqb p.kind receive ≡ true) (a : Accepted y (seen y s) p) where
  abbrev waits : ℕ
  waits = place_of s p.message

  abbrev receiver : ℕ
  receiver = (message_at s waits).addressee

  abbrev x : Transactor
  x = transactor_at s receiver

  pub place : waits < length s.messages
  place = place-waits y s p a (rw k)

  receiver-opened : receiver < s.opened
  receiver-opened = well.addressees waits place

  below : receiver < y.transactors
  below = omega (arith, receiver-opened, well.opened, well.limits.transactors-high)

  alive : Alive y s.limits.checkpoints s.opened receiver x
  unfolding seen
  alive = formed-alive (well.transactors receiver below) receiver-opened (let r : x.status ≡ idle = receiver-idle a k in rw r)

  received-ok : TransactorWell y s.limits.checkpoints s.opened receiver (receive_silently y receiver x (message_at s waits)).transactor
  unfolding receive_silently seen receipt_rolls_back
  received-ok =
      let m : Message = message_at s waits in
      let o : TransactorOk y x = well.packable.transactors receiver below in
      let P : Effect → Type 0 = λ e. TransactorWell y s.limits.checkpoints s.opened receiver e.transactor in
      pick-view P (message_superseded y x m) _ _ (λ e. record { ok = o; formed = TransactorFormed.alive receiver-opened alive }) λ e.
      pick-view P (receiver_superseded y x m) (rollback y receiver x) _
      (λ f. (rollback-ok below receiver-opened o alive (λ c. omega (arith, rolls-received a k (rw (e, f) refl) c))).transactor) λ f.
      record {
        ok = record { status = omega arith; value = o.value; saved = o.saved; state = o.state; creation = o.creation; behaviour = (well.packable.messages waits place).dependences };
        formed = TransactorFormed.alive receiver-opened (record {
          status = Live.is-busy;
          state = alive.state;
          creation = alive.creation;
          behaviour = well.known waits place;
          own = alive.own;
          saved = alive.saved;
          behaves = λ e. absurd (omega arith);
        });
      }

  pub receipt-well : WellFormed y (apply_silently y s p).state
  unfolding apply_silently with_transactor
  receipt-well = well-without_message (well-with_transactor well receiver below received-ok.ok received-ok.formed) waits place

  pub receipt-view : view (apply_silently y s p).state ≡ receive_message silent (dropped_at y s p.message) (rolled_back_at y s p.message) (view s) p.message
  receipt-view = view-receive-silently well p place

-- ---- every step

-- news is of receipts that are not refused
news-apart : (w v : News) (n : ℕ) (d e ok : Bool) (l : Ledger) (p : Step) → eqb p.kind receive and eqb n 0 ≡ false → step_ledger w n d e ok l p ≡ step_ledger v n d e ok l p
unfolding step_ledger applied_ledger
news-apart w v n d e ok l p = go (eqb p.kind receive) (eqb n 0) refl refl
  where
    go : (a b : Bool) → eqb p.kind receive ≡ a → eqb n 0 ≡ b → a and b ≡ false → step_ledger w n d e ok l p ≡ step_ledger v n d e ok l p
    go true true i j f = let z : ◌≡◌ {A = ℕ} 0 1 = cc in absurd (omega arith)
    go true false i j f = rw j
    go false true i j f = rw (i, j)
    go false false i j f = rw j

module _ {y : Layout} (z : Fitting y) {s : State} (well : WellFormed y s) {p : Step} (ok : StepOk p) where
  abbrev pub case : Bool
  case = eqb p.kind receive and eqb (refusal y s p) 0

  module _ (e : case ≡ true) where
    pub is-receive : eqb p.kind receive ≡ true
    is-receive = (both (eqb p.kind receive) (eqb (refusal y s p) 0) e).0

    not-refused : refusal y s p ≡ 0
    not-refused = eqb-true (refusal y s p) 0 (both (eqb p.kind receive) (eqb (refusal y s p) 0) e).1

    pub is-accepted : Accepted y (seen y s) p
    unfolding refusal
    is-accepted = accepted y (seen y s) p not-refused

  pub keeps-silently : WellFormed y (step_silently y s p).state
  unfolding step_silently
  keeps-silently = pick-view (λ (r : Result). WellFormed y r.state) case _ _ (λ e. receipt-well well (is-receive e) (is-accepted e)) (λ e. keeps z well ok)

  pub view-silently : view (step_silently y s p).state ≡ step_ledger silent (refusal y s p) (dropped_at y s p.message) (rolled_back_at y s p.message) (ready_at y s p.message) (view s) p
  unfolding step_silently step_ledger applied_ledger apply_silently
  view-silently = pick-view (λ (r : Result). view r.state ≡ step_ledger silent (refusal y s p) (dropped_at y s p.message) (rolled_back_at y s p.message) (ready_at y s p.message) (view s) p) case _ _
      (λ e. rw (not-refused e, eqb-true p.kind receive (is-receive e)) (receipt-view well (is-receive e) (is-accepted e)))
      (λ e. view-step well p ok.message ∙ news-apart informed_table silent (refusal y s p) (dropped_at y s p.message) (rolled_back_at y s p.message) (ready_at y s p.message) (view s) p e)

  pub kept-silently : {b : Provenance} → Rel (view s) b → Kept y b p (view (step_silently y s p).state)
  kept-silently {b} r = rw view-silently
      (step_kept silent silent-law (view s) b r y p ok.message (dropped_at y s p.message) (rolled_back_at y s p.message) (ready_at y s p.message) (step-tests well p ok.message) (refusal y s p) (same-refusal well r p))

  -- the ledger's own receipt
  pub own-receipt : case ≡ true → step_of y s p ≡ apply_receive y s p
  own-receipt e = applied-same y s p (not-refused e) ∙ (applies y s p).receive (eqb-true p.kind receive (is-receive e))

  pub reply-silently : (step_silently y s p).reply ≡ (step_of y s p).reply
  unfolding step_silently apply_silently apply_receive
  reply-silently = pick-view (λ (r : Result). r.reply ≡ (step_of y s p).reply) case _ _
      (λ e.
      let t : ℕ = (message_at s (place_of s p.message)).addressee in
      let q = said_same y t (transactor_at s t) (message_at s (place_of s p.message)) in
      (λ i. answer (q.0 i) t p.message (q.1 i)) ∙ sym (ap (λ (r : Result). r.reply) (own-receipt e)))
      (λ e. refl)
