-- Document 02, W4: every step keeps the log: every frozen mark of a map, and every signed life, is in it.
use Prim.Native.Nat.{ℕ, ◌<◌, ◌≤◌}
use mathlib.Core.Bool.{Bool, true, false}
use mathlib.Core.Path.{◌≡◌, refl, ap, sym, ◌∙◌}
use mathlib.Core.Logic.{◌⊎◌, inl, inr}
use native.Mathlib.Omega.{arith}
use lib.Dec.{eqb}
use borrow.Author.Tests.{eqb-true, eqb-false}
use Rattle.octets.specs.Bytes.{pick}
use Rattle.octets.specs.Numbers.{bound}
use Rattle.marks.specs.Incarnation.{Incarnation, next_incarnation, checkpoint_incarnation, Checkpointed, begins}
use Rattle.marks.specs.History.{HistoryView, initial_view}
use Rattle.marks.proofs.Order.{checkpointed-up, checkpointed-irrefl, checkpointed-split, initial-precedes}
use Rattle.octets.specs.Table.{updated}
use Rattle.octets.proofs.Tables.{updated-view}
use Rattle.rules.specs.Layout.{Layout}
use Rattle.rules.specs.declared.Step.{Step}
use Rattle.rules.specs.Step.{root, letter, receive, new, send, read, write, freeze, finish, fall, lose, sign, fail}
use Rattle.rules.specs.Refusals.{named}
use Rattle.rules.proofs.Keep.Accepted.{kind-known}
use Rattle.rules.proofs.Keep.Kinds.{acts-between}
use Rattle.session.specs.Provenance.{Status, idle, busy, annihilated, Live, is-idle, is-busy, Holder, WaitingMessage, Provenance, blank, find}
use Rattle.session.specs.Steps.{anew, is_nil, rolled_back_holder, reads, writes, freezes, finishes, rolls_back_or_finishes, rolls_back_or_stays, acted, is_dropped, is_rolled_back, received, receives, opens_root, opens_child, applied, checkpointed_at, provenance_refusal, ProvenanceStep, refuses, applies, signing, not-ready}
use Rattle.session.proofs.Model.{News, Ledger}
use Rattle.session.proofs.Tables.{pick-view}
use Rattle.session.proofs.Sets.{cell-has}
use Rattle.session.proofs.Relation.{present_of, present, present-live, nothing-checkpointed, Rel, own-history}
use Rattle.session.proofs.Messages.{find-rel}
use Rattle.session.proofs.Sign.{own-has, own-uncheckpointed}
use Rattle.session.proofs.Accepted.{provenance-accepted, acting-live, receiving-live, named_live}
use Rattle.session.proofs.News.{NewsLaw}
use Rattle.session.proofs.Kept.{applied_ledger, step_ledger}
use Rattle.session.proofs.Log.{Log, LogAfter, earlier, just-now, LedgerLog, log-more, applied-log, backed-has}

-- ---- a step that is no signing signs no life

module _ (a : Incarnation) where
  live-past : (s : Status) (m n : HistoryView) → Live s → m.incarnation.checkpoints ≡ n.incarnation.checkpoints → Checkpointed a (present_of s m).incarnation → Checkpointed a n.incarnation
  live-past s m n k e c = go (rw (present-live s m k) at c)
    where
      go : Checkpointed a m.incarnation → Checkpointed a n.incarnation
      go (begins r i) = begins r (sym e ∙ i)

  initial-past : Checkpointed a initial_view.incarnation → ⊥
  initial-past c = checkpointed-irrefl (checkpointed-up c (initial-precedes a))

  module _ (t : ℕ) (h : Holder) (live : Live h.status) where
    abbrev Past : Holder → Type 0
    Past z = Checkpointed a (present_of z.status z.history).incarnation → Checkpointed a h.history.incarnation

    same-past : Past h
    same-past = live-past h.status h.history h.history live refl

    rolled_back-past : Past (rolled_back_holder t h)
    unfolding rolled_back_holder
    rolled_back-past = pick-view Past (is_nil h.history.incarnation.checkpoints) (blank annihilated) _
        (λ e c. absurd (nothing-checkpointed annihilated initial_view (λ k. elim k [ ]) c))
        (λ e. live-past idle (record { stable = false; incarnation = next_incarnation h.history.incarnation }) h.history is-idle refl)

    finish-past : Past (finishes h)
    unfolding finishes
    finish-past = live-past idle h.history h.history is-idle refl

    acted-past : (k : ℕ) → Past (acted k t h)
    unfolding acted reads writes freezes rolls_back_or_finishes rolls_back_or_stays
    acted-past k =
        pick-view Past (eqb k read) (reads h) _ (λ e. same-past) λ e1.
        pick-view Past (eqb k write) (writes h) _ (λ e. pick-view Past h.history.stable h _ (λ i. same-past) (λ i. same-past)) λ e2.
        pick-view Past (eqb k freeze) (freezes h) _ (λ e. live-past h.status (record { stable = true; incarnation = h.history.incarnation }) h.history live refl) λ e3.
        pick-view Past (eqb k finish) (finishes h) _ (λ e. finish-past) λ e4.
        pick-view Past (eqb k fall) (rolls_back_or_finishes t h) (rolls_back_or_stays t h)
        (λ e. pick-view Past h.history.stable (finishes h) (rolled_back_holder t h) (λ i. finish-past) (λ i. rolled_back-past))
        (λ e. pick-view Past h.history.stable h (rolled_back_holder t h) (λ i. same-past) (λ i. rolled_back-past))

    received-past : (q : WaitingMessage) → Past (received t h q)
    unfolding received
    received-past q =
        pick-view Past (is_dropped h q) h _ (λ e. same-past) λ e1.
        pick-view Past (is_rolled_back h q) (rolled_back_holder t h) _ (λ e. rolled_back-past) (λ e. live-past busy h.history h.history is-busy refl)

module _ (l : Ledger) (b : Provenance) (r : Rel l b) (y : Layout) (p : Step) (zero : provenance_refusal y b p ≡ 0) (a : Incarnation) where
  abbrev Onto : Provenance → Type 0
  Onto z = (u : ℕ) → Checkpointed a (present z.holders u).incarnation → Checkpointed a (present b.holders u).incarnation

  put-past : (t : ℕ) (h : Holder) → Live (b.holders t).status → (Checkpointed a (present_of h.status h.history).incarnation → Checkpointed a (b.holders t).history.incarnation)
      → (u : ℕ) → Checkpointed a (present (updated b.holders t h) u).incarnation → Checkpointed a (present b.holders u).incarnation
  put-past t h live k = updated-view (λ u (z : Holder). Checkpointed a (present_of z.status z.history).incarnation → Checkpointed a (present b.holders u).incarnation)
      b.holders t h (λ c. rw (present-live (b.holders t).status (b.holders t).history live) (k c)) (λ u n c. c)

  applied-past : (p.kind ≡ sign → ⊥) → Onto (applied b p)
  unfolding applied opens_root opens_child receives
  applied-past other =
      let t = p.transactor in let k = p.kind in let h = b.holders t in
      let high = kind-known (provenance-accepted l b r y p zero) in
      let live : new ≤ k → k ≤ fail → Live h.status = λ f g. acting-live l b r y p zero (acts-between k f g) in
      let opens : (z : Holder) → Checkpointed a (present_of idle initial_view).incarnation → ⊥ = λ z c. initial-past a (rw (present-live idle initial_view is-idle) at c) in
      pick-view Onto (eqb k root) _ _
      (λ i. updated-view (λ u (z : Holder). Checkpointed a (present_of z.status z.history).incarnation → Checkpointed a (present b.holders u).incarnation)
      b.holders b.opened (anew b.opened initial_view) (λ c. absurd (opens h c)) (λ u n c. c)) λ i1.
      pick-view Onto (eqb k letter) _ _ (λ i u c. c) λ i2.
      pick-view Onto (eqb k receive) _ _
      (λ i. let q = find p.message b.messages in let v = receiving-live l b r y p zero (eqb-true k receive i) in
      put-past q.addressee (received q.addressee (b.holders q.addressee) q) v (received-past a q.addressee (b.holders q.addressee) v q)) λ i3.
      pick-view Onto (eqb k new) _ _
      (λ i. let j = eqb-true k new i in let v = live (omega arith) (omega arith) in
      updated-view (λ u (z : Holder). Checkpointed a (present_of z.status z.history).incarnation → Checkpointed a (present b.holders u).incarnation)
      _ b.opened _ (λ c. absurd (opens h c)) (λ u n. put-past t _ v (same-past a t h v) u)) λ i4.
      pick-view Onto (eqb k send) _ _ (λ i u c. c) λ i5.
      pick-view Onto (eqb k lose) _ _ (λ i u c. c) λ i6.
      let n1 = eqb-false k root i1 in let n2 = eqb-false k letter i2 in let n3 = eqb-false k receive i3 in
      let n6 = eqb-false k lose i6 in
      let v : Live h.status = live (omega arith) (omega arith) in
      put-past t (acted k t h) v (acted-past a t h v k)

-- ---- the invariant

pub record Logged (l : Ledger) (b : Provenance) (f : Log) : Type 0 where
  -- every frozen mark of every map of every take and every waiting parcel is in the log
  pub ledger : LedgerLog f l
  -- and so is every signed life
  pub checkpointed : (u : ℕ) (a : Incarnation) → Checkpointed a (present b.holders u).incarnation → f u a

-- a live take that is frozen was frozen in its present life
pub present-logged : (l : Ledger) (b : Provenance) → Rel l b → (f : Log) → Logged l b f → (t : ℕ) → Live (b.holders t).status → (b.holders t).history.stable ≡ true → f t (b.holders t).history.incarnation
present-logged l b r f k t live e = backed-has ((k.ledger.nodes t).state t) ((r.holders t).own live) e

module _ (l : Ledger) (b : Provenance) (r : Rel l b) (y : Layout) (p : Step) (bits : p.message < bound 2) (f : Log) (k : Logged l b f) where
  checkpointed-kept : {c : Provenance} → ProvenanceStep y b p c → (u : ℕ) (a : Incarnation) → Checkpointed a (present c.holders u).incarnation → LogAfter y b p f u a
  unfolding checkpointed_at
  checkpointed-kept (refuses z) u a = λ c. earlier (k.checkpointed u a c)
  checkpointed-kept (applies z n) u a = λ c. earlier (k.checkpointed u a (applied-past l b r y p z a n u c))
  checkpointed-kept (not-ready z n q) u a = λ c. earlier (k.checkpointed u a c)
  checkpointed-kept (signing z n same) u a = pick-view (λ (h : Holder). Checkpointed a (present_of h.status h.history).incarnation → LogAfter y b p f u a) (named p.message u)
      (anew u (record { stable = false; incarnation = checkpoint_incarnation (b.holders u).history.incarnation })) (b.holders u)
      (λ e c. go (live e) (flag e) (checkpointed-split a (b.holders u).history.incarnation (rw (present-live idle _ is-idle) at c)))
      (λ e c. earlier (k.checkpointed u a c))
    where
      live : named p.message u ≡ true → Live (b.holders u).status
      live = named_live l b r y p z n bits u

      flag : named p.message u ≡ true → (b.holders u).history.stable ≡ true
      flag e = ((same u (b.holders u).history.incarnation).0 (own-uncheckpointed b p.message u e (own-has l b r u (live e)))).stable

      go : Live (b.holders u).status → (b.holders u).history.stable ≡ true → Checkpointed a (b.holders u).history.incarnation ⊎ (a ≡ (b.holders u).history.incarnation) → LogAfter y b p f u a
      go v i (inl s) = earlier (k.checkpointed u a (rw (present-live (b.holders u).status (b.holders u).history v) s))
      go v i (inr s) = earlier (rw s (present-logged l b r f k u v i))

  -- every kind of step, refused or not, with the news: whatever Bools stand for the tests at a receipt and at a signing
  pub log-kept : (w : News) → NewsLaw w → (d e ok : Bool) (n : ℕ) → n ≡ provenance_refusal y b p → {c : Provenance} → ProvenanceStep y b p c
      → Logged (step_ledger w n d e ok l p) c (LogAfter y b p f)
  unfolding step_ledger
  log-kept w law d e ok n s step = record { ledger = part; checkpointed = checkpointed-kept step }
    where
      more : LedgerLog (LogAfter y b p f) l
      more = log-more (λ u a. earlier) k.ledger

      part : LedgerLog (LogAfter y b p f) (pick (eqb n 0) (applied_ledger w d e ok l p) l)
      part = pick-view (LedgerLog (LogAfter y b p f)) (eqb n 0) _ l
          (λ i. applied-log (LogAfter y b p f) l more w law d e ok p
          (λ j. just-now (record { accepted = sym s ∙ eqb-true n 0 i; kind = j; transactor = refl; incarnation = ap (λ (z : HistoryView). z.incarnation) (own-history (r.holders p.transactor)) }))
          (λ u q x a c. earlier (k.checkpointed u a (checkpointed-up c (cell-has x ((find-rel p.message r.messages).incarnations u)).known.incarnation))))
          (λ i. more)
