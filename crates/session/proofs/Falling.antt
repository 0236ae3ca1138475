-- A step by which a take falls, on both sides: the reply's outcome is 3 or 4; in the book that take alone is another, and the life that it
-- had is past.
use Prim.Native.Nat.{ℕ, ◌≤◌, ◌<◌}
use mathlib.Core.Bool.{Bool, true}
use mathlib.Core.Path.{◌≡◌, refl, ap, sym, ◌∙◌, subst}
use mathlib.Core.Logic.{◌≢◌}
use mathlib.Core.Option.{Option, get_or}
use native.Mathlib.Decide.{ℕ_discrete}
use native.Mathlib.Omega.{arith}
use lib.Dec.{eqb, leb}
use lib.ListN.{length}
use borrow.Author.Tests.{eqb-true, eqb-false, le-leb}
use Rattle.octets.specs.Numbers.{bound}
use Rattle.marks.specs.Incarnation.{Incarnation, Superseded}
use Rattle.marks.specs.History.{HistoryView, initial_view, rolled_back, rolled_back_view, checkpointed_view, view_of}
use Rattle.marks.proofs.Order.{superseded-next, superseded-irrefl, superseded-not-checkpointed, checkpointed-checkpoint}
use Rattle.marks.proofs.Histories.{view-rolled_back}
use Rattle.octets.specs.Table.{updated}
use Rattle.octets.proofs.Tables.{updated-view, updated-other}
use Rattle.rules.specs.Layout.{Layout}
use Rattle.rules.specs.State.{Transactor, Message, State, transactor_at, message_at, own_history, with_transactor, without_message, place_of}
use Rattle.rules.specs.Status as number
use Rattle.rules.specs.declared.Step.{Step}
use Rattle.rules.specs.Step.{root, letter, receive, new, send, read, write, freeze, finish, fall, fail, lose, sign}
use Rattle.rules.specs.Refusals.{named, acts}
use Rattle.rules.specs.Rules.{Effect, Result, rollback, read_by, write_by, freeze_by, finish_by, fall_by, fail_by, local_by, message_superseded, receiver_superseded, receive_by, group_ready, seen, refusal, apply_root, apply_letter, apply_receive, apply_new, apply_send, apply_local, apply_lose, apply_sign, apply, step_of}
use Rattle.rules.specs.Internal.Well.{WellFormed}
use Rattle.rules.proofs.Pack.Stores.{with_transactor-here}
use Rattle.rules.proofs.ByKind.Outcomes.{Judged, refused, applied, judged}
use Rattle.rules.proofs.Keep.Accepted.{accepted}
use Rattle.rules.proofs.Keep.Step.{applied-same}
use Rattle.session.specs.Provenance.{idle, annihilated, Live, is-idle, Holder, Provenance, find}
use Rattle.session.specs.Steps.{anew, opens_root, opens_child, receives, checkpointed_at, provenance_refusal, ProvenanceStep, refuses, signing, not-ready}
use Rattle.session.specs.Steps as book
use Rattle.session.specs.Withdrawal.{Withdraws, rolls-back, annihilates}
use Rattle.session.proofs.Model.{Ledger, Node, MessageView, own, anew_node, status_of, view_node, view}
use Rattle.session.proofs.Tables.{pick-view, and-of}
use Rattle.session.proofs.Sets.{only_same}
use Rattle.session.proofs.Relation.{live-used, Rel, own-history}
use Rattle.session.proofs.Accepted.{acting-live, receiving-live}
use Rattle.session.proofs.Messages.{find-rel}
use Rattle.session.proofs.Onward.{notes}
use Rattle.session.proofs.ViewState.{view-anew, own_view, view-find}
use Rattle.session.proofs.ViewStep.{applicable, same-refusal}
use Rattle.session.proofs.Turns.{dead-live, Past, passed, vanished}

-- ---- the ledger's rules: which steps reply 3 or 4

module _ (y : Layout) (t : ℕ) (x : Transactor) where
  -- an effect with such an outcome is the fall
  abbrev OnlyFall : Effect → Type 0
  OnlyFall e = 3 ≤ e.outcome → e.transactor ≡ (rollback y t x).transactor

  local-fall : (k v : ℕ) → OnlyFall (local_by y k t v x)
  unfolding local_by read_by write_by freeze_by finish_by fall_by fail_by
  local-fall k v =
      let held : Bool = (own_history t x).stable in
      pick-view OnlyFall (eqb k read) _ _ (λ e h. absurd (omega arith)) λ e0.
      pick-view OnlyFall (eqb k write) _ _ (λ e. pick-view OnlyFall held _ _ (λ e h. absurd (omega arith)) (λ e h. absurd (omega arith))) λ e1.
      pick-view OnlyFall (eqb k freeze) _ _ (λ e h. absurd (omega arith)) λ e2.
      pick-view OnlyFall (eqb k finish) _ _ (λ e h. absurd (omega arith)) λ e3.
      pick-view OnlyFall (eqb k fall) _ _ (λ e. pick-view OnlyFall held _ _ (λ e h. absurd (omega arith)) (λ e h. refl)) λ e4.
      pick-view OnlyFall held _ _ (λ e h. absurd (omega arith)) (λ e h. refl)

  receive-fall : (q : Message) → OnlyFall (receive_by y t x q)
  unfolding receive_by
  receive-fall q =
      pick-view OnlyFall (message_superseded y x q) _ _ (λ e h. absurd (omega arith)) λ e0.
      pick-view OnlyFall (receiver_superseded y x q) _ _ (λ e h. refl) (λ e h. absurd (omega arith))

-- what is left of take t
pub record Rolled (y : Layout) (s : State) (t : ℕ) (after : State) : Type 0 where
  pub below : t < y.transactors
  pub is : transactor_at after t ≡ (rollback y t (transactor_at s t)).transactor

module _ {y : Layout} {s : State} (well : WellFormed y s) {b : Provenance} (r : Rel (view s) b) (p : Step) (bits : p.message < bound 2) where
  many : length s.transactors ≡ y.transactors
  many = well.packable.many

  module _ (zero : refusal y s p ≡ 0) where
    here : (t : ℕ) (x : Transactor) → t < y.transactors → transactor_at (with_transactor s t x) t ≡ x
    here t x h = with_transactor-here s t x (omega (arith, many))

    there : (t : ℕ) (x : Transactor) (k : ℕ) → t < y.transactors → transactor_at (without_message (with_transactor s t x) k) t ≡ x
    unfolding transactor_at without_message with_transactor
    there t x k h = here t x h

    abbrev RolledTo : Result → Type 0
    RolledTo q = 3 ≤ q.reply.outcome → q.reply.outcome ≤ 4 → Live (b.holders q.reply.transactor).status × Rolled y s q.reply.transactor q.state

    applied-rolled : RolledTo (apply y s p)
    unfolding apply apply_root apply_letter apply_receive apply_new apply_send apply_lose apply_sign apply_local refusal
    applied-rolled =
        let k : ℕ = p.kind in
        let z : provenance_refusal y b p ≡ 0 = sym (same-refusal well r p) ∙ zero in
        let ok = accepted y (seen y s) p zero in
        let a = applicable well bits ok in
        let m : ℕ = place_of s p.message in
        let q : Message = message_at s m in
        pick-view RolledTo (eqb k root) _ _ (λ e h g. absurd (omega arith)) λ e0.
        pick-view RolledTo (eqb k letter) _ _ (λ e h g. absurd (omega arith)) λ e1.
        pick-view RolledTo (eqb k receive) _ _ (λ e h g. (
          receiver (eqb-true k receive e) z,
          record { below = omega (arith, well.opened, well.limits.transactors-high, well.addressees m (a.waits e)); is = there q.addressee _ m (omega (arith, well.opened, well.limits.transactors-high, well.addressees m (a.waits e))) ∙ receive-fall y q.addressee (transactor_at s q.addressee) q h },
        )) λ e2.
        pick-view RolledTo (eqb k new) _ _ (λ e h g. absurd (omega arith)) λ e3.
        pick-view RolledTo (eqb k send) _ _ (λ e h g. absurd (omega arith)) λ e4.
        pick-view RolledTo (eqb k lose) _ _ (λ e h g. absurd (omega arith)) λ e5.
        pick-view RolledTo (eqb k sign) _ _ (λ e. pick-view RolledTo (group_ready y s p.message) _ _ (λ f h g. absurd (omega arith)) (λ f h g. absurd (omega arith))) λ e6.
        λ h g.
        let low : new ≤ k = omega (arith, eqb-false k root e0, eqb-false k letter e1, eqb-false k receive e2) in
        let high : k ≤ fail = omega (arith, a.kind, eqb-false k lose e5, eqb-false k sign e6) in
        let acting : acts k ≡ true = and-of (leb new k) (leb k fail) (le-leb new k low) (le-leb k fail high) in (
          acting-live (view s) b r y p z acting,
          record { below = a.acting acting; is = here p.transactor _ (a.acting acting) ∙ local-fall y p.transactor (transactor_at s p.transactor) k p.value h },
        )
      where
        receiver : p.kind ≡ receive → provenance_refusal y b p ≡ 0 → Live (b.holders (message_at s (place_of s p.message)).addressee).status
        receiver e z =
            let q : (message_at s (place_of s p.message)).addressee ≡ (find p.message b.messages).addressee = sym (ap (λ (m : MessageView). m.addressee) (view-find s p.message)) ∙ (find-rel p.message r.messages).addressee in
            subst (λ (t : ℕ). Live (b.holders t).status) (sym q) (receiving-live (view s) b r y p z e)

  -- a step that makes take t fall: it was live, and is rolled back
  pub rolled : {t : ℕ} → Withdraws y s p t → Live (b.holders t).status × Rolled y s t (step_of y s p).state
  rolled {t} w = go (judged y s p)
    where
      low : Withdraws y s p t → (3 ≤ (step_of y s p).reply.outcome) × ((step_of y s p).reply.outcome ≤ 4) × ((step_of y s p).reply.transactor ≡ t)
      low (rolls-back e q) = (omega arith, omega arith, q)
      low (annihilates e q) = (omega arith, omega arith, q)

      go : Judged y s p → Live (b.holders t).status × Rolled y s t (step_of y s p).state
      go (refused h e) = let k = (low w).1 in absurd (omega arith)
      go (applied zero h) =
          let k = low w in
          let f = subst (RolledTo zero) (sym (applied-same y s p zero)) (applied-rolled zero) k.0 k.1 in
          subst (λ (u : ℕ). Live (b.holders u).status × Rolled y s u (step_of y s p).state) k.2 f

-- ---- beside the book: the life that it had is past

module _ {y : Layout} {s after : State} (well : WellFormed y s) (well2 : WellFormed y after) {b c : Provenance} (r : Rel (view s) b) (r2 : Rel (view after) c) {t : ℕ} (k : Rolled y s t after) where
  abbrev life : Incarnation
  life = (b.holders t).history.incarnation

  mark-before : view_of (own_history t (transactor_at s t)) ≡ (b.holders t).history
  unfolding view
  mark-before = sym (own_view well t) ∙ own-history (r.holders t)

  node-after : view_node (rollback y t (transactor_at s t)).transactor ≡ (view after).nodes t
  unfolding view
  node-after = ap view_node (sym k.is)

  pub rolled-past : Past (c.holders t) life
  unfolding rollback status_of
  rolled-past = pick-view (λ (e : Effect). view_node e.transactor ≡ (view after).nodes t → Past (c.holders t) life) (eqb (own_history t (transactor_at s t)).count 0) _ _
      (λ e q. vanished (sym (r2.holders t).status ∙ ap (λ (n : Node). n.status) (sym q) ∙ gone-is))
      (λ e q.
      let n : (view after).nodes t ≡ anew_node t (view_of (rolled_back (own_history t (transactor_at s t)))) = sym q ∙ view-anew y t (transactor_at s t).saved (transactor_at s t).saved (rolled_back (own_history t (transactor_at s t))) k.below in
      let status : (c.holders t).status ≡ idle = sym (r2.holders t).status ∙ ap (λ (n : Node). n.status) n in
      let mark : (c.holders t).history ≡ rolled_back_view (b.holders t).history =
      sym (own-history (r2.holders t)) ∙ ap (own t) n ∙ ap (λ (o : Option HistoryView). get_or o initial_view) (only_same t (view_of (rolled_back (own_history t (transactor_at s t)))))
      ∙ view-rolled_back (own_history t (transactor_at s t)) ∙ ap rolled_back_view mark-before in
      passed (subst Live (sym status) is-idle) (subst (λ (m : HistoryView). Superseded life m.incarnation) (sym mark) (superseded-next life)))
      node-after
    where
      gone-is : status_of number.annihilated ≡ annihilated
      gone-is = refl

-- ---- the book: no other take is changed

-- a live take's present life is not past
pub present-not-past : {h : Holder} → Live h.status → Past h h.history.incarnation → ⊥
present-not-past w (passed l s) = superseded-irrefl s
present-not-past w (vanished e) = dead-live e w

-- take t alone is another, and nothing was noted or forgotten
pub record Alone (b c : Provenance) (t : ℕ) : Type 0 where
  pub others : (u : ℕ) → t ≢ u → c.holders u ≡ b.holders u
  pub noted : (v : ℕ) (a : Incarnation) (u : ℕ) (d : Incarnation) → (c.noted v a u d → b.noted v a u d) × (b.noted v a u d → c.noted v a u d)

module _ (l : Ledger) (b : Provenance) (r : Rel l b) (y : Layout) (p : Step) (t : ℕ) (live : Live (b.holders t).status) where
  abbrev H : ℕ → Holder
  H = b.holders

  -- where t's life is past, the takes but t are as they were
  abbrev Others : (ℕ → Holder) → Type 0
  Others K = Past (K t) (H t).history.incarnation → (u : ℕ) → t ≢ u → K u ≡ H u

  same-others : Others H
  same-others q = absurd (present-not-past live q)

  put-others : (w : ℕ) (h : Holder) → Others (updated H w h)
  put-others w h q u n = go (ℕ_discrete w t)
    where
      go : Dec (w ≡ t) → updated H w h u ≡ H u
      go (yes e) = updated-other H w h u (λ f. n (sym e ∙ f))
      go (no f) = absurd (present-not-past live (subst (λ (k : Holder). Past k (H t).history.incarnation) (updated-other H w h t f) q))

  -- a take of the table K whose status and history are t's
  kept-others : (K : ℕ → Holder) → (K t).status ≡ (H t).status → (K t).history ≡ (H t).history → Others K
  kept-others K e f q = absurd (present-not-past {h = K t} (subst Live (sym e) live) (subst (λ (m : HistoryView). Past (K t) m.incarnation) (sym f) q))

  opened-other : b.opened ≢ t
  opened-other e = live-used live (r.fresh t (omega arith))

  applied-others : Others (book.applied b p).holders
  unfolding book.applied opens_root opens_child receives
  applied-others =
      let k = p.kind in
      let P : Provenance → Type 0 = λ c. Others c.holders in
      pick-view P (eqb k root) _ _ (λ e. put-others b.opened _) λ e0.
      pick-view P (eqb k letter) _ _ (λ e. same-others) λ e1.
      pick-view P (eqb k receive) _ _ (λ e. put-others (find p.message b.messages).addressee _) λ e2.
      pick-view P (eqb k new) _ _ (λ e. kept-others (updated (updated H p.transactor _) b.opened _)
      (ap (λ (h : Holder). h.status) (updated-other (updated H p.transactor _) b.opened _ t opened-other) ∙ opener (λ (h : Holder). h.status) refl)
      (ap (λ (h : Holder). h.history) (updated-other (updated H p.transactor _) b.opened _ t opened-other) ∙ opener (λ (h : Holder). h.history) refl)) λ e3.
      pick-view P (eqb k send) _ _ (λ e. same-others) λ e4.
      pick-view P (eqb k lose) _ _ (λ e. same-others) λ e5.
      put-others p.transactor _
    where
      opener : {A : Type 0} (f : Holder → A) {h : Holder} → f h ≡ f (H p.transactor) → f (updated H p.transactor h t) ≡ f (H t)
      opener f {h} e = updated-view (λ (u : ℕ) (k : Holder). f k ≡ f (H u)) H p.transactor h e (λ u n. refl) t

  pub checkpointed-others : (g : ℕ) → Past (checkpointed_at b g t) (H t).history.incarnation → ⊥
  unfolding checkpointed_at
  checkpointed-others g = pick-view (λ (h : Holder). Past h (H t).history.incarnation → ⊥) (named g t) _ _ (λ e. new-mark) (λ e. present-not-past live)
    where
      new-mark : Past (anew t (checkpointed_view (H t).history)) (H t).history.incarnation → ⊥
      new-mark (passed w s) = superseded-not-checkpointed s (checkpointed-checkpoint (H t).history.incarnation)
      new-mark (vanished e) = dead-live e is-idle

  pub alone : {c : Provenance} → ProvenanceStep y b p c → Past (c.holders t) (b.holders t).history.incarnation → Alone b c t
  alone (refuses z) q = absurd (present-not-past live q)
  alone (book.applies z n) q = record { others = applied-others q; noted = notes b p }
  alone (signing z k e) q = absurd (checkpointed-others p.message q)
  alone (not-ready z k e) q = absurd (present-not-past live q)
