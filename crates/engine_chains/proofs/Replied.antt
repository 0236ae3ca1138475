-- The ledger replies what the book would.
use Prim.Native.Nat.{ℕ}
use mathlib.Core.Bool.{Bool, true}
use mathlib.Core.Path.{◌≡◌, refl, ap, sym, ◌∙◌, subst}
use mathlib.Core.List.{List, [], ◌∷◌}
use mathlib.Core.Logic.{◌↔◌}
use lib.Dec.{eqb, eqb-suc-zero}
use lib.ListN.{length}
use borrow.Author.Tests.{eqb-true}
use Rattle.octets.specs.Bytes.{pick}
use Rattle.marks.specs.History.{HistoryView}
use Rattle.maps.specs.Internal.View.{SupersededView}
use Rattle.rules.specs.Layout.{Layout}
use Rattle.rules.specs.State.{Transactor, Message, State, transactor_at, message_at, own_history, place_of}
use Rattle.rules.specs.declared.Step.{Step}
use Rattle.rules.specs.declared.Told.{Told}
use Rattle.rules.specs.Step.{done, held, dropped, fallen_back, vanished, root, letter, receive, new, send, read, write, freeze, finish, fall, lose, sign, told}
use Rattle.rules.specs.Rules.{Effect, Result, message_superseded, receiver_superseded, rollback, read_by, write_by, freeze_by, finish_by, fall_by, fail_by, local_by, receive_by, seen, apply_root, apply_letter, apply_receive, apply_new, apply_send, apply_local, apply_lose, apply}
use Rattle.rules.specs.Internal.Well.{WellFormed}
use Rattle.session.specs.Provenance.{Holder, WaitingMessage, Provenance, find}
use Rattle.session.specs.Steps.{is_nil, is_dropped, is_rolled_back}
use Rattle.session.proofs.Model.{MessageView, own, find_message, known_map, view}
use Rattle.octets.proofs.Tests.{pick-view, pick-both}
use Rattle.session.proofs.Relation.{present, Rel, own-history, MessageRel}
use Rattle.session.proofs.Messages.{find-rel, dropped-same, rolled_back-same}
use Rattle.session.proofs.Seen.{seen_of}
use Rattle.session.proofs.ViewState.{own_view, view-find}
use Rattle.session.proofs.ViewSeen.{view-seen}
use Rattle.session.proofs.ViewRules.{dropped_at, rolled_back_at, dropped-test, rolled_back-test}
use Rattle.engine_chains.proofs.Replies.{rollback_outcome, receipt_outcome, acted_outcome, applied_told}

pub nil-length : (l : List ℕ) → eqb (length l) 0 ≡ is_nil l
nil-length [] = refl
nil-length (x ∷ xs) = eqb-suc-zero (length xs)

module _ {y : Layout} {s : State} (well : WellFormed y s) {b : Provenance} (r : Rel (view s) b) where
  module _ (t : ℕ) where
    abbrev x : Transactor
    x = transactor_at s t

    abbrev h : Holder
    h = b.holders t

    own_is : own t ((view s).nodes t) ≡ h.history
    own_is = own-history (r.holders t)

    pub own-stable : (own_history t x).stable ≡ h.history.stable
    unfolding view
    own-stable = ap (λ (m : HistoryView). m.stable) (sym (own_view well t) ∙ own_is)

    pub own_first : eqb (own_history t x).count 0 ≡ is_nil h.history.incarnation.checkpoints
    unfolding seen seen_of view
    own_first =
        let e : (own_history t x).count ≡ length (own t ((view s).nodes t)).incarnation.checkpoints = ap (λ v. v.checkpoints t) (view-seen well) in
        ap (λ n. eqb n 0) (e ∙ ap (λ (m : HistoryView). length m.incarnation.checkpoints) own_is) ∙ nil-length h.history.incarnation.checkpoints

    abbrev Same : Effect → ℕ → Type 0
    Same e o = e.outcome ≡ o

    rollback-same : (rollback y t x).outcome ≡ rollback_outcome h
    unfolding rollback rollback_outcome
    rollback-same = pick-both Same (eqb (own_history t x).count 0) (is_nil h.history.incarnation.checkpoints) own_first _ _ vanished fallen_back (λ e. refl) (λ e. refl)

    local_same : (k v : ℕ) → (local_by y k t v x).outcome ≡ acted_outcome k h
    unfolding local_by acted_outcome read_by write_by freeze_by finish_by fall_by fail_by
    local_same k v =
        let f : Bool = (own_history t x).stable in let g : Bool = h.history.stable in
        pick-both Same (eqb k read) (eqb k read) refl _ _ done _ (λ e. refl) λ e.
        pick-both Same (eqb k write) (eqb k write) refl _ _ (pick g held done) _ (λ e. pick-both Same f g own-stable _ _ held done (λ e. refl) (λ e. refl)) λ e.
        pick-both Same (eqb k freeze) (eqb k freeze) refl _ _ done _ (λ e. refl) λ e.
        pick-both Same (eqb k finish) (eqb k finish) refl _ _ done _ (λ e. refl) λ e.
        pick-both Same (eqb k fall) (eqb k fall) refl _ _ (pick g held (rollback_outcome h)) (pick g held (rollback_outcome h))
        (λ e. pick-both Same f g own-stable _ _ held (rollback_outcome h) (λ e. refl) (λ e. rollback-same))
        (λ e. pick-both Same f g own-stable _ _ held (rollback_outcome h) (λ e. refl) (λ e. rollback-same))

  module _ (n : ℕ) where
    abbrev q : WaitingMessage
    q = find n b.messages

    abbrev m : Message
    m = message_at s (place_of s n)

    related : MessageRel (present b.holders) (find_message n (view s).messages) q
    related = find-rel n r.messages

    pub to_same : m.addressee ≡ q.addressee
    to_same = ap (λ (z : MessageView). z.addressee) (sym (view-find s n)) ∙ related.addressee

    pub dropped-is : dropped_at y s n ≡ is_dropped (b.holders q.addressee) q
    dropped-is = dropped-same (r.holders q.addressee) related (dropped_at y s n)
        (subst (λ t. (dropped_at y s n ≡ true) ↔ SupersededView (find_message n (view s).messages).dependences (known_map ((view s).nodes t))) related.addressee (dropped-test well n))

    pub rolled_back-is : rolled_back_at y s n ≡ is_rolled_back (b.holders q.addressee) q
    rolled_back-is = rolled_back-same (r.holders q.addressee) related (rolled_back_at y s n)
        (subst (λ t. (rolled_back_at y s n ≡ true) ↔ SupersededView (known_map ((view s).nodes t)) (find_message n (view s).messages).dependences) related.addressee (rolled_back-test well n))

    receipt-same : (receive_by y m.addressee (transactor_at s m.addressee) m).outcome ≡ receipt_outcome (b.holders q.addressee) q
    unfolding receive_by receipt_outcome dropped_at rolled_back_at
    receipt-same =
        let t : ℕ = m.addressee in
        pick-both (λ (e : Effect) (o : ℕ). e.outcome ≡ o) (message_superseded y (transactor_at s t) m) (is_dropped (b.holders q.addressee) q) dropped-is _ _ dropped _ (λ e. refl) λ e.
        pick-both (λ (e : Effect) (o : ℕ). e.outcome ≡ o) (receiver_superseded y (transactor_at s t) m) (is_rolled_back (b.holders q.addressee) q) rolled_back-is _ _ (rollback_outcome (b.holders q.addressee)) done
        (λ e. rollback-same t ∙ ap (λ k. rollback_outcome (b.holders k)) to_same) (λ e. refl)

  pub told_same : (p : Step) → (p.kind ≡ sign → ⊥) → told (apply y s p).reply ≡ applied_told b p
  unfolding apply applied_told apply_root apply_letter apply_receive apply_new apply_send apply_lose apply_local view
  told_same p other =
      let k : ℕ = p.kind in
      let t : ℕ = p.transactor in
      let n : ℕ = p.message in
      let P : Result → Told → Type 0 = λ z w. told z.reply ≡ w in
      pick-both P (eqb k root) (eqb k root) refl _ _ _ _ (λ e. λ i. record { outcome = done; transactor = r.opened i; message = 0 }) λ e.
      pick-both P (eqb k letter) (eqb k letter) refl _ _ _ _ (λ e. λ i. record { outcome = done; transactor = t; message = r.next i }) λ e.
      pick-both P (eqb k receive) (eqb k receive) refl _ _ _ _ (λ e. λ i. record { outcome = receipt-same n i; transactor = to_same n i; message = n }) λ e.
      pick-both P (eqb k new) (eqb k new) refl _ _ _ _ (λ e. λ i. record { outcome = done; transactor = r.opened i; message = 0 }) λ e.
      pick-both P (eqb k send) (eqb k send) refl _ _ _ _ (λ e. λ i. record { outcome = done; transactor = t; message = r.next i }) λ e.
      pick-both P (eqb k lose) (eqb k lose) refl _ _ _ _ (λ e. refl) λ e.
      pick-view (λ (z : Result). told z.reply ≡ record { outcome = acted_outcome k (b.holders t); transactor = t; message = 0 }) (eqb k sign) _ _
      (λ e. absurd (other (eqb-true k sign e))) (λ e. λ i. record { outcome = local_same t k p.value i; transactor = t; message = 0 })
