-- What a step that is no signing leaves of the book: present marks only move on, and the takes of a volume that is ready stay as they
-- are, but for what they are at work on.
use Prim.Native.Nat.{ℕ, ◌≤◌}
use mathlib.Core.Bool.{Bool, true, false}
use mathlib.Core.Path.{◌≡◌, refl, ◌∙◌}
use mathlib.Core.List.{[]}
use mathlib.Core.Logic.{◌≢◌}
use native.Mathlib.Omega.{arith}
use lib.Dec.{eqb, leb}
use borrow.Author.Tests.{eqb-true, eqb-false, le-leb}
use Rattle.marks.specs.Incarnation.{Incarnation}
use Rattle.marks.specs.History.{HistoryView, initial_view, stabilized_view, rolled_back_view}
use Rattle.marks.proofs.Histories.{◌⊑◌, ⊑_refl, ⊑_trans, ⊑-stabilized, ⊑-rolled_back, ⊑-annihilated, stable-is}
use Rattle.octets.specs.Table.{updated}
use Rattle.octets.proofs.Tables.{updated-view, updated-other}
use Rattle.rules.specs.Layout.{Layout}
use Rattle.rules.specs.declared.Step.{Step}
use Rattle.rules.specs.Step.{root, letter, receive, new, send, read, write, freeze, finish, fall, fail, lose, sign}
use Rattle.rules.proofs.Keep.Accepted.{kind-known}
use Rattle.session.specs.Provenance.{Status, idle, Live, is-idle, is-busy, Holder, WaitingMessage, Provenance, find}
use Rattle.session.specs.Steps.{is_nil, rolled_back_holder, reads, writes, freezes, finishes, rolls_back_or_finishes, rolls_back_or_stays, acted, is_dropped, is_rolled_back, received, receives, opens_root, opens_child, applied, provenance_refusal}
use Rattle.session.proofs.Model.{Ledger}
use Rattle.session.proofs.Tables.{pick-view, and-of}
use Rattle.session.proofs.Relation.{live-used, present_of, present, present-live, present-gone, Rel}
use Rattle.session.proofs.Locals.{is_nil-true}
use Rattle.session.proofs.Opening.{opening-is}
use Rattle.session.proofs.Accepted.{provenance-accepted, acting-live, receiving-live}

pub record Stays (h k : Holder) : Type 0 where
  pub history : k.history ≡ h.history
  pub state : k.state ≡ h.state
  pub creation : k.creation ≡ h.creation
  pub live : Live k.status

pub record Onward (v : ℕ → Bool) (H K : ℕ → Holder) : Type 0 where
  pub grow : (u : ℕ) → present H u ⊑ present K u
  pub same : (t : ℕ) → v t ≡ true → Stays (H t) (K t)

pub stays-refl : {h : Holder} → Live h.status → Stays h h
stays-refl k = record { history = refl; state = refl; creation = refl; live = k }

module _ (v : ℕ → Bool) (H : ℕ → Holder) (lives : (t : ℕ) → v t ≡ true → Live (H t).status) where
  onward-refl : Onward v H H
  onward-refl = record { grow = λ u. ⊑_refl _; same = λ t n. stays-refl (lives t n) }

  onward-put : (t : ℕ) (h : Holder) → present H t ⊑ present_of h.status h.history → (v t ≡ true → Stays (H t) h) → Onward v H (updated H t h)
  onward-put t h g s = record {
    grow = updated-view (λ u z. present H u ⊑ present_of z.status z.history) H t h g (λ u n. ⊑_refl _);
    same = updated-view (λ u z. v u ≡ true → Stays (H u) z) H t h s (λ u n k. stays-refl (lives u k));
  }

onward-trans : {v : ℕ → Bool} {H K J : ℕ → Holder} → Onward v H K → Onward v K J → Onward v H J
onward-trans p q = record {
  grow = λ u. ⊑_trans (p.grow u) (q.grow u);
  same = λ t n. let a = p.same t n in let c = q.same t n in record { history = c.history ∙ a.history; state = c.state ∙ a.state; creation = c.creation ∙ a.creation; live = c.live };
}

-- ---- one take

abbrev Grows : Holder → Holder → Type 0
Grows h k = h.history ⊑ present_of k.status k.history

grows_same : (h : Holder) {s : Status} {m : HistoryView} → Live s → m ≡ h.history → h.history ⊑ present_of s m
grows_same h {s} {m} live e = rw (present-live s m live, e) (⊑_refl _)

module _ (t : ℕ) (h : Holder) (live : Live h.status) (first : h.history.incarnation.checkpoints ≡ [] → h.history.incarnation.number ≡ 0) where
  rolled-grows : Grows h (rolled_back_holder t h)
  unfolding rolled_back_holder
  rolled-grows = pick-view (Grows h) (is_nil h.history.incarnation.checkpoints) _ _
      (λ e. let p = is_nil-true h.history.incarnation.checkpoints e in rw (present-gone initial_view) (⊑-annihilated h.history (λ i. record { checkpoints = p i; number = first p i })))
      (λ e. rw (present-live idle (rolled_back_view h.history) is-idle) (⊑-rolled_back h.history))

  -- kind k of 5 to 10
  acted-grows : (k : ℕ) → Grows h (acted k t h)
  unfolding acted reads writes freezes finishes rolls_back_or_finishes rolls_back_or_stays
  acted-grows k =
      pick-view (Grows h) (eqb k read) _ _ (λ e. grows_same h live refl) λ e0.
      pick-view (Grows h) (eqb k write) _ _ (λ e. pick-view (Grows h) h.history.stable _ _ (λ f. grows_same h live refl) (λ f. grows_same h live refl)) λ e1.
      pick-view (Grows h) (eqb k freeze) _ _ (λ e. rw (present-live h.status (stabilized_view h.history) live) (⊑-stabilized h.history)) λ e2.
      pick-view (Grows h) (eqb k finish) _ _ (λ e. grows_same h is-idle refl) λ e3.
      pick-view (Grows h) (eqb k fall) _ _ (λ e. pick-view (Grows h) h.history.stable _ _ (λ f. grows_same h is-idle refl) (λ f. rolled-grows)) λ e4.
      pick-view (Grows h) h.history.stable _ _ (λ f. grows_same h live refl) (λ f. rolled-grows)

  received-grows : (q : WaitingMessage) → Grows h (received t h q)
  unfolding received
  received-grows q =
      pick-view (Grows h) (is_dropped h q) _ _ (λ e. grows_same h live refl) λ e0.
      pick-view (Grows h) (is_rolled_back h q) _ _ (λ e. rolled-grows) (λ e. grows_same h is-busy refl)

  module _ (stable : h.history.stable ≡ true) where
    acted-stays : (k : ℕ) → Stays h (acted k t h)
    unfolding acted reads writes freezes finishes rolls_back_or_finishes rolls_back_or_stays
    acted-stays k =
        pick-view (Stays h) (eqb k read) _ _ (λ e. record { history = refl; state = refl; creation = refl; live = live }) λ e0.
        pick-view (Stays h) (eqb k write) _ _ (λ e. rw stable (stays-refl live)) λ e1.
        pick-view (Stays h) (eqb k freeze) _ _ (λ e. record { history = stable-is h.history stable; state = refl; creation = refl; live = live }) λ e2.
        pick-view (Stays h) (eqb k finish) _ _ (λ e. record { history = refl; state = refl; creation = refl; live = is-idle }) λ e3.
        pick-view (Stays h) (eqb k fall) _ _ (λ e. rw stable (record { history = refl; state = refl; creation = refl; live = is-idle })) λ e4.
        rw stable (stays-refl live)

    received-stays : (q : WaitingMessage) → is_rolled_back h q ≡ false → Stays h (received t h q)
    unfolding received
    received-stays q f =
        pick-view (Stays h) (is_dropped h q) _ _ (λ e. stays-refl live) (λ e. rw f (record { history = refl; state = refl; creation = refl; live = is-busy }))

-- ---- every step that is not refused and no signing

module _ (l : Ledger) (b : Provenance) (r : Rel l b) (y : Layout) (p : Step) (zero : provenance_refusal y b p ≡ 0) (v : ℕ → Bool)
    (lives : (t : ℕ) → v t ≡ true → Live (b.holders t).status)
    (stable : (t : ℕ) → v t ≡ true → (b.holders t).history.stable ≡ true)
    (stand : (t : ℕ) → v t ≡ true → (n : ℕ) → is_rolled_back (b.holders t) (find n b.messages) ≡ false) where
  abbrev H : ℕ → Holder
  H = b.holders

  put : (t : ℕ) (h : Holder) → Live (H t).status → Grows (H t) h → (v t ≡ true → Stays (H t) h) → Onward v H (updated H t h)
  put t h live g s = onward-put v H lives t h (rw (present-live (H t).status (H t).history live) g) s

  unnamed : v b.opened ≡ true → ⊥
  unnamed n = live-used (lives b.opened n) (r.fresh b.opened (omega arith))

  opened : (K : ℕ → Holder) → Onward v H K → K b.opened ≡ H b.opened → (h : Holder) → present_of h.status h.history ≡ initial_view → Onward v H (updated K b.opened h)
  opened K o e h i = onward-trans o (onward-put v K (λ t n. (o.same t n).live) b.opened h
      (rw (e, i, opening-is l b r) (⊑_refl _)) (λ n. absurd (unnamed n)))

  other-opened : (t : ℕ) → Live (H t).status → t ≢ b.opened
  other-opened t live e = live-used live (r.fresh t (omega arith))

  pub onward : (p.kind ≡ sign → ⊥) → Onward v H (applied b p).holders
  unfolding applied opens_root opens_child receives
  onward other =
      let t = p.transactor in let k = p.kind in let h = H t in
      let high = kind-known (provenance-accepted l b r y p zero) in
      let P : Provenance → Type 0 = λ c. Onward v H c.holders in
      let live : new ≤ k → k ≤ fail → Live h.status = λ f g. acting-live l b r y p zero (and-of (leb new k) (leb k fail) (le-leb new k f) (le-leb k fail g)) in
      pick-view P (eqb k root) _ _ (λ e. opened H (onward-refl v H lives) refl _ (present-live idle initial_view is-idle)) λ e0.
      pick-view P (eqb k letter) _ _ (λ e. onward-refl v H lives) λ e1.
      pick-view P (eqb k receive) _ _ (λ e.
      let q = find p.message b.messages in
      let w = receiving-live l b r y p zero (eqb-true k receive e) in
      put q.addressee _ w (received-grows q.addressee _ w (r.holders q.addressee).first q)
      (λ n. received-stays q.addressee _ w (r.holders q.addressee).first (stable _ n) q (stand _ n p.message))) λ e2.
      pick-view P (eqb k new) _ _ (λ e.
      let i = eqb-true k new e in
      let w = live (omega arith) (omega arith) in
      opened (updated H t _) (put t _ w (grows_same h w refl) (λ n. record { history = refl; state = refl; creation = refl; live = w })) (updated-other H t _ b.opened (other-opened t w)) _ (present-live idle initial_view is-idle)) λ e3.
      pick-view P (eqb k send) _ _ (λ e. onward-refl v H lives) λ e4.
      pick-view P (eqb k lose) _ _ (λ e. onward-refl v H lives) λ e5.
      let n0 = eqb-false k root e0 in let n1 = eqb-false k letter e1 in let n2 = eqb-false k receive e2 in let n5 = eqb-false k lose e5 in
      let w = live (omega arith) (omega arith) in
      put t _ w (acted-grows t h w (r.holders t).first k) (λ n. acted-stays t h w (r.holders t).first (stable t n) k)

-- such a step leaves the limits
pub limits-stay : (b : Provenance) (p : Step) → (applied b p).limits ≡ b.limits
unfolding applied opens_root opens_child receives
limits-stay b p =
    let P : Provenance → Type 0 = λ c. c.limits ≡ b.limits in
    pick-view P (eqb p.kind root) _ _ (λ e. refl) λ e0.
    pick-view P (eqb p.kind letter) _ _ (λ e. refl) λ e1.
    pick-view P (eqb p.kind receive) _ _ (λ e. refl) λ e2.
    pick-view P (eqb p.kind new) _ _ (λ e. refl) λ e3.
    pick-view P (eqb p.kind send) _ _ (λ e. refl) λ e4.
    pick-view P (eqb p.kind lose) _ _ (λ e. refl) (λ e5. refl)

-- such a step notes nothing and forgets nothing
pub notes : (b : Provenance) (p : Step) (t : ℕ) (a : Incarnation) (u : ℕ) (c : Incarnation) → ((applied b p).noted t a u c → b.noted t a u c) × (b.noted t a u c → (applied b p).noted t a u c)
unfolding applied opens_root opens_child receives
notes b p t a u c =
    let P : Provenance → Type 0 = λ d. (d.noted t a u c → b.noted t a u c) × (b.noted t a u c → d.noted t a u c) in
    pick-view P (eqb p.kind root) _ _ (λ e. (λ x. x, λ x. x)) λ e0.
    pick-view P (eqb p.kind letter) _ _ (λ e. (λ x. x, λ x. x)) λ e1.
    pick-view P (eqb p.kind receive) _ _ (λ e. (λ x. x, λ x. x)) λ e2.
    pick-view P (eqb p.kind new) _ _ (λ e. (λ x. x, λ x. x)) λ e3.
    pick-view P (eqb p.kind send) _ _ (λ e. (λ x. x, λ x. x)) λ e4.
    pick-view P (eqb p.kind lose) _ _ (λ e. (λ x. x, λ x. x)) (λ e5. (λ x. x, λ x. x))
