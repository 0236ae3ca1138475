-- What a step did, by its reply and the lives after it: the same as by the book's step.
use Prim.Native.Nat.{ℕ, ◌≤◌}
use mathlib.Core.Bool.{Bool, true, false, true≢false, false≢true}
use mathlib.Core.Path.{◌≡◌, refl, ap, sym, ◌∙◌}
use mathlib.Core.List.{[], ◌++◌}
use mathlib.Core.Option.{Option, none, some}
use native.Mathlib.Omega.{arith}
use lib.Dec.{eqb}
use borrow.Author.Tests.{eq-eqb, eqb-true, ne_eqb}
use Rattle.octets.specs.Bytes.{pick, ◌and◌}
use Rattle.octets.proofs.Zero.{both}
use Rattle.marks.specs.Incarnation.{Incarnation, initial_incarnation, next_incarnation, checkpoint_incarnation}
use Rattle.marks.specs.History.{initial_view}
use Rattle.octets.specs.Table.{updated}
use Rattle.octets.proofs.Tables.{updated-view, updated-same}
use Rattle.rules.specs.declared.Step.{Step}
use Rattle.rules.specs.declared.Told.{Told}
use Rattle.rules.specs.Step.{done, held, dropped, fallen_back, vanished, not_ready, root, letter, receive, new, send, read, write, freeze, finish, fall, lose, sign}
use Rattle.rules.specs.Refusals.{named}
use Rattle.session.specs.Provenance.{idle, annihilated, one, Holder, WaitingMessage, Provenance, blank, find, with_holder, with_waiting_message, without_waiting_message}
use Rattle.session.specs.Steps.{anew, carried, is_nil, rolled_back_holder, reads, writes, freezes, finishes, rolls_back_or_finishes, rolls_back_or_stays, acted, is_dropped, is_rolled_back, received, receives, opens_root, opens_child, checkpointed_at, applied, signs}
use Rattle.engine_chains.specs.Chain as chain
use Rattle.engine_chains.specs.Chain.{Places, Event, back, met_of}
use Rattle.engine_chains.specs.Back.{rollback_from, receipt_from, local_from, event_from}
use Rattle.engine_chains.specs.Internal.Walk.{was_rolled_back, was_checkpointed}
use Rattle.engine_chains.specs.Internal.Book.{rollback_event, acted_event, receipt_event, applied_event, sign_event, incarnations_in}
use Rattle.engine_chains.proofs.Walked.{Turned, stays, rolled-back, checkpointed-now}
use Rattle.octets.proofs.Tests.{pick-view, pick-both}
use Rattle.session.proofs.Locals.{is_nil-true}

-- ---- events that do the same

pub data Alike : Event → Event → Type 0 where
  alike_same : {e : Event} → Alike e e
  alike-renewed : {v : ℕ → Bool} {a c : ℕ → Incarnation} → ((u : ℕ) → v u ≡ true → a u ≡ c u) → Alike (chain.renewed v a) (chain.renewed v c)
  alike-later : {d e f : Event} → Alike e f → Alike (chain.successive d e) (chain.successive d f)

pub alike-back : {e f : Event} → Alike e f → (Q : Places) → back e Q ≡ back f Q
unfolding back
alike-back alike_same Q = refl
alike-back (alike-renewed k) Q = refl
alike-back (alike-later {d = d} x) Q = ap (back d) (alike-back x Q)

pub alike-met_of : {e f : Event} → Alike e f → (Q : Places) (u : ℕ) → met_of e Q u ≡ met_of f Q u
unfolding met_of
alike-met_of alike_same Q u = refl
alike-met_of (alike-renewed {v} {a} {c} k) Q u =
    pick-both (λ (x y : Option Incarnation). x ≡ y) (v u and Q.state u) (v u and Q.state u) refl (some (a u)) none (some (c u)) none (λ e. ap some (k u (both (v u) (Q.state u) e).0)) (λ e. refl)
alike-met_of (alike-later {d} {e} {f} x) Q u = rw (alike-met_of x Q u, alike-back x Q)

-- ---- what the book would reply

unfoldable pub rollback_outcome : Holder → ℕ
rollback_outcome h = pick (is_nil h.history.incarnation.checkpoints) vanished fallen_back

unfoldable pub receipt_outcome : Holder → WaitingMessage → ℕ
receipt_outcome h q = pick (is_dropped h q) dropped (pick (is_rolled_back h q) (rollback_outcome h) done)

unfoldable pub acted_outcome : ℕ → Holder → ℕ
acted_outcome k h =
    pick (eqb k read) done
    (pick (eqb k write) (pick h.history.stable held done)
    (pick (eqb k freeze) done
    (pick (eqb k finish) done
    (pick (eqb k fall) (pick h.history.stable held (rollback_outcome h))
    (pick h.history.stable held (rollback_outcome h))))))

abbrev tell : ℕ → ℕ → ℕ → Told
tell o t n = record { outcome = o; transactor = t; message = n }

unfoldable pub applied_told : Provenance → Step → Told
applied_told b p =
    let t : ℕ = p.transactor in
    let n : ℕ = p.message in
    let q : WaitingMessage = find n b.messages in
    pick (eqb p.kind root) (tell done b.opened 0)
    (pick (eqb p.kind letter) (tell done t b.next)
    (pick (eqb p.kind receive) (tell (receipt_outcome (b.holders q.addressee) q) q.addressee n)
    (pick (eqb p.kind new) (tell done b.opened 0)
    (pick (eqb p.kind send) (tell done t b.next)
    (pick (eqb p.kind lose) (tell done 0 n)
    (tell (acted_outcome p.kind (b.holders t)) t 0))))))

-- ---- one take: from h to k, with outcome o, event e, and by the replies F o

pub pick-three {ℓ} : {A B : Type 0} {C : Type ℓ} (P : A → C → B → Type 0) (t : Bool) (x y : A) (z w : C) (u v : B) → (t ≡ true → P x z u) → (t ≡ false → P y w v) → P (pick t x y) (pick t z w) (pick t u v)
pick-three P true x y z w u v f g = f refl
pick-three P false x y z w u v f g = g refl

record OneTold (t : ℕ) (h : Holder) (F : ℕ → (ℕ → Incarnation) → Event) (o : ℕ) (k : Holder) (e : Event) : Type 0 where
  event : (L : ℕ → Incarnation) → L t ≡ k.history.incarnation → Alike (F o L) e
  rolled-back : eqb o fallen_back ≡ true → k.history.incarnation ≡ next_incarnation h.history.incarnation
  kept : eqb o fallen_back ≡ false → k.history.incarnation ≡ h.history.incarnation
  small : o ≤ not_ready

-- nothing of the life changes
plain-told : {t : ℕ} {h : Holder} (F : ℕ → (ℕ → Incarnation) → Event) (o : ℕ) (k : Holder) (e : Event) → ((L : ℕ → Incarnation) → Alike (F o L) e) → eqb o fallen_back ≡ false → o ≤ not_ready
    → k.history.incarnation ≡ h.history.incarnation → OneTold t h F o k e
plain-told F o k e f n l i = record { event = λ L q. f L; rolled-back = λ q. absurd (true≢false (sym q ∙ n)); kept = λ q. i; small = l }

module _ (t : ℕ) (h : Holder) (first : h.history.incarnation.checkpoints ≡ [] → h.history.incarnation.number ≡ 0) where
  rollback-told : (F : ℕ → (ℕ → Incarnation) → Event) (W : Event → Event) → ((e f : Event) → Alike e f → Alike (W e) (W f))
      → ((L : ℕ → Incarnation) → F fallen_back L ≡ W (rollback_from fallen_back t L)) → ((L : ℕ → Incarnation) → F vanished L ≡ W (rollback_from vanished t L))
      → OneTold t h F (rollback_outcome h) (rolled_back_holder t h) (W (rollback_event t h))
  unfolding rollback_outcome rolled_back_holder rollback_event rollback_from
  rollback-told F W wrap at3 at4 =
      let a : Incarnation = next_incarnation h.history.incarnation in
      pick-three (λ o k e. OneTold t h F o k (W e)) (is_nil h.history.incarnation.checkpoints) vanished fallen_back (blank annihilated) (anew t (record { stable = false; incarnation = a }))
      (chain.annihilated t) (chain.renewed (λ u. eqb t u) (λ u. a))
      (λ e. let p = is_nil-true h.history.incarnation.checkpoints e in
      record { event = λ L q. rw (at4 L) (wrap _ _ alike_same); rolled-back = λ q. absurd (false≢true q); kept = λ q. λ i. record { checkpoints = sym p i; number = sym (first p) i }; small = omega arith })
      (λ e. record {
        event = λ L q. rw (at3 L) (wrap _ _ (alike-renewed (λ u i. ap L (sym (eqb-true t u i)) ∙ q)));
        rolled-back = λ q. refl;
        kept = λ q. absurd (true≢false q);
        small = omega arith;
      })

  acted-told : (k : ℕ) → OneTold t h (λ o L. local_from k o t L) (acted_outcome k h) (acted k t h) (acted_event k t h)
  unfolding acted_outcome acted acted_event local_from reads writes freezes finishes rolls_back_or_finishes rolls_back_or_stays
  acted-told k =
      let F : ℕ → (ℕ → Incarnation) → Event = λ o L. local_from k o t L in
      let P : ℕ → Holder → Event → Type 0 = OneTold t h F in
      let w : Bool = h.history.stable in
      pick-three P (eqb k read) done _ (reads h) _ (chain.reads t) _ (λ e. plain-told F done (reads h) (chain.reads t) (λ L. rw e alike_same) refl (omega arith) refl) λ e0.
      pick-three P (eqb k write) (pick w held done) _ (writes h) _ (pick w chain.nothing (chain.writes t)) _
      (λ e. pick-three P w held done _ _ chain.nothing (chain.writes t)
      (λ i. plain-told F held _ chain.nothing (λ L. rw (e0, e) alike_same) refl (omega arith) refl) (λ i. plain-told F done _ (chain.writes t) (λ L. rw (e0, e) alike_same) refl (omega arith) refl)) λ e1.
      pick-three P (eqb k freeze) done _ (freezes h) _ chain.nothing _ (λ e. plain-told F done (freezes h) chain.nothing (λ L. rw (e0, e1, e) alike_same) refl (omega arith) refl) λ e2.
      pick-three P (eqb k finish) done _ (finishes h) _ (chain.finishes t) _ (λ e. plain-told F done (finishes h) (chain.finishes t) (λ L. rw (e0, e1, e2, e) alike_same) refl (omega arith) refl) λ e3.
      pick-three P (eqb k fall) (pick w held (rollback_outcome h)) (pick w held (rollback_outcome h)) (rolls_back_or_finishes t h) (rolls_back_or_stays t h) (pick w (chain.finishes t) (rollback_event t h)) (pick w chain.nothing (rollback_event t h))
      (λ e. pick-three P w held (rollback_outcome h) (finishes h) (rolled_back_holder t h) (chain.finishes t) (rollback_event t h)
      (λ i. plain-told F held (finishes h) (chain.finishes t) (λ L. rw (e0, e1, e2, e3, e) alike_same) refl (omega arith) refl)
      (λ i. rollback-told F (λ z. z) (λ x y z. z) (λ L. rw (e0, e1, e2, e3, e)) (λ L. rw (e0, e1, e2, e3, e))))
      (λ e. pick-three P w held (rollback_outcome h) h (rolled_back_holder t h) chain.nothing (rollback_event t h)
      (λ i. plain-told F held h chain.nothing (λ L. rw (e0, e1, e2, e3, e) alike_same) refl (omega arith) refl)
      (λ i. rollback-told F (λ z. z) (λ x y z. z) (λ L. rw (e0, e1, e2, e3, e)) (λ L. rw (e0, e1, e2, e3, e))))

  receipt-told : (n : ℕ) (q : WaitingMessage) → OneTold t h (λ o L. receipt_from (tell o t n) L) (receipt_outcome h q) (received t h q) (receipt_event n t h q)
  unfolding receipt_outcome received receipt_event receipt_from
  receipt-told n q =
      let F : ℕ → (ℕ → Incarnation) → Event = λ o L. receipt_from (tell o t n) L in
      let P : ℕ → Holder → Event → Type 0 = OneTold t h F in
      pick-three P (is_dropped h q) dropped _ h _ (chain.cleared n) _ (λ e. plain-told F dropped h (chain.cleared n) (λ L. alike_same) refl (omega arith) refl) λ e0.
      pick-three P (is_rolled_back h q) (rollback_outcome h) done (rolled_back_holder t h) _ (chain.successive (chain.cleared n) (rollback_event t h)) (chain.taken n t)
      (λ e. rollback-told F (chain.successive (chain.cleared n)) (λ x y z. alike-later z) (λ L. refl) (λ L. refl))
      (λ e. plain-told F done _ (chain.taken n t) (λ L. alike_same) refl (omega arith) refl)

-- ---- every step of the book but a signing

module _ (b : Provenance) (p : Step) (other : p.kind ≡ sign → ⊥) (first : (t : ℕ) → (b.holders t).history.incarnation.checkpoints ≡ [] → (b.holders t).history.incarnation.number ≡ 0)
    (fresh : (b.holders b.opened).history.incarnation ≡ initial_incarnation) where
  abbrev H : ℕ → Holder
  H = b.holders

  pub record Replied (w : Told) (c : Provenance) (e : Event) : Type 0 where
    pub event : Alike (event_from p w (incarnations_in c)) e
    pub turned : (u : ℕ) → Turned (was_rolled_back w u) (was_checkpointed p w u) (incarnations_in b u) (incarnations_in c u)
    pub small : w.outcome ≤ not_ready

  no-group : (w : Told) (u : ℕ) → was_checkpointed p w u ≡ false
  unfolding was_checkpointed
  no-group w u = rw (ne_eqb p.kind sign other)

  not-rolled_back : (w : Told) (u : ℕ) → eqb w.outcome fallen_back ≡ false → was_rolled_back w u ≡ false
  unfolding was_rolled_back
  not-rolled_back w u e = rw e

  put-told : (o t n : ℕ) (k : Holder) (e : Event) (F : ℕ → (ℕ → Incarnation) → Event) → ((L : ℕ → Incarnation) → event_from p (tell o t n) L ≡ F o L) → OneTold t (H t) F o k e → Replied (tell o t n) (with_holder b t k) e
  unfolding was_rolled_back
  put-told o t n k e F f z = record {
    event = rw (f L) (z.event L (ap (λ w. w.history.incarnation) (updated-same H t k)));
    turned = λ u. turn (eqb o fallen_back) refl u;
    small = z.small;
  }
    where
      L : ℕ → Incarnation
      L u = (updated H t k u).history.incarnation

      fallen : (u : ℕ) → eqb o fallen_back ≡ true → was_rolled_back (tell o t n) u ≡ eqb t u
      fallen u q = rw q

      turn : (q : Bool) → eqb o fallen_back ≡ q → (u : ℕ) → Turned (was_rolled_back (tell o t n) u) (was_checkpointed p (tell o t n) u) (H u).history.incarnation (L u)
      turn true q = updated-view (λ u w. Turned (was_rolled_back (tell o t n) u) (was_checkpointed p (tell o t n) u) (H u).history.incarnation w.history.incarnation) H t k
          (rolled-back (fallen t q ∙ eq-eqb t t refl) (z.rolled-back q)) (λ u d. stays (fallen u q ∙ ne_eqb t u d) (no-group (tell o t n) u) refl)
      turn false q = updated-view (λ u w. Turned (was_rolled_back (tell o t n) u) (was_checkpointed p (tell o t n) u) (H u).history.incarnation w.history.incarnation) H t k
          (stays (not-rolled_back (tell o t n) t q) (no-group (tell o t n) t) (z.kept q)) (λ u d. stays (not-rolled_back (tell o t n) u q) (no-group (tell o t n) u) refl)

  -- no life changes
  still-told : (w : Told) (c : Provenance) (e : Event) → w.outcome ≡ done → ((u : ℕ) → incarnations_in c u ≡ incarnations_in b u) → Alike (event_from p w (incarnations_in c)) e → Replied w c e
  still-told w c e o k z = record {
    event = z;
    turned = λ u. stays (not-rolled_back w u (rw o)) (no-group w u) (k u);
    small = rw o (omega arith);
  }

  root-incarnations : (u : ℕ) → incarnations_in (opens_root b) u ≡ incarnations_in b u
  unfolding opens_root
  root-incarnations = updated-view (λ u z. z.history.incarnation ≡ (H u).history.incarnation) H b.opened (anew b.opened initial_view) (sym fresh) (λ u d. refl)

  root_told : eqb p.kind root ≡ true → Replied (tell done b.opened 0) (opens_root b) (chain.renewed (λ u. eqb b.opened u) (λ u. initial_incarnation))
  unfolding event_from
  root_told e = still-told (tell done b.opened 0) (opens_root b) _ refl root-incarnations
      (rw e (alike-renewed (λ u i. root-incarnations u ∙ ap (λ k. (H k).history.incarnation) (sym (eqb-true b.opened u i)) ∙ fresh)))

  module _ (t : ℕ) where
    child-incarnations : (u : ℕ) → incarnations_in (opens_child b t) u ≡ incarnations_in b u
    unfolding opens_child
    child-incarnations =
        let h : Holder = H t in
        let kid : Holder = record { status = idle; history = initial_view; state = one b.opened initial_view.incarnation; creation = carried t h; behaviour = [] } in
        let parent : Holder = record { status = h.status; history = h.history; state = h.state; creation = h.creation; behaviour = one b.opened initial_view.incarnation ++ h.behaviour } in
        updated-view (λ u z. z.history.incarnation ≡ (H u).history.incarnation) (updated H t parent) b.opened kid (sym fresh)
        (λ u d. updated-view (λ u z. z.history.incarnation ≡ (H u).history.incarnation) H t parent refl (λ u d. refl) u)

  pub applied-replied : Replied (applied_told b p) (applied b p) (applied_event b p)
  unfolding applied_told applied applied_event event_from receives
  applied-replied =
      let k : ℕ = p.kind in let t : ℕ = p.transactor in let n : ℕ = p.message in
      let q : WaitingMessage = find n b.messages in
      pick-three Replied (eqb k root) _ _ (opens_root b) _ _ _ (λ e. root_told e) λ e0.
      pick-three Replied (eqb k letter) (tell done t b.next) _ (with_waiting_message b t []) _ (chain.cleared b.next) _
      (λ e. still-told (tell done t b.next) (with_waiting_message b t []) (chain.cleared b.next) refl (λ u. refl) (rw (e0, e) alike_same)) λ e1.
      pick-three Replied (eqb k receive) (tell (receipt_outcome (H q.addressee) q) q.addressee n) _ (receives b n) _ (receipt_event n q.addressee (H q.addressee) q) _
      (λ e. let z = put-told (receipt_outcome (H q.addressee) q) q.addressee n (received q.addressee (H q.addressee) q) (receipt_event n q.addressee (H q.addressee) q)
      (λ o L. receipt_from (tell o q.addressee n) L) (λ L. rw (e0, e1, e)) (receipt-told q.addressee (H q.addressee) (first q.addressee) n q) in
      record { event = z.event; turned = z.turned; small = z.small }) λ e2.
      pick-three Replied (eqb k new) (tell done b.opened 0) _ (opens_child b t) _ (chain.opens t b.opened (H t).history.incarnation) _
      (λ e. still-told (tell done b.opened 0) (opens_child b t) (chain.opens t b.opened (H t).history.incarnation) refl (child-incarnations t) (rw (e0, e1, e2, e, child-incarnations t t) alike_same)) λ e3.
      pick-three Replied (eqb k send) (tell done t b.next) _ (with_waiting_message b p.other (carried t (H t))) _ (chain.sent b.next t (H t).history.incarnation) _
      (λ e. still-told (tell done t b.next) (with_waiting_message b p.other (carried t (H t))) (chain.sent b.next t (H t).history.incarnation) refl (λ u. refl) (rw (e0, e1, e2, e3, e) alike_same)) λ e4.
      pick-three Replied (eqb k lose) (tell done 0 n) (tell (acted_outcome k (H t)) t 0) (without_waiting_message b n) (with_holder b t (acted k t (H t))) (chain.cleared n) (acted_event k t (H t))
      (λ e. still-told (tell done 0 n) (without_waiting_message b n) (chain.cleared n) refl (λ u. refl) (rw (e0, e1, e2, e3, e4, e) alike_same))
      (λ e. put-told (acted_outcome k (H t)) t 0 (acted k t (H t)) (acted_event k t (H t)) (λ o L. local_from k o t L) (λ L. rw (e0, e1, e2, e3, e4, e, ne_eqb k sign other)) (acted-told t (H t) (first t) k))

-- ---- a signing

module _ (b : Provenance) (p : Step) (k : p.kind ≡ sign) where
  abbrev done0 : Told
  done0 = tell done 0 0

  checkpointed-incarnation : (u : ℕ) → named p.message u ≡ true → incarnations_in (signs b p.message) u ≡ checkpoint_incarnation (incarnations_in b u)
  unfolding checkpointed_at
  checkpointed-incarnation u e = pick-view (λ (h : Holder). h.history.incarnation ≡ checkpoint_incarnation (incarnations_in b u)) (named p.message u)
      (anew u (record { stable = false; incarnation = checkpoint_incarnation (incarnations_in b u) })) (b.holders u) (λ i. refl) (λ i. absurd (true≢false (sym e ∙ i)))

  pub sign-alike : Alike (event_from p done0 (incarnations_in (signs b p.message))) (sign_event b p.message)
  unfolding event_from sign_event
  sign-alike = rw k (alike-renewed (λ u e. checkpointed-incarnation u e))

  pub sign-turned : (u : ℕ) → Turned (was_rolled_back done0 u) (was_checkpointed p done0 u) (incarnations_in b u) (incarnations_in (signs b p.message) u)
  unfolding was_rolled_back was_checkpointed checkpointed_at
  sign-turned u = rw k (go (named p.message u))
    where
      go : (c : Bool) → Turned false c (incarnations_in b u) (pick c (anew u (record { stable = false; incarnation = checkpoint_incarnation (incarnations_in b u) })) (b.holders u)).history.incarnation
      go true = checkpointed-now refl refl refl
      go false = stays refl refl refl

  -- not ready
  pub unready-turned : (u : ℕ) → Turned (was_rolled_back (tell not_ready 0 0) u) (was_checkpointed p (tell not_ready 0 0) u) (incarnations_in b u) (incarnations_in b u)
  unfolding was_rolled_back was_checkpointed
  unready-turned u = rw k (stays refl refl refl)

  pub unready-alike : (L : ℕ → Incarnation) → Alike (event_from p (tell not_ready 0 0) L) chain.nothing
  unfolding event_from
  unready-alike L = rw k alike_same
