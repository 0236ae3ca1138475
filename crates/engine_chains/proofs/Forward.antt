-- Going back over a step of the book meets present lives of live takes alone.
use Prim.Native.Nat.{ℕ, ◌≤◌}
use mathlib.Core.Bool.{Bool, false}
use mathlib.Core.Path.{◌≡◌, refl, sym}
use mathlib.Core.List.{[], ◌++◌}
use mathlib.Core.Logic.{◌≢◌}
use native.Mathlib.Omega.{arith}
use lib.Dec.{eqb, leb}
use borrow.Author.Tests.{eqb-true, le-leb}
use Rattle.octets.specs.Bytes.{pick}
use Rattle.marks.specs.Incarnation.{Incarnation, initial_incarnation, next_incarnation, checkpoint_incarnation}
use Rattle.marks.specs.History.{initial_view}
use Rattle.octets.specs.Table.{updated}
use Rattle.octets.proofs.Tables.{updated-same, updated-other}
use Rattle.rules.specs.Layout.{Layout}
use Rattle.rules.specs.declared.Step.{Step}
use Rattle.rules.specs.Step.{root, letter, receive, new, send, read, write, freeze, finish, fall, fail, lose}
use Rattle.rules.specs.Refusals.{named}
use Rattle.session.specs.Provenance.{idle, annihilated, Live, is-idle, one, Holder, WaitingMessage, Provenance, find, blank, with_holder, with_waiting_message, without_waiting_message}
use Rattle.session.specs.Steps.{anew, carried, is_nil, rolled_back_holder, reads, writes, freezes, finishes, rolls_back_or_finishes, rolls_back_or_stays, acted, is_dropped, is_rolled_back, received, receives, opens_root, opens_child, checkpointed_at, applied, provenance_refusal, ProvenanceStep, refuses, applies, signing, not-ready}
use Rattle.engine_chains.specs.Chain as chain
use Rattle.engine_chains.specs.Internal.Sets as sets
use Rattle.engine_chains.specs.Chain.{Places, Event}
use Rattle.engine_chains.specs.Internal.Sets.{Met, sender, opener, child, child-known, in-later, in-earlier}
use Rattle.engine_chains.specs.Internal.Book.{rollback_event, acted_event, receipt_event, applied_event, sign_event, step_event}
use Rattle.session.proofs.Model.{Ledger}
use Rattle.octets.proofs.Tests.{pick-view, pick-both, and-of}
use Rattle.session.proofs.Relation.{live-used, Rel}
use Rattle.session.proofs.Accepted.{acting-live}

-- every life that going back over the event e meets is the present one of a live take, where the takes are K after it
pub record Forward (K : ℕ → Holder) (e : Event) : Type 0 where
  pub meets : (Q : Places) (u : ℕ) (a : Incarnation) → Met e Q u a → (a ≡ (K u).history.incarnation) × Live (K u).status

-- ---- one take: k after event e

record Moves (t : ℕ) (k : Holder) (e : Event) : Type 0 where
  meets : (Q : Places) (u : ℕ) (a : Incarnation) → Met e Q u a → (u ≡ t) × (a ≡ k.history.incarnation) × Live k.status

module _ (t : ℕ) (h : Holder) where
  rollback-moves : Moves t (rolled_back_holder t h) (rollback_event t h)
  unfolding rolled_back_holder rollback_event
  rollback-moves =
      let a : Incarnation = next_incarnation h.history.incarnation in
      pick-both (Moves t) (is_nil h.history.incarnation.checkpoints) (is_nil h.history.incarnation.checkpoints) refl
      (blank annihilated) (anew t (record { stable = false; incarnation = a })) (chain.annihilated t) (chain.renewed (λ u. eqb t u) (λ u. a))
      (λ e. record { meets = λ Q u a x. elim x [ ] }) (λ e. record { meets = go })
    where
      go : (Q : Places) (u : ℕ) (a : Incarnation) → Met (chain.renewed (λ u. eqb t u) (λ u. next_incarnation h.history.incarnation)) Q u a → (u ≡ t) × (a ≡ next_incarnation h.history.incarnation) × Live idle
      go Q u a (sets.anew e q) = (sym (eqb-true t u e), refl, is-idle)

  acted-moves : (k : ℕ) → Moves t (acted k t h) (acted_event k t h)
  unfolding acted acted_event reads writes freezes finishes rolls_back_or_finishes rolls_back_or_stays
  acted-moves k =
      let w : Bool = h.history.stable in
      pick-both (Moves t) (eqb k read) (eqb k read) refl (reads h) _ (chain.reads t) _ (λ e. record { meets = λ Q u a x. elim x [ ] }) λ e.
      pick-both (Moves t) (eqb k write) (eqb k write) refl (writes h) _ (pick w chain.nothing (chain.writes t)) _
      (λ e. pick-both (Moves t) w w refl _ _ chain.nothing (chain.writes t) (λ e. record { meets = λ Q u a x. elim x [ ] }) (λ e. record { meets = λ Q u a x. elim x [ ] })) λ e.
      pick-both (Moves t) (eqb k freeze) (eqb k freeze) refl (freezes h) _ chain.nothing _ (λ e. record { meets = λ Q u a x. elim x [ ] }) λ e.
      pick-both (Moves t) (eqb k finish) (eqb k finish) refl (finishes h) _ (chain.finishes t) _ (λ e. record { meets = λ Q u a x. elim x [ ] }) λ e.
      pick-both (Moves t) (eqb k fall) (eqb k fall) refl (rolls_back_or_finishes t h) (rolls_back_or_stays t h) (pick w (chain.finishes t) (rollback_event t h)) (pick w chain.nothing (rollback_event t h))
      (λ e. pick-both (Moves t) w w refl (finishes h) (rolled_back_holder t h) (chain.finishes t) (rollback_event t h) (λ e. record { meets = λ Q u a x. elim x [ ] }) (λ e. rollback-moves))
      (λ e. pick-both (Moves t) w w refl h (rolled_back_holder t h) chain.nothing (rollback_event t h) (λ e. record { meets = λ Q u a x. elim x [ ] }) (λ e. rollback-moves))

  received-moves : (n : ℕ) (q : WaitingMessage) → Moves t (received t h q) (receipt_event n t h q)
  unfolding received receipt_event
  received-moves n q =
      pick-both (Moves t) (is_dropped h q) (is_dropped h q) refl h _ (chain.cleared n) _ (λ e. record { meets = λ Q u a x. elim x [ ] }) λ e.
      pick-both (Moves t) (is_rolled_back h q) (is_rolled_back h q) refl (rolled_back_holder t h) _ (chain.successive (chain.cleared n) (rollback_event t h)) (chain.taken n t)
      (λ e. record { meets = later }) (λ e. record { meets = λ Q u a x. elim x [ ] })
    where
      later : (Q : Places) (u : ℕ) (a : Incarnation) → Met (chain.successive (chain.cleared n) (rollback_event t h)) Q u a → (u ≡ t) × (a ≡ (rolled_back_holder t h).history.incarnation) × Live (rolled_back_holder t h).status
      later Q u a (in-later x) = rollback-moves.meets Q u a x
      later Q u a (in-earlier x) = elim x [ ]

-- ---- every step that is not refused

module _ (l : Ledger) (b : Provenance) (r : Rel l b) where
  abbrev H : ℕ → Holder
  H = b.holders

  put-forward : (t : ℕ) (h : Holder) (e : Event) → Moves t h e → Forward (updated H t h) e
  put-forward t h e z = record { meets = λ Q u a x. let i = z.meets Q u a x in rw (i.0, updated-same H t h) (i.1, i.2) }

  root-forward : Forward (opens_root b).holders (chain.renewed (λ u. eqb b.opened u) (λ u. initial_incarnation))
  unfolding opens_root
  root-forward = record { meets = go }
    where
      go : (Q : Places) (u : ℕ) (a : Incarnation) → Met (chain.renewed (λ u. eqb b.opened u) (λ u. initial_incarnation)) Q u a
          → (a ≡ (updated H b.opened (anew b.opened initial_view) u).history.incarnation) × Live (updated H b.opened (anew b.opened initial_view) u).status
      go Q u a (sets.anew e q) = rw (← eqb-true b.opened u e, updated-same H b.opened (anew b.opened initial_view)) (refl, is-idle)

  module _ (t : ℕ) (live : Live (H t).status) where
    abbrev kid : Holder
    kid = record { status = idle; history = initial_view; state = one b.opened initial_view.incarnation; creation = carried t (H t); behaviour = [] }

    abbrev parent : Holder
    parent = record { status = (H t).status; history = (H t).history; state = (H t).state; creation = (H t).creation; behaviour = one b.opened initial_view.incarnation ++ (H t).behaviour }

    abbrev K : ℕ → Holder
    K = updated (updated H t parent) b.opened kid

    other : b.opened ≢ t
    other e = live-used live (r.fresh t (omega arith))

    child-meets : (Q : Places) (u : ℕ) (a : Incarnation) → Met (chain.opens t b.opened (H t).history.incarnation) Q u a → (a ≡ (K u).history.incarnation) × Live (K u).status
    child-meets Q u a (opener q) = rw (updated-other (updated H t parent) b.opened kid t other, updated-same H t parent) (refl, live)
    child-meets Q u a (child q) = rw (updated-same (updated H t parent) b.opened kid) (refl, is-idle)
    child-meets Q u a (child-known q) = rw (updated-same (updated H t parent) b.opened kid) (refl, is-idle)

    child-forward : Forward (opens_child b t).holders (chain.opens t b.opened (H t).history.incarnation)
    unfolding opens_child
    child-forward = record { meets = child-meets }

    send-forward : (n : ℕ) → Forward H (chain.sent n t (H t).history.incarnation)
    send-forward n = record { meets = go }
      where
        go : (Q : Places) (u : ℕ) (a : Incarnation) → Met (chain.sent n t (H t).history.incarnation) Q u a → (a ≡ (H u).history.incarnation) × Live (H u).status
        go Q u a (sender q) = (refl, live)

  sign-forward : (g : ℕ) → Forward (checkpointed_at b g) (sign_event b g)
  unfolding checkpointed_at sign_event
  sign-forward g = record { meets = go }
    where
      go : (Q : Places) (u : ℕ) (a : Incarnation) → Met (chain.renewed (named g) (λ t. checkpoint_incarnation (H t).history.incarnation)) Q u a → (a ≡ (checkpointed_at b g u).history.incarnation) × Live (checkpointed_at b g u).status
      go Q u a (sets.anew e q) = rw e (refl, is-idle)

  module _ (y : Layout) (p : Step) (zero : provenance_refusal y b p ≡ 0) where
    applied-forward : Forward (applied b p).holders (applied_event b p)
    unfolding applied applied_event receives
    applied-forward =
        let t = p.transactor in let k = p.kind in let h = H t in
        let P : Provenance → Event → Type 0 = λ c e. Forward c.holders e in
        let live : new ≤ k → k ≤ fail → Live h.status = λ f g. acting-live l b r y p zero (and-of (leb new k) (leb k fail) (le-leb new k f) (le-leb k fail g)) in
        pick-both P (eqb k root) (eqb k root) refl (opens_root b) _ _ _ (λ e. root-forward) λ e0.
        pick-both P (eqb k letter) (eqb k letter) refl (with_waiting_message b t []) _ (chain.cleared b.next) _ (λ e. record { meets = λ Q u a x. elim x [ ] }) λ e1.
        pick-both P (eqb k receive) (eqb k receive) refl (receives b p.message) _ _ _ (λ e.
        let q = find p.message b.messages in
        put-forward q.addressee _ _ (received-moves q.addressee (H q.addressee) p.message q)) λ e2.
        pick-both P (eqb k new) (eqb k new) refl (opens_child b t) _ _ _ (λ e. let i = eqb-true k new e in child-forward t (live (omega arith) (omega arith))) λ e3.
        pick-both P (eqb k send) (eqb k send) refl (with_waiting_message b p.other (carried t h)) _ (chain.sent b.next t h.history.incarnation) _
        (λ e. let i = eqb-true k send e in send-forward t (live (omega arith) (omega arith)) b.next) λ e4.
        pick-both P (eqb k lose) (eqb k lose) refl (without_waiting_message b p.message) (with_holder b t (acted k t h)) (chain.cleared p.message) (acted_event k t h) (λ e. record { meets = λ Q u a x. elim x [ ] })
        (λ e5. put-forward t (acted k t h) (acted_event k t h) (acted-moves t h k))

pub step-forward : (l : Ledger) {y : Layout} {b : Provenance} {p : Step} {c : Provenance} → Rel l b → (k : ProvenanceStep y b p c) → Forward c.holders (step_event k)
step-forward l r (refuses z) = record { meets = λ Q u a x. elim x [ ] }
step-forward l {y} {b = b} {p = p} r (applies z k) = applied-forward l b r y p z
step-forward l {b = b} {p = p} r (signing z k e) = sign-forward l b r p.message
step-forward l r (not-ready z k e) = record { meets = λ Q u a x. elim x [ ] }

-- takes are opened and never again closed
applied-opened : (b : Provenance) (p : Step) → b.opened ≤ (applied b p).opened
unfolding applied opens_root opens_child receives
applied-opened b p =
    let P : Provenance → Type 0 = λ c. b.opened ≤ c.opened in
    pick-view P (eqb p.kind root) _ _ (λ e. omega arith) λ e.
    pick-view P (eqb p.kind letter) _ _ (λ e. omega arith) λ e.
    pick-view P (eqb p.kind receive) _ _ (λ e. omega arith) λ e.
    pick-view P (eqb p.kind new) _ _ (λ e. omega arith) λ e.
    pick-view P (eqb p.kind send) _ _ (λ e. omega arith) λ e.
    pick-view P (eqb p.kind lose) _ _ (λ e. omega arith) (λ e. omega arith)

pub step-opened : {y : Layout} {b : Provenance} {p : Step} {c : Provenance} → ProvenanceStep y b p c → b.opened ≤ c.opened
step-opened (refuses z) = omega arith
step-opened {b = b} {p = p} (applies z k) = applied-opened b p
step-opened (signing z k e) = omega arith
step-opened (not-ready z k e) = omega arith
