-- Every step keeps the relation.
use Prim.Native.Nat.{ℕ, ◌≤◌, ◌<◌}
use mathlib.Core.Bool.{Bool, true, false, false≢true}
use mathlib.Core.Path.{◌≡◌, refl, sym, ◌∙◌}
use mathlib.Core.List.{[]}
use mathlib.Core.Logic.{◌↔◌}
use native.Mathlib.Decide.{ℕ_discrete}
use native.Mathlib.Omega.{arith}
use lib.Dec.{eqb}
use borrow.Author.Tests.{eqb-true, eqb-false, eq-eqb, ne_eqb}
use Rattle.octets.specs.Bytes.{pick}
use Rattle.octets.specs.Numbers.{bound}
use Rattle.marks.specs.History.{initial_view}
use Rattle.maps.specs.Internal.View.{empty_view}
use Rattle.rules.specs.Layout.{Layout}
use Rattle.rules.specs.declared.Step.{Step}
use Rattle.rules.specs.Step.{root, letter, receive, new, send, fail, lose, sign}
use Rattle.rules.specs.Refusals.{named}
use Rattle.rules.proofs.Keep.Accepted.{kind-known}
use Rattle.rules.proofs.Keep.Kinds.{acts-between}
use Rattle.session.specs.Provenance.{Live, Provenance, with_holder, with_waiting_message, without_waiting_message}
use Rattle.session.specs.Grounds.{Equal}
use Rattle.session.specs.Steps.{carried, acted, opens_root, opens_child, receives, applied, signs, provenance_refusal, ProvenanceStep, refuses, applies, signing, not-ready}
use Rattle.session.proofs.Model.{News, Node, Ledger, with_node, open_node, with_message_view, without_message_view, find_message, anew_node, sent_map, child_node, opener_node, sign_ledger}
use Rattle.session.proofs.Tables.{pick-view, pick-both}
use Rattle.session.proofs.News.{NewsLaw}
use Rattle.session.proofs.Relation.{Rel}
use Rattle.session.proofs.Locals.{acted_node, step-acted}
use Rattle.session.proofs.Messages.{ReceiptTests, receive_message, step-send, step-letter, step-lose, step-receive}
use Rattle.session.proofs.Opening.{step-root, step-new}
use Rattle.session.proofs.Sign.{Ready, ready-equal, equal-ready}
use Rattle.session.proofs.Signing.{step-sign}
use Rattle.session.proofs.Accepted.{provenance-accepted, acting-live, receiving-live, named_live}

-- ---- a step of the ledger: refused with the number n, or applied

-- d and e stand for the two tests at a receipt, ok for the one at a signing
unfoldable pub applied_ledger : News → Bool → Bool → Bool → Ledger → Step → Ledger
applied_ledger w d e ok l p =
    let t : ℕ = p.transactor in
    let x : Node = l.nodes t in
    pick (eqb p.kind root) (open_node l (anew_node l.opened initial_view))
    (pick (eqb p.kind letter) (with_message_view l t empty_view)
    (pick (eqb p.kind receive) (receive_message w d e l p.message)
    (pick (eqb p.kind new) (open_node (with_node l t (opener_node l.opened x)) (child_node l.opened (sent_map t x)))
    (pick (eqb p.kind send) (with_message_view l p.other (sent_map t x))
    (pick (eqb p.kind lose) (without_message_view l p.message)
    (pick (eqb p.kind sign) (pick ok (sign_ledger l (named p.message)) l)
    (with_node l t (acted_node p.kind t x))))))))

unfoldable pub step_ledger : News → ℕ → Bool → Bool → Bool → Ledger → Step → Ledger
step_ledger w n d e ok l p = pick (eqb n 0) (applied_ledger w d e ok l p) l

pub record StepTests (l : Ledger) (p : Step) (d e ok : Bool) : Type 0 where
  pub receipt : ReceiptTests (l.nodes (find_message p.message l.messages).addressee) (find_message p.message l.messages) d e
  pub ready : (ok ≡ true) ↔ Ready l (named p.message)

-- ---- a step that is not refused

module _ (w : News) (law : NewsLaw w) (l : Ledger) (b : Provenance) (r : Rel l b) (y : Layout) (p : Step) (zero : provenance_refusal y b p ≡ 0) (d e ok : Bool) (tests : StepTests l p d e ok) where
  applied-rel : (p.kind ≡ sign → ⊥) → Rel (applied_ledger w d e ok l p) (applied b p)
  unfolding applied_ledger applied
  applied-rel other =
      let t = p.transactor in let k = p.kind in
      let x = l.nodes t in let h = b.holders t in
      let high = kind-known (provenance-accepted l b r y p zero) in
      let live : new ≤ k → k ≤ fail → Live h.status = λ f g. acting-live l b r y p zero (acts-between k f g) in
      pick-both Rel (eqb k root) (eqb k root) refl _ _ (opens_root b) _ (λ i. step-root l b r) λ i1.
      pick-both Rel (eqb k letter) (eqb k letter) refl _ _ (with_waiting_message b t []) _ (λ i. step-letter l b r t) λ i2.
      pick-both Rel (eqb k receive) (eqb k receive) refl _ _ (receives b p.message) _
      (λ i. step-receive w law l b r p.message d e (receiving-live l b r y p zero (eqb-true k receive i)) tests.receipt) λ i3.
      pick-both Rel (eqb k new) (eqb k new) refl _ _ (opens_child b t) _
      (λ i. let j = eqb-true k new i in step-new l b r t (live (omega arith) (omega arith))) λ i4.
      pick-both Rel (eqb k send) (eqb k send) refl _ _ (with_waiting_message b p.other (carried t h)) _
      (λ i. let j = eqb-true k send i in step-send l b r t p.other (live (omega arith) (omega arith))) λ i5.
      pick-both Rel (eqb k lose) (eqb k lose) refl _ _ (without_waiting_message b p.message) _ (λ i. step-lose l b r p.message) λ i6.
      pick-view (λ z. Rel z (with_holder b t (acted k t h))) (eqb k sign) _ (with_node l t (acted_node k t x)) (λ i. absurd (other (eqb-true k sign i))) λ i7.
      let n1 = eqb-false k root i1 in let n2 = eqb-false k letter i2 in let n3 = eqb-false k receive i3 in
      let n6 = eqb-false k lose i6 in let n7 = eqb-false k sign i7 in
      step-acted l b r t (live (omega arith) (omega arith)) k

  module _ (k : p.kind ≡ sign) (bits : p.message < bound 2) where
    -- the test at a signing holds exactly if the book's two sets are equal
    pub sign-exact : (ok ≡ true) ↔ Equal b p.message
    sign-exact = (
      λ i. ready-equal l b r p.message (tests.ready.0 i),
      λ q. tests.ready.1 (equal-ready l b r p.message (named_live l b r y p zero k bits) q),
    )

    -- both sides sign, or neither
    checkpointed-rel : ok ≡ true → Rel (applied_ledger w d e ok l p) (signs b p.message)
    unfolding applied_ledger
    checkpointed-rel i = rw (k, i) (step-sign l b r p.message (tests.ready.0 i))

    uncheckpointed-rel : ok ≡ false → Rel (applied_ledger w d e ok l p) b
    unfolding applied_ledger
    uncheckpointed-rel i = rw (k, i) r

-- ---- every step

-- the book after step p, related to the ledger after it
pub record Kept (y : Layout) (b : Provenance) (p : Step) (l : Ledger) : Type 1 where
  pub after : Provenance
  pub step : ProvenanceStep y b p after
  pub rel : Rel l after

module _ (w : News) (law : NewsLaw w) (l : Ledger) (b : Provenance) (r : Rel l b) (y : Layout) (p : Step) (bits : p.message < bound 2) (d e ok : Bool) (tests : StepTests l p d e ok) where
  applied-kept : provenance_refusal y b p ≡ 0 → Kept y b p (applied_ledger w d e ok l p)
  applied-kept zero = go (ℕ_discrete p.kind sign) ok refl
    where
      go : Dec (p.kind ≡ sign) → (t : Bool) → ok ≡ t → Kept y b p (applied_ledger w d e ok l p)
      go (no k) t i = record { after = applied b p; step = applies zero k; rel = applied-rel w law l b r y p zero d e ok tests k }
      go (yes k) true i = record {
        after = signs b p.message;
        step = signing zero k ((sign-exact w law l b r y p zero d e ok tests k bits).0 i);
        rel = checkpointed-rel w law l b r y p zero d e ok tests k bits i;
      }
      go (yes k) false i = record {
        after = b;
        step = not-ready zero k (λ q. false≢true (sym i ∙ (sign-exact w law l b r y p zero d e ok tests k bits).1 q));
        rel = uncheckpointed-rel w law l b r y p zero d e ok tests k bits i;
      }

  pub step_kept : (n : ℕ) → n ≡ provenance_refusal y b p → Kept y b p (step_ledger w n d e ok l p)
  unfolding step_ledger
  step_kept n s = go (ℕ_discrete n 0)
    where
      go : Dec (n ≡ 0) → Kept y b p (pick (eqb n 0) (applied_ledger w d e ok l p) l)
      go (yes z) = rw (eq-eqb n 0 z) (applied-kept (sym s ∙ z))
      go (no z) = rw (ne_eqb n 0 z) (record { after = b; step = refuses (λ q. z (s ∙ q)); rel = r })

-- ---- the book is determined by the steps it is fed

pub provenance-determined : {y : Layout} {p : Step} {b c c' : Provenance} → ProvenanceStep y b p c → ProvenanceStep y b p c' → c ≡ c'
provenance-determined (refuses z) (refuses z') = refl
provenance-determined (refuses z) (applies z' k') = absurd (z z')
provenance-determined (refuses z) (signing z' k' q') = absurd (z z')
provenance-determined (refuses z) (not-ready z' k' q') = absurd (z z')
provenance-determined (applies z k) (refuses z') = absurd (z' z)
provenance-determined (applies z k) (applies z' k') = refl
provenance-determined (applies z k) (signing z' k' q') = absurd (k k')
provenance-determined (applies z k) (not-ready z' k' q') = absurd (k k')
provenance-determined (signing z k q) (refuses z') = absurd (z' z)
provenance-determined (signing z k q) (applies z' k') = absurd (k' k)
provenance-determined (signing z k q) (signing z' k' q') = refl
provenance-determined (signing z k q) (not-ready z' k' q') = absurd (q' q)
provenance-determined (not-ready z k q) (refuses z') = absurd (z' z)
provenance-determined (not-ready z k q) (applies z' k') = absurd (k' k)
provenance-determined (not-ready z k q) (signing z' k' q') = absurd (q q')
provenance-determined (not-ready z k q) (not-ready z' k' q') = refl
