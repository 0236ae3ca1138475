-- A step of the ledger's rules through the view: what it leaves, the number it is refused with, and what its tests stand for.
use Prim.Native.Nat.{ℕ, ◌≤◌, ◌<◌}
use mathlib.Core.Bool.{Bool, true, false, not, false≢true}
use mathlib.Core.Path.{◌≡◌, refl, ap, sym, ◌∙◌}
use mathlib.Core.Logic.{◌↔◌, inl, inr, ⊎_elim}
use native.Mathlib.Omega.{arith}
use lib.Dec.{eqb, ltb}
use lib.ListN.{length}
use borrow.Author.Tests.{ltb-true, lt-ltb, leb-false, eqb-true, eqb-false}
use Rattle.octets.specs.Bytes.{◌and◌, ◌or◌, every}
use Rattle.octets.specs.Numbers.{bound}
use Rattle.octets.proofs.Chunks.{sides}
use Rattle.octets.proofs.Zero.{both, every-all, every-at}
use Rattle.marks.specs.History.{HistoryView}
use Rattle.maps.proofs.News.{informed_table}
use Rattle.rules.specs.Layout.{Layout}
use Rattle.rules.specs.State.{Transactor, State, transactor_at, own_history, place_of}
use Rattle.rules.specs.declared.Step.{Step}
use Rattle.rules.specs.Step.{root, letter, receive, new, send, fail, lose, sign}
use Rattle.rules.specs.Refusals.{group_bits, named, acts, refusal_of}
use Rattle.rules.specs.Rules.{Result, group_ready, receipt_unrelated, seen, refusal, apply, step_of}
use Rattle.rules.specs.Internal.Well.{WellFormed}
use Rattle.session.specs.Provenance.{Provenance}
use Rattle.session.specs.Steps.{provenance_refusal}
use Rattle.session.proofs.Model.{Ledger, own, find_message, view_node, view}
use Rattle.session.proofs.Tables.{pick-both, and-of, or-of}
use Rattle.session.proofs.Relation.{Rel}
use Rattle.session.proofs.Messages.{ReceiptTests}
use Rattle.session.proofs.Seen.{seen_of, refusal-same}
use Rattle.session.proofs.Sign.{Ready}
use Rattle.rules.proofs.Keep.Accepted.{Accepted, accepted, kind-known, message-waits, one-unopened, transactor-opened, named-opened, named-room}
use Rattle.rules.proofs.Keep.Kinds.{acts-between}
use Rattle.session.proofs.Accepted.{named-below}
use Rattle.session.proofs.News.{informed-law}
use Rattle.session.proofs.Kept.{applied_ledger, step_ledger, StepTests, Kept, step_kept}
use Rattle.session.proofs.ViewState.{no-transactor, own_view}
use Rattle.session.proofs.Related.{state-related}
use Rattle.session.proofs.ViewRules.{dropped_at, rolled_back_at, dropped-test, rolled_back-test, view-root, view-letter, view-receive, view-new, view_send, view-acted, view-lose, ready-test, view-sign}
use Rattle.session.proofs.ViewSeen.{view-seen}

-- ---- the test of a signing

-- Every take that g names is one of the layout's. The rules look at no other; a signing that names another is refused.
unfoldable pub names_transactors : Layout → ℕ → Bool
names_transactors y g = every group_bits (λ t. not (named g t) or ltb t y.transactors)

unfoldable pub ready_at : Layout → State → ℕ → Bool
ready_at y s g = names_transactors y g and group_ready y s g

names-test : (y : Layout) (g : ℕ) → g < bound 2 → (names_transactors y g ≡ true) ↔ ((t : ℕ) → named g t ≡ true → t < y.transactors)
unfolding names_transactors
names-test y g bits = (to, of)
  where
    f : ℕ → Bool
    f t = not (named g t) or ltb t y.transactors

    to : every group_bits f ≡ true → (t : ℕ) → named g t ≡ true → t < y.transactors
    to e t k = let q = every-at f group_bits t e (named-below g t bits k) in ltb-true t y.transactors (rw k at q)

    of : ((t : ℕ) → named g t ≡ true → t < y.transactors) → every group_bits f ≡ true
    of k = every-all f group_bits (λ t h. at t (named g t) refl)
      where
        at : (t : ℕ) (c : Bool) → named g t ≡ c → not c or ltb t y.transactors ≡ true
        at t true e = lt-ltb t y.transactors (k t e)
        at t false e = refl

-- a frozen take is one of the layout's
pub stable-below : {y : Layout} {s : State} → WellFormed y s → (t : ℕ) → (own t (view_node (transactor_at s t))).stable ≡ true → t < y.transactors
stable-below {y} well t e = ⊎_elim
    (λ h. h)
    (λ h. absurd (false≢true (
    sym (ap (λ (x : Transactor). (own_history t x).stable) (no-transactor well t h)) ∙ sym (ap (λ (m : HistoryView). m.stable) (own_view well t)) ∙ e)))
    (sides t y.transactors)

module _ {y : Layout} {s : State} (well : WellFormed y s) (g : ℕ) (bits : g < bound 2) where
  pub ready-at : (ready_at y s g ≡ true) ↔ Ready (view s) (named g)
  unfolding ready_at view
  ready-at = (
    λ e.
        let p = both (names_transactors y g) (group_ready y s g) e in
        (ready-test well g ((names-test y g bits).0 p.0)).0 p.1,
    λ r.
        let k : (t : ℕ) → named g t ≡ true → t < y.transactors = λ t n. stable-below well t (r.stable t n) in
        and-of (names_transactors y g) (group_ready y s g) ((names-test y g bits).1 k) ((ready-test well g k).1 r),
  )

  pub ready-same : ((t : ℕ) → named g t ≡ true → t < y.transactors) → group_ready y s g ≡ ready_at y s g
  unfolding ready_at
  ready-same k = rw ((names-test y g bits).1 k)

-- ---- what the tests stand for

pub receipt-tests : {y : Layout} {s : State} → WellFormed y s → (n : ℕ)
    → ReceiptTests ((view s).nodes (find_message n (view s).messages).addressee) (find_message n (view s).messages) (dropped_at y s n) (rolled_back_at y s n)
receipt-tests well n = record { dropped = dropped-test well n; rolls-back = rolled_back-test well n }

pub step-tests : {y : Layout} {s : State} → WellFormed y s → (p : Step) → p.message < bound 2
    → StepTests (view s) p (dropped_at y s p.message) (rolled_back_at y s p.message) (ready_at y s p.message)
step-tests well p bits = record { receipt = receipt-tests well p.message; ready = ready-at well p.message bits }

-- ---- a step that is not refused

-- what the view needs of it
pub record Applicable (y : Layout) (s : State) (p : Step) : Type 0 where
  pub kind : p.kind ≤ sign
  pub opens : eqb p.kind root or eqb p.kind new ≡ true → s.opened < y.transactors
  pub acting : acts p.kind ≡ true → p.transactor < y.transactors
  pub waits : eqb p.kind receive ≡ true → place_of s p.message < length s.messages
  pub among : eqb p.kind sign ≡ true → (t : ℕ) → named p.message t ≡ true → t < y.transactors
  pub room : eqb p.kind sign ≡ true → (t : ℕ) → named p.message t ≡ true → (own_history t (transactor_at s t)).count < y.places

-- a result whose state is l
abbrev Leaves : Result → Ledger → Type 0
Leaves r l = view r.state ≡ l

module _ {y : Layout} {s : State} {p : Step} (well : WellFormed y s) (bits : p.message < bound 2) (a : Applicable y s p) where
  pub view-apply : view (apply y s p).state ≡ applied_ledger informed_table (dropped_at y s p.message) (rolled_back_at y s p.message) (ready_at y s p.message) (view s) p
  unfolding apply applied_ledger
  view-apply =
      let k : ℕ = p.kind in
      let acting : new ≤ k → k ≤ fail → p.transactor < y.transactors = λ h l. a.acting (acts-between k h l) in
      pick-both Leaves (eqb k root) (eqb k root) refl _ _ _ _ (λ e. view-root well p (a.opens (rw e))) λ e0.
      pick-both Leaves (eqb k letter) (eqb k letter) refl _ _ _ _ (λ e. view-letter well p) λ e1.
      pick-both Leaves (eqb k receive) (eqb k receive) refl _ _ _ _ (λ e. view-receive well p (a.waits e)) λ e2.
      pick-both Leaves (eqb k new) (eqb k new) refl _ _ _ _
      (λ e. let i : k ≡ new = eqb-true k new e in view-new well p (acting (omega arith) (omega arith)) (a.opens (or-of (eqb k root) (eqb k new) (inr e)))) λ e3.
      pick-both Leaves (eqb k send) (eqb k send) refl _ _ _ _
      (λ e. let i : k ≡ send = eqb-true k send e in view_send well p (acting (omega arith) (omega arith))) λ e4.
      pick-both Leaves (eqb k lose) (eqb k lose) refl _ _ _ _ (λ e. view-lose well p) λ e5.
      pick-both Leaves (eqb k sign) (eqb k sign) refl _ _ _ _
      (λ e. rw (← ready-same well p.message bits (a.among e)) (view-sign well p (a.among e) (a.room e))) λ e6.
      let low : new ≤ k = omega (arith, eqb-false k root e0, eqb-false k letter e1, eqb-false k receive e2) in
      let high : k ≤ fail = omega (arith, a.kind, eqb-false k lose e5, eqb-false k sign e6) in
      view-acted well p (acting low high)

module _ {y : Layout} {s : State} {p : Step} (well : WellFormed y s) (bits : p.message < bound 2) (ok : Accepted y (seen y s) p) where
  pub applicable : Applicable y s p
  unfolding seen
  applicable = record {
    kind = kind-known ok;
    opens = λ e. omega (arith, well.limits.transactors-high, one-unopened ok e);
    acting = λ e. omega (arith, well.opened, transactor-opened ok (or-of (eqb p.kind letter) (acts p.kind) (inr e)));
    waits = λ e. leb-false (length s.messages) (place_of s p.message) (message-waits ok (or-of (eqb p.kind receive) (eqb p.kind lose) (inl e)));
    among = λ e t n. omega (arith, well.opened, named-opened ok e t (named-below p.message t bits n) n);
    room = λ e t n. omega (arith, well.limits.checkpoints-high, named-room ok e t (named-below p.message t bits n) n);
  }

-- ---- every step

module _ {y : Layout} {s : State} (well : WellFormed y s) where
  pub view-refusal : (p : Step) → refusal y s p ≡ refusal_of y (seen_of (view s) (dropped_at y s) (rolled_back_at y s) (receipt_unrelated y s)) p
  unfolding refusal
  view-refusal p = ap (λ v. refusal_of y v p) (view-seen well)

  pub view-step : (p : Step) → p.message < bound 2
      → view (step_of y s p).state ≡ step_ledger informed_table (refusal y s p) (dropped_at y s p.message) (rolled_back_at y s p.message) (ready_at y s p.message) (view s) p
  unfolding step_of step_ledger refusal
  view-step p bits =
      let n : ℕ = refusal y s p in
      pick-both Leaves (eqb n 0) (eqb n 0) refl _ _ _ _
      (λ e. view-apply well bits (applicable well bits (accepted y (seen y s) p (eqb-true n 0 e))))
      (λ e. refl)

  -- beside a book that is related to the view: refused with the same number, and related again after
  module _ {b : Provenance} (r : Rel (view s) b) where
    pub same-refusal : (p : Step) → refusal y s p ≡ provenance_refusal y b p
    same-refusal p = view-refusal p ∙ refusal-same (view s) b r (dropped_at y s) (rolled_back_at y s) (receipt_unrelated y s) (receipt-tests well) (state-related s b r y) y p

    pub state-kept : (p : Step) → p.message < bound 2 → Kept y b p (view (step_of y s p).state)
    state-kept p bits = rw (view-step p bits)
        (step_kept informed_table informed-law (view s) b r y p bits (dropped_at y s p.message) (rolled_back_at y s p.message) (ready_at y s p.message) (step-tests well p bits) (refusal y s p) (same-refusal p))
