-- The walk back that carries no life, over the steps and the replies to them from a fresh session: it answers the ledger's tests.
use Prim.Native.Nat.{ℕ, zero, suc, ◌<◌, ◌≤◌}
use mathlib.Core.Bool.{Bool, true, false, not, true≢false, false≢true}
use mathlib.Core.Path.{◌≡◌, refl, ap, sym, ◌∙◌, subst}
use mathlib.Core.List.{List, ◌∷◌, ◌++◌}
use mathlib.Core.Logic.{◌⊎◌, inl, inr, ⊎_elim, ◌↔◌}
use mathlib.Core.Option.{Option, none, some}
use native.Mathlib.Omega.{arith}
use lib.Dec.{eqb}
use borrow.Author.Tests.{ne_eqb, leb-true}
use Rattle.octets.specs.Bytes.{pick, ◌and◌, ◌or◌, any, Octets}
use Rattle.marks.specs.History.{HistoryView}
use Rattle.octets.specs.Numbers.{bound}
use Rattle.octets.proofs.Tests.{or-none, and-false, true-or-false, pick-both, same_test}
use Rattle.marks.specs.Incarnation.{Incarnation, Superseded, Checkpointed}
use Rattle.marks.specs.Order.{Under}
use Rattle.marks.proofs.Order.{precedes-eq, precedes-refl, precedes-split, under_split, superseded-ne, superseded-not-checkpointed, checkpointed-irrefl, checkpointed-up, initial-precedes}
use Rattle.rules.specs.Layout.{Layout, Limits, Fitting}
use Rattle.rules.specs.State.{State}
use Rattle.rules.specs.declared.Step.{Step}
use Rattle.rules.specs.declared.Told.{Told}
use Rattle.rules.specs.Step.{step_at, done, held, dropped, root, letter, receive, new, send, read, write, freeze, finish, fall, lose, sign, is_refusal}
use Rattle.rules.specs.Step as replied
use Rattle.rules.specs.Refusals.{group_bits, named}
use Rattle.rules.specs.Calls.{state_after}
use Rattle.rules.specs.Internal.Well.{WellFormed}
use Rattle.rules.proofs.Keep.Run.{step_ok-at}
use Rattle.rules.proofs.Keep.Step.{keeps-after}
use Rattle.session.specs.Provenance.{Live, Incarnations, In, Holder, WaitingMessage, Provenance, empty_provenance, find}
use Rattle.session.specs.Steps.{is_dropped, is_rolled_back}
use Rattle.session.proofs.Sets.{SupersededSet, superseded-set, superseded_set-test}
use Rattle.session.proofs.Model.{Ledger, own, view}
use Rattle.session.proofs.Relation.{live-or-not, own-history, Rel}
use Rattle.session.proofs.ViewStep.{ready_at}
use Rattle.session.proofs.Step.{Stepped, step_right}
use Rattle.engine_chains.specs.Chain as chain
use Rattle.engine_chains.specs.Chain.{Places, message_alone, ground_of, Event, back, met_of}
use Rattle.engine_chains.specs.Back.{rollback_from, receipt_from, local_from, event_from}
use Rattle.engine_chains.specs.Internal.Walk.{Walk, is_met, meets, was_rolled_back, was_checkpointed, over, no_incarnations, over_step, walk_back, receipt_start, sign_start}
use Rattle.engine_chains.specs.Internal.Book.{step_event, events_of, incarnations_in}
use Rattle.engine_chains.proofs.Replies.{Alike, alike-back, alike-met_of}
use Rattle.engine_chains.proofs.Walked.{Half, half_over, half_walk, present_over, present_walk, first_events, Course, Known, Pair, pair, half-found, Unallowed, unallowed, present-found, traced-past}
use Rattle.engine_chains.proofs.Maps.{message-reached, ground-reached, IncarnationReady, ReadyBack, ready-back, events, TracedRun, traced-run, traced-more}
use Rattle.engine_chains.proofs.WayBack.{Followed, followed, told_at}
use Rattle.engine_chains.proofs.Forward.{step-forward}
use Rattle.engine_chains.specs.Internal.Sets.{sets_of, Reached, by_state, by-creation, by-behaviour, by-message, Traced, here}
use Rattle.engine_chains.proofs.BookSets.{book-traced}
use Rattle.engine_chains.proofs.Meets.{met-either}

-- ---- events that differ in the lives alone

data Shape : Event → Event → Type 0 where
  shape_same : {e : Event} → Shape e e
  shape-sent : {n t : ℕ} {a c : Incarnation} → Shape (chain.sent n t a) (chain.sent n t c)
  shape-opens : {t o : ℕ} {a c : Incarnation} → Shape (chain.opens t o a) (chain.opens t o c)
  shape-renewed : {v : ℕ → Bool} {a c : ℕ → Incarnation} → Shape (chain.renewed v a) (chain.renewed v c)
  shape-later : {d e f : Event} → Shape e f → Shape (chain.successive d e) (chain.successive d f)

shape-back : {e f : Event} → Shape e f → (Q : Places) → back e Q ≡ back f Q
unfolding back
shape-back shape_same Q = refl
shape-back shape-sent Q = refl
shape-back shape-opens Q = refl
shape-back shape-renewed Q = refl
shape-back (shape-later {d = d} x) Q = ap (back d) (shape-back x Q)

met-pick : (c : Bool) (a d : Incarnation) (x y : Option Incarnation) → is_met x ≡ is_met y → is_met (pick c (some a) x) ≡ is_met (pick c (some d) y)
met-pick true a d x y e = refl
met-pick false a d x y e = e

shape-meets : {e f : Event} → Shape e f → (Q : Places) (u : ℕ) → meets e Q u ≡ meets f Q u
unfolding meets met_of
shape-meets shape_same Q u = refl
shape-meets (shape-sent {n} {t} {a} {c}) Q u = met-pick (Q.message n and eqb t u) a c none none refl
shape-meets (shape-opens {t} {o} {a} {c}) Q u = met-pick (Q.creation o and eqb t u) a c _ _ refl
shape-meets (shape-renewed {v} {a} {c}) Q u = met-pick (v u and Q.state u) (a u) (c u) none none refl
shape-meets (shape-later {d} {e} {f} x) Q u =
    met-either (met_of e Q u) (met_of d (back e Q) u)
    ∙ rw (shape-back x Q) (ap (λ c. c or is_met (met_of d (back f Q) u)) (shape-meets x Q u))
    ∙ sym (met-either (met_of f Q u) (met_of d (back f Q) u))

event-shape : (p : Step) (w : Told) (L M : ℕ → Incarnation) → Shape (event_from p w L) (event_from p w M)
unfolding event_from receipt_from local_from rollback_from
event-shape p w L M =
    let k : ℕ = p.kind in
    let rolled : Shape (rollback_from w.outcome w.transactor L) (rollback_from w.outcome w.transactor M) =
    pick-both Shape (eqb w.outcome replied.vanished) (eqb w.outcome replied.vanished) refl _ _ _ _ (λ e. shape_same) (λ e. shape-renewed) in
    let fallen : Shape (rollback_from w.outcome p.transactor L) (rollback_from w.outcome p.transactor M) =
    pick-both Shape (eqb w.outcome replied.vanished) (eqb w.outcome replied.vanished) refl _ _ _ _ (λ e. shape_same) (λ e. shape-renewed) in
    pick-both Shape (eqb k root) (eqb k root) refl _ _ _ _ (λ e. shape-renewed) λ e.
    pick-both Shape (eqb k letter) (eqb k letter) refl _ _ _ _ (λ e. shape_same) λ e.
    pick-both Shape (eqb k receive) (eqb k receive) refl _ _ _ _
    (λ e. pick-both Shape (eqb w.outcome dropped) (eqb w.outcome dropped) refl _ _ _ _ (λ e. shape_same) λ e.
    pick-both Shape (eqb w.outcome done) (eqb w.outcome done) refl _ _ _ _ (λ e. shape_same) (λ e. shape-later rolled)) λ e.
    pick-both Shape (eqb k new) (eqb k new) refl _ _ _ _ (λ e. shape-opens) λ e.
    pick-both Shape (eqb k send) (eqb k send) refl _ _ _ _ (λ e. shape-sent) λ e.
    pick-both Shape (eqb k lose) (eqb k lose) refl _ _ _ _ (λ e. shape_same) λ e.
    pick-both Shape (eqb k sign) (eqb k sign) refl _ _ _ _
    (λ e. pick-both Shape (eqb w.outcome done) (eqb w.outcome done) refl _ _ _ _ (λ e. shape-renewed) (λ e. shape_same)) λ e.
    pick-both Shape (eqb k read) (eqb k read) refl _ _ _ _ (λ e. shape_same) λ e.
    pick-both Shape (eqb k write) (eqb k write) refl _ _ _ _ (λ e. shape_same) λ e.
    pick-both Shape (eqb k freeze) (eqb k freeze) refl _ _ _ _ (λ e. shape_same) λ e.
    pick-both Shape (eqb k finish) (eqb k finish) refl _ _ _ _ (λ e. shape_same) λ e.
    pick-both Shape (eqb k fall) (eqb k fall) refl _ _ _ _
    (λ e. pick-both Shape (eqb w.outcome held) (eqb w.outcome held) refl _ _ _ _ (λ e. shape_same) (λ e. fallen))
    (λ e. pick-both Shape (eqb w.outcome held) (eqb w.outcome held) refl _ _ _ _ (λ e. shape_same) (λ e. fallen))

-- ---- going back over one step, by what it does to places and whom it meets

abbrev over_by : (Places → Places) → (Places → ℕ → Bool) → (ℕ → Bool) → (ℕ → Bool) → Walk → Walk
over_by B M F S x = record {
  left = B x.left;
  right = B x.right;
  left_met = λ u. x.left_met u or M x.left u;
  right_met = λ u. x.right_met u or M x.right u;
  left_past = λ u. x.left_past u or ((x.left_met u or M x.left u) and (F u or S u));
  right_past = λ u. x.right_past u or ((x.right_met u or M x.right u) and (F u or S u));
  ended = λ u. pick (F u) true (pick (S u) false (x.ended u));
  allowed = x.allowed;
  left_is_superseded = x.left_is_superseded or any group_bits (λ u. M x.left u and x.right_past u and x.ended u);
  right_is_superseded = x.right_is_superseded or any group_bits (λ u. M x.right u and x.left_past u and x.ended u);
  unallowed = x.unallowed or any group_bits (λ u. M x.right u and not (x.left_past u) and not (x.allowed u));
}

over-is : (e : Event) (F S : ℕ → Bool) (x : Walk) → over e F S x ≡ over_by (back e) (meets e) F S x
unfolding over
over-is e F S x = refl

pub over-same : (e f : Event) → ((Q : Places) → back e Q ≡ back f Q) → ((Q : Places) (u : ℕ) → meets e Q u ≡ meets f Q u) → (F S : ℕ → Bool) (x : Walk) → over e F S x ≡ over f F S x
over-same e f p q F S x = over-is e F S x ∙ (λ i. over_by (λ Q. p Q i) (λ Q u. q Q u i) F S x) ∙ sym (over-is f F S x)

none_any : (f : ℕ → Bool) (n : ℕ) → ((u : ℕ) → f u ≡ false) → any n f ≡ false
unfolding any
none_any f zero h = refl
none_any f (suc n) h = rw (none_any f n h, h n)

or-neither : (c d : Bool) (a b : Bool) → a ≡ false → b ≡ false → c or (d and (a or b)) ≡ c
or-neither true d a b e f = refl
or-neither false true a b e f = rw (e, f)
or-neither false false a b e f = refl

-- a step at which nothing happens
pub over_nothing : (F S : ℕ → Bool) → ((u : ℕ) → F u ≡ false) → ((u : ℕ) → S u ≡ false) → (x : Walk) → over chain.nothing F S x ≡ x
unfolding over back meets met_of
over_nothing F S f s x = λ i. record {
  left = x.left;
  right = x.right;
  left_met = λ u. or-none (x.left_met u) i;
  right_met = λ u. or-none (x.right_met u) i;
  left_past = λ u. or-neither (x.left_past u) (x.left_met u or false) (F u) (S u) (f u) (s u) i;
  right_past = λ u. or-neither (x.right_past u) (x.right_met u or false) (F u) (S u) (f u) (s u) i;
  ended = λ u. quiet u i;
  allowed = x.allowed;
  left_is_superseded = (ap (λ c. x.left_is_superseded or c) (none_any (λ u. false) group_bits (λ u. refl)) ∙ or-none x.left_is_superseded) i;
  right_is_superseded = (ap (λ c. x.right_is_superseded or c) (none_any (λ u. false) group_bits (λ u. refl)) ∙ or-none x.right_is_superseded) i;
  unallowed = (ap (λ c. x.unallowed or c) (none_any (λ u. false) group_bits (λ u. refl)) ∙ or-none x.unallowed) i;
}
  where
    quiet : (u : ℕ) → pick (F u) true (pick (S u) false (x.ended u)) ≡ x.ended u
    quiet u = rw (f u, s u)

-- ---- a walk over the events E 0 .. E (r - 1)

unfoldable pub walk_over : (ℕ → Event) → (F S : ℕ → ℕ → Bool) → ℕ → Walk → Walk
walk_over E F S zero x = x
walk_over E F S (suc r) x = walk_over E F S r (over (E r) (F r) (S r) x)

-- its halves
abbrev pub left_half : Walk → Half
left_half x = record { asked = x.left; other = x.right; met = x.right_met; past = x.right_past; ended = x.ended; found = x.left_is_superseded }

abbrev pub right_half : Walk → Half
right_half x = record { asked = x.right; other = x.left; met = x.left_met; past = x.left_past; ended = x.ended; found = x.right_is_superseded }

module _ (E : ℕ → Event) (F S : ℕ → ℕ → Bool) where
  pub left-half : (r : ℕ) (x : Walk) → left_half (walk_over E F S r x) ≡ half_walk E F S r (left_half x)
  unfolding walk_over half_walk over half_over
  left-half zero x = refl
  left-half (suc r) x = left-half r (over (E r) (F r) (S r) x)

  pub right-half : (r : ℕ) (x : Walk) → right_half (walk_over E F S r x) ≡ half_walk E F S r (right_half x)
  unfolding walk_over half_walk over half_over
  right-half zero x = refl
  right-half (suc r) x = right-half r (over (E r) (F r) (S r) x)

  -- the present lives, where the present life of every take counts as met on the left
  pub present-part : (r : ℕ) (x : Walk) → ((u : ℕ) → x.left_met u ≡ true) → (walk_over E F S r x).unallowed ≡ (present_walk x.allowed E F S r (record { asked = x.right; past = x.left_past; found = x.unallowed })).found
  unfolding walk_over present_walk over present_over
  present-part zero x h = refl
  present-part (suc r) x h =
      present-part r (over (E r) (F r) (S r) x) (λ u. rw (h u))
      ∙ ap (λ (P : ℕ → Bool). (present_walk x.allowed E F S r (record { asked = back (E r) x.right; past = P; found = x.unallowed or any group_bits (λ u. meets (E r) x.right u and not (x.left_past u) and not (x.allowed u)) })).found)
      (λ i u. past u i)
    where
      past : (u : ℕ) → x.left_past u or ((x.left_met u or meets (E r) x.left u) and (F r u or S r u)) ≡ x.left_past u or (F r u or S r u)
      past u = rw (h u)

-- ---- the steps of a session

-- only the replies to the first i steps are looked at
pub walk-replies : (steps : List ℕ) (R Z : ℕ → Told) (i : ℕ) → ((j : ℕ) → j < i → R j ≡ Z j) → (x : Walk) → walk_back steps R i x ≡ walk_back steps Z i x
unfolding walk_back
walk-replies steps R Z zero h x = refl
walk-replies steps R Z (suc i) h x = rw (h i (omega arith)) (walk-replies steps R Z i (λ j k. h j (omega arith)) (over_step (step_at steps i) (Z i) x))

alike-meets : {e f : Event} → Alike e f → (Q : Places) (u : ℕ) → meets e Q u ≡ meets f Q u
unfolding meets
alike-meets a Q u = ap is_met (alike-met_of a Q u)

rolled_back-not : (w : Told) (u : ℕ) → (w.outcome ≡ replied.fallen_back → ⊥) → was_rolled_back w u ≡ false
unfolding was_rolled_back
rolled_back-not w u n = rw (ne_eqb w.outcome replied.fallen_back n)

checkpointed-not : (p : Step) (w : Told) (u : ℕ) → (w.outcome ≡ done → ⊥) → was_checkpointed p w u ≡ false
unfolding was_checkpointed
checkpointed-not p w u n = rw (ne_eqb w.outcome done n) (ap (λ (c : Bool). c and named p.message u) (and-false (eqb p.kind sign)))

-- a step beside an event that does the same
step-over : (p : Step) (w : Told) (L : ℕ → Incarnation) (e : Event) → Alike (pick (is_refusal w.outcome) chain.nothing (event_from p w L)) e → (x : Walk)
    → over_step p w x ≡ over e (was_rolled_back w) (was_checkpointed p w) x
unfolding over_step
step-over p w L e k x = go (is_refusal w.outcome) refl k
  where
    alike-over : (f : Event) → Alike f e → over f (was_rolled_back w) (was_checkpointed p w) x ≡ over e (was_rolled_back w) (was_checkpointed p w) x
    alike-over f a = over-same f e (alike-back a) (λ Q u. alike-meets a Q u) (was_rolled_back w) (was_checkpointed p w) x

    no-rollback : 20 ≤ w.outcome → (u : ℕ) → was_rolled_back w u ≡ false
    no-rollback h u = rolled_back-not w u (λ i. omega arith)

    no-checkpoint : 20 ≤ w.outcome → (u : ℕ) → was_checkpointed p w u ≡ false
    no-checkpoint h u = checkpointed-not p w u (λ i. omega arith)

    go : (c : Bool) → is_refusal w.outcome ≡ c → Alike (pick c chain.nothing (event_from p w L)) e → pick c x (over (event_from p w no_incarnations) (was_rolled_back w) (was_checkpointed p w) x) ≡ over e (was_rolled_back w) (was_checkpointed p w) x
    go true i a = let h = leb-true 20 w.outcome i in sym (over_nothing (was_rolled_back w) (was_checkpointed p w) (no-rollback h) (no-checkpoint h) x) ∙ alike-over chain.nothing a
    go false i a = over-same (event_from p w no_incarnations) (event_from p w L) (shape-back (event-shape p w no_incarnations L)) (shape-meets (event-shape p w no_incarnations L)) (was_rolled_back w) (was_checkpointed p w) x ∙ alike-over (event_from p w L) a

module _ {y : Layout} {m : Limits} (z : Fitting y) {s : State} (well : WellFormed y s) (r : Rel (view s) (empty_provenance m)) (steps : List ℕ) (octets : Octets steps) where
  abbrev run : (i : ℕ) → TracedRun y m s steps i
  run = traced-run z well r steps octets

  abbrev stepped : (i : ℕ) → Stepped y (state_after y s steps i) (run i).after (step_at steps i)
  stepped i = step_right z (keeps-after z well steps octets i) (run i).rel (step_ok-at steps octets i)

  abbrev E : ℕ → Event
  E i = step_event (stepped i).right.provenance

  abbrev F : ℕ → ℕ → Bool
  F i = was_rolled_back (told_at y s steps i)

  abbrev S : ℕ → ℕ → Bool
  S i = was_checkpointed (step_at steps i) (told_at y s steps i)

  abbrev incarnation : ℕ → ℕ → Incarnation
  incarnation i u = incarnations_in (run i).after u

  step-followed : (i : ℕ) → Followed (run i).after (stepped i).after (step_at steps i) (told_at y s steps i) (E i)
  step-followed i = followed (keeps-after z well steps octets i) (run i).rel (stepped i).right

  first-events : (i : ℕ) → first_events E i ≡ events_of (run i).fed
  unfolding first_events traced-run traced-more
  first-events zero = refl
  first-events (suc i) = ap (λ es. E i ∷ es) (first-events i)

  course : Course E F S incarnation
  unfolding traced-run traced-more view
  course = record {
    turned = λ i u. (step-followed i).turned u;
    own = λ i Q u a x. ((step-forward (view (state_after y s steps i)) (run i).rel (stepped i).right.provenance).meets Q u a x).0;
    few = λ i Q u a x.
        let h = (run (suc i)).below Q u a (here x) in
        let e = (run (suc i)).rel.opened in
        omega (arith, (keeps-after z well steps octets (suc i)).opened, (keeps-after z well steps octets (suc i)).limits.transactors-high, z.transactors);
  }

  pub walk-over : (i : ℕ) (x : Walk) → walk_back steps (told_at y s steps) i x ≡ walk_over E F S i x
  unfolding walk_back walk_over
  walk-over zero x = refl
  walk-over (suc i) x = rw (step-over (step_at steps i) (told_at y s steps i) (incarnations_in (stepped i).after) (E i) (step-followed i).event x) (walk-over i (over (E i) (F i) (S i) x))

  -- ---- a receipt

  module _ (i : ℕ) where
    abbrev b : Provenance
    b = (run i).after

    abbrev told-so : ℕ → Told
    told-so = told_at y s steps

    traced-at : (Q : Places) (u : ℕ) (a : Incarnation) → Reached (sets_of b) Q u a ↔ Traced (first_events E i) Q u a
    traced-at Q u a = rw (first-events i) (book-traced (run i).fed Q u a)

    -- two sets of the book, each reached from places of its own
    pair-sets : (A B : Places) (X Y : Incarnations) → ((u : ℕ) (a : Incarnation) → In u a X ↔ Reached (sets_of b) A u a) → ((u : ℕ) (a : Incarnation) → In u a Y ↔ Reached (sets_of b) B u a)
        → Pair (λ u a. ⊥) (first_events E i) A B ↔ SupersededSet X Y
    pair-sets A B X Y f g = (to, of)
      where
        to : Pair (λ u a. ⊥) (first_events E i) A B → SupersededSet X Y
        to (pair u c a t (inl p) k) = absurd p
        to (pair u c a t (inr w) k) = superseded-set u c a ((f u c).1 ((traced-at A u c).1 t)) ((g u a).1 ((traced-at B u a).1 w)) k

        of : SupersededSet X Y → Pair (λ u a. ⊥) (first_events E i) A B
        of (superseded-set u c a p q k) = pair u c a ((traced-at A u c).0 ((f u c).0 p)) (inr ((traced-at B u a).0 ((g u a).0 q))) k

    -- nothing met so far
    unknown : Known (λ u a. ⊥) (incarnation i) (λ u. false) (λ u. false) (λ u. false)
    unknown = record {
      some = λ u e. absurd (false≢true e);
      seen = λ u a p. absurd p;
      only = λ u e. absurd (false≢true e);
      later = λ u a p. absurd p;
      same = λ u a e p. absurd p;
      lost = λ u e. absurd (false≢true e);
      kept = λ u a e. absurd (false≢true e);
    }

    no_other : {A : Type 0} → (false ≡ true) ⊎ A → A
    no_other (inl e) = absurd (false≢true e)
    no_other (inr a) = a

    module _ (n t : ℕ) where
      abbrev q : WaitingMessage
      q = find n b.messages

      abbrev h : Holder
      h = b.holders t

      -- "a mark of the parcel is stale by the take's mark"
      pub dropped-walk : (walk_back steps told-so i (receipt_start n t)).left_is_superseded ≡ is_dropped h q
      unfolding is_dropped
      dropped-walk =
          let e : (walk_back steps told-so i (receipt_start n t)).left_is_superseded ≡ (half_walk E F S i (left_half (receipt_start n t))).found =
          ap (λ (x : Walk). x.left_is_superseded) (walk-over i (receipt_start n t)) ∙ ap (λ (k : Half). k.found) (left-half E F S i (receipt_start n t)) in
          let k = half-found course i (left_half (receipt_start n t)) (λ u a. ⊥) unknown in
          let p = pair-sets (message_alone n) (ground_of (λ k. eqb k t)) q.incarnations (h.state ++ h.creation) (message-reached b n) (ground-reached b t) in
          let j = superseded_set-test q.incarnations (h.state ++ h.creation) in
          e ∙ same_test _ _ (λ f. j.1 (p.0 (no_other (k.0 f)))) (λ f. k.1 (inr (p.1 (j.0 f))))

      -- "a mark of the take is stale by the parcel's"
      pub rolled_back-walk : (walk_back steps told-so i (receipt_start n t)).right_is_superseded ≡ is_rolled_back h q
      unfolding is_rolled_back
      rolled_back-walk =
          let e : (walk_back steps told-so i (receipt_start n t)).right_is_superseded ≡ (half_walk E F S i (right_half (receipt_start n t))).found =
          ap (λ (x : Walk). x.right_is_superseded) (walk-over i (receipt_start n t)) ∙ ap (λ (k : Half). k.found) (right-half E F S i (receipt_start n t)) in
          let k = half-found course i (right_half (receipt_start n t)) (λ u a. ⊥) unknown in
          let p = pair-sets (ground_of (λ k. eqb k t)) (message_alone n) (h.state ++ h.creation) q.incarnations (ground-reached b t) (message-reached b n) in
          let j = superseded_set-test (h.state ++ h.creation) q.incarnations in
          e ∙ same_test _ _ (λ f. j.1 (p.0 (no_other (k.0 f)))) (λ f. k.1 (inr (p.1 (j.0 f))))

    -- ---- a signing

    module _ (g : ℕ) where
      abbrev nowhere : Places
      nowhere = ground_of (λ k. false)

      abbrev W : Walk
      W = walk_back steps told-so i (sign_start g)

      abbrev now : Ledger
      now = view (state_after y s steps i)

      own-incarnation : (u : ℕ) → (own u (now.nodes u)).incarnation ≡ incarnation i u
      own-incarnation u = ap (λ (h : HistoryView). h.incarnation) (own-history ((run i).rel.holders u))

      none-reached : (u : ℕ) (a : Incarnation) → Traced (first_events E i) nowhere u a → ⊥
      none-reached u a x = go ((traced-at nowhere u a).1 x)
        where
          go : Reached (sets_of b) nowhere u a → ⊥
          go (by_state t q k) = false≢true q
          go (by-creation t q k) = false≢true q
          go (by-behaviour t q k) = false≢true q
          go (by-message t q k) = false≢true q

      -- the present lives
      presents : Known (λ u a. a ≡ incarnation i u) (incarnation i) (λ u. true) (λ u. false) (λ u. false)
      presents = record {
        some = λ u e. (incarnation i u, refl);
        seen = λ u a p. refl;
        only = λ u e. absurd (false≢true e);
        later = λ u a p. precedes-eq (sym p);
        same = λ u a e p. p;
        lost = λ u e. absurd (false≢true e);
        kept = λ u a e. absurd (false≢true e);
      }

      -- a life that is withdrawn was met
      data Lost : Type 0 where
        lost-incarnation : (u : ℕ) (a : Incarnation) → Traced (first_events E i) (ground_of (named g)) u a → Superseded a (incarnation i u) → Lost

      lost-walk : (W.right_is_superseded ≡ true) ↔ Lost
      lost-walk =
          let e : W.right_is_superseded ≡ (half_walk E F S i (right_half (sign_start g))).found =
          ap (λ (x : Walk). x.right_is_superseded) (walk-over i (sign_start g)) ∙ ap (λ (k : Half). k.found) (right-half E F S i (sign_start g)) in
          let k = half-found course i (right_half (sign_start g)) (λ u a. a ≡ incarnation i u) presents in
          (λ f. to (no_other (k.0 (sym e ∙ f))), λ f. e ∙ k.1 (inr (of f)))
        where
          to : Pair (λ u a. a ≡ incarnation i u) (first_events E i) (ground_of (named g)) nowhere → Lost
          to (pair u c a t (inl p) k) = lost-incarnation u c t (subst (Superseded c) p k)
          to (pair u c a t (inr w) k) = absurd (none-reached u a w)

          of : Lost → Pair (λ u a. a ≡ incarnation i u) (first_events E i) (ground_of (named g)) nowhere
          of (lost-incarnation u a t k) = pair u a (incarnation i u) t (inl refl) k

      present-walk : (W.unallowed ≡ true) ↔ Unallowed (named g) (incarnation i) (first_events E i) (ground_of (named g))
      present-walk =
          let e : W.unallowed ≡ (present_walk (named g) E F S i (record { asked = ground_of (named g); past = λ u. false; found = false })).found =
          ap (λ (x : Walk). x.unallowed) (walk-over i (sign_start g)) ∙ present-part E F S i (sign_start g) (λ u. refl) in
          let k = present-found course (named g) (incarnation i) i (record { asked = ground_of (named g); past = λ u. false; found = false })
          (record { later = λ u. precedes-refl (incarnation i u); same = λ u e. refl; apart = λ u e. absurd (false≢true e) }) in
          (λ f. no_other (k.0 (sym e ∙ f)), λ f. e ∙ k.1 (inr f))

      -- a frozen take is live
      stable-live : (t : ℕ) → (own t (now.nodes t)).stable ≡ true → Live (now.nodes t).status
      stable-live t e = ⊎_elim (λ k. rw ((run i).rel.holders t).status k) (λ k. absurd (frozen k)) (live-or-not (b.holders t).status)
        where
          frozen : (Live (b.holders t).status → ⊥) → ⊥
          frozen k = false≢true (sym (ap (λ (h : Holder). h.history.stable) (((run i).rel.holders t).gone k)) ∙ sym (ap (λ (h : HistoryView). h.stable) (own-history ((run i).rel.holders t))) ∙ e)

      -- a signed life is that of a live take
      checkpointed-live : (u : ℕ) (a : Incarnation) → Checkpointed a (incarnation i u) → Live (now.nodes u).status
      checkpointed-live u a k = rw ((run i).rel.holders u).status (⊎_elim (λ h. h) (λ h. absurd (bare h)) (live-or-not (b.holders u).status))
        where
          bare : (Live (b.holders u).status → ⊥) → ⊥
          bare h = checkpointed-irrefl (checkpointed-up k (rw (ap (λ (h : Holder). h.history.incarnation) (((run i).rel.holders u).gone h)) (initial-precedes a)))

      ready_of : ReadyBack now (first_events E i) (named g) → (W.right_is_superseded ≡ false) × (W.unallowed ≡ false)
      ready_of r = (off W.right_is_superseded (λ e. no-lost (lost-walk.0 e)), off W.unallowed (λ e. no-present (present-walk.0 e)))
        where
          off : (c : Bool) → (c ≡ true → ⊥) → c ≡ false
          off true n = absurd (n refl)
          off false n = refl

          no-lost : Lost → ⊥
          no-lost (lost-incarnation u a t k) = ⊎_elim
              (λ (c : Checkpointed a (own u (now.nodes u)).incarnation). superseded-not-checkpointed k (rw (own-incarnation u) at c))
              (λ p. superseded-ne k (p.1 ∙ own-incarnation u)) (r.incarnations u a t).is

          no-present : Unallowed (named g) (incarnation i) (first_events E i) (ground_of (named g)) → ⊥
          no-present (unallowed u t e) = ⊎_elim
              (λ (c : Checkpointed (incarnation i u) (own u (now.nodes u)).incarnation). checkpointed-irrefl (rw (own-incarnation u) at c))
              (λ p. true≢false (sym p.0 ∙ e)) (r.incarnations u (incarnation i u) t).is

      ready-to : ((t : ℕ) → named g t ≡ true → (own t (now.nodes t)).stable ≡ true) → W.right_is_superseded ≡ false → W.unallowed ≡ false → ReadyBack now (first_events E i) (named g)
      ready-to stable e f = record { stable = stable; incarnations = λ u a x. incarnation-ready u a x (precedes-split (traced-past course i x)) }
        where
          incarnation-ready : (u : ℕ) (a : Incarnation) → Traced (first_events E i) (ground_of (named g)) u a → Under a (incarnation i u) ⊎ Superseded a (incarnation i u) → IncarnationReady now (named g) u a
          incarnation-ready u a x (inr k) = absurd (true≢false (sym (lost-walk.1 (lost-incarnation u a x k)) ∙ e))
          incarnation-ready u a x (inl k) = ⊎_elim
              (λ (p : a ≡ incarnation i u). ⊎_elim
              (λ n. record { live = stable-live u (stable u n); is = inr (n, p ∙ sym (own-incarnation u)) })
              (λ n. absurd (true≢false (sym (present-walk.1 (unallowed u (subst (Traced (first_events E i) (ground_of (named g)) u) p x) n)) ∙ f)))
              (true-or-false (named g u)))
              (λ c. record { live = checkpointed-live u a c; is = inl (rw (own-incarnation u) c) })
              (under_split k)

      -- a volume of the layout's takes is ready exactly if the walk meets neither a withdrawn life nor a present one of another take
      pub ready-walk : g < bound 2 → (ready_at y (state_after y s steps i) g ≡ true)
          ↔ (((t : ℕ) → named g t ≡ true → (own t (now.nodes t)).stable ≡ true) × (W.right_is_superseded ≡ false) × (W.unallowed ≡ false))
      unfolding events
      ready-walk bits =
          let k = ready-back z well r steps octets i g bits in
          let e : first_events E i ≡ events_of (run i).fed = first-events i in (
            λ q. let p = subst (λ es. ReadyBack now es (named g)) (sym e) (k.0 q) in (p.stable, (ready_of p).0, (ready_of p).1),
            λ p. k.1 (subst (λ es. ReadyBack now es (named g)) e (ready-to p.0 p.1 p.2)),
          )
