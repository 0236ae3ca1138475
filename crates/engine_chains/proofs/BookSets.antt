-- The book's sets after a step are what its event makes of those before it.
use Prim.Native.Nat.{ℕ}
use mathlib.Core.Bool.{Bool, true, false}
use mathlib.Core.Path.{◌≡◌, refl, ap, sym, ◌∙◌}
use mathlib.Core.List.{List, [], ◌∷◌, ◌++◌}
use mathlib.Core.Logic.{◌↔◌}
use native.Mathlib.Omega.{arith}
use lib.Dec.{eqb}
use borrow.Author.Tests.{eqb-true}
use Rattle.octets.specs.Bytes.{pick}
use Rattle.marks.specs.Incarnation.{Incarnation, initial_incarnation, next_incarnation, checkpoint_incarnation}
use Rattle.marks.specs.History.{initial_view}
use Rattle.octets.specs.Table.{updated}
use Rattle.octets.proofs.Tables.{updated-self}
use Rattle.rules.specs.Layout.{Layout, Limits}
use Rattle.rules.specs.declared.Step.{Step}
use Rattle.rules.specs.Step.{root, letter, receive, new, send, read, write, freeze, finish, fall, lose}
use Rattle.rules.specs.Refusals.{named}
use Rattle.session.specs.Provenance.{Incarnations, idle, busy, annihilated, Holder, WaitingMessage, Provenance, blank, empty_provenance, no_waiting_message, find, is_missing, remove, with_holder, with_opened, with_waiting_message, without_waiting_message, one}
use Rattle.session.specs.Steps.{anew, carried, is_nil, rolled_back_holder, reads, writes, freezes, finishes, rolls_back_or_finishes, rolls_back_or_stays, acted, is_dropped, is_rolled_back, received, receives, opens_root, opens_child, checkpointed_at, applied, signs, ProvenanceStep, refuses, applies, signing, not-ready}
use Rattle.session.specs.Fed as book
use Rattle.session.specs.Fed.{ProvenanceSteps}
use Rattle.engine_chains.specs.Chain as chain
use Rattle.engine_chains.specs.Chain.{Places, Event}
use Rattle.engine_chains.specs.Internal.Sets.{Sets, no_sets, sets_of, Reached, change, Traced, sets_after}
use Rattle.engine_chains.specs.Internal.Book.{rollback_event, acted_event, receipt_event, applied_event, sign_event, step_event, events_of}
use Rattle.octets.proofs.Tests.{pick-view, pick-both}
use Rattle.engine_chains.proofs.Seek.{Rising, no_more, rising-append, rising-without, without, seek, seek-without, seek-append}
use Rattle.engine_chains.proofs.Exact.{traced-exact}

-- ---- parcels by their numbers, which rise and are below the next

pub missing-is : (n : ℕ) (qs : List WaitingMessage) → is_missing n qs ≡ seek (λ q. q.number) (λ q. false) true n qs
unfolding is_missing seek
missing-is n [] = refl
missing-is n (q ∷ qs) = ap (pick (eqb q.number n) false) (missing-is n qs)

pub remove-is : (n : ℕ) (qs : List WaitingMessage) → remove n qs ≡ without (λ q. q.number) n qs
unfolding remove without
remove-is n [] = refl
remove-is n (q ∷ qs) = ap (λ r. pick (eqb q.number n) qs (q ∷ r)) (remove-is n qs)

module _ {B : Type 0} (f : WaitingMessage → B) where
  found-is : (qs : List WaitingMessage) (n : ℕ) → f (find n qs) ≡ seek (λ q. q.number) f (f no_waiting_message) n qs
  unfolding find seek
  found-is [] n = refl
  found-is (q ∷ qs) n = go (eqb q.number n) (found-is qs n)
    where
      go : (c : Bool) → f (find n qs) ≡ seek (λ q. q.number) f (f no_waiting_message) n qs → f (pick c q (find n qs)) ≡ pick c (f q) (seek (λ q. q.number) f (f no_waiting_message) n qs)
      go true e = refl
      go false e = e

  pub find-remove : {m k : ℕ} {qs : List WaitingMessage} (n : ℕ) → Rising (λ q. q.number) m k qs → (j : ℕ) → f (find j (remove n qs)) ≡ updated (λ j. f (find j qs)) n (f no_waiting_message) j
  find-remove {qs = qs} n r j =
      found-is (remove n qs) j ∙ ap (seek (λ q. q.number) f (f no_waiting_message) j) (remove-is n qs) ∙ seek-without (λ q. q.number) f (f no_waiting_message) n r j
      ∙ ap (λ (g : ℕ → B). updated g n (f no_waiting_message) j) (λ i k. sym (found-is qs k) i)

  pub find-append : {m k : ℕ} {qs : List WaitingMessage} (q : WaitingMessage) → q.number ≡ m → Rising (λ q. q.number) m k qs
      → (j : ℕ) → f (find j (qs ++ (q ∷ []))) ≡ updated (λ j. f (find j qs)) m (f q) j
  find-append {m} {qs = qs} q e r j =
      found-is (qs ++ (q ∷ [])) j ∙ seek-append (λ q. q.number) f (f no_waiting_message) q e r j ∙ ap (λ (g : ℕ → B). updated g m (f q) j) (λ i k. sym (found-is qs k) i)

pub missing-remove : {m k : ℕ} {qs : List WaitingMessage} (n : ℕ) → Rising (λ q. q.number) m k qs → (j : ℕ) → is_missing j (remove n qs) ≡ updated (λ j. is_missing j qs) n true j
missing-remove {qs = qs} n r j =
    missing-is j (remove n qs) ∙ ap (seek (λ q. q.number) (λ q. false) true j) (remove-is n qs) ∙ seek-without (λ q. q.number) (λ q. false) true n r j
    ∙ ap (λ (g : ℕ → Bool). updated g n true j) (λ i k. sym (missing-is k qs) i)

pub missing-append : {m k : ℕ} {qs : List WaitingMessage} (q : WaitingMessage) → q.number ≡ m → Rising (λ q. q.number) m k qs
    → (j : ℕ) → is_missing j (qs ++ (q ∷ [])) ≡ updated (λ j. is_missing j qs) m false j
missing-append {m} {qs = qs} q e r j =
    missing-is j (qs ++ (q ∷ [])) ∙ seek-append (λ q. q.number) (λ q. false) true q e r j ∙ ap (λ (g : ℕ → Bool). updated g m false j) (λ i k. sym (missing-is k qs) i)

-- ---- every step keeps them so

abbrev pub NumberedBook : Provenance → Type 0
NumberedBook b = Rising (λ q. q.number) b.next 0 b.messages

rising-remove : {m k : ℕ} {qs : List WaitingMessage} (n : ℕ) → Rising (λ q. q.number) m k qs → Rising (λ q. q.number) m k (remove n qs)
rising-remove {m} {k} {qs} n r = rw (remove-is n qs) (rising-without (λ q. q.number) n r)

applied-numbered : (b : Provenance) (p : Step) → NumberedBook b → NumberedBook (applied b p)
unfolding applied opens_root opens_child receives
applied-numbered b p h =
    pick-view NumberedBook (eqb p.kind root) _ _ (λ e. h) λ e.
    pick-view NumberedBook (eqb p.kind letter) _ _ (λ e. rising-append (λ q. q.number) _ refl h) λ e.
    pick-view NumberedBook (eqb p.kind receive) _ _ (λ e. rising-remove p.message h) λ e.
    pick-view NumberedBook (eqb p.kind new) _ _ (λ e. h) λ e.
    pick-view NumberedBook (eqb p.kind send) _ _ (λ e. rising-append (λ q. q.number) _ refl h) λ e.
    pick-view NumberedBook (eqb p.kind lose) _ _ (λ e. rising-remove p.message h) (λ e. h)

pub step-numbered : {y : Layout} {b : Provenance} {p : Step} {c : Provenance} → ProvenanceStep y b p c → NumberedBook b → NumberedBook c
step-numbered (refuses z) h = h
step-numbered {b = b} {p = p} (applies z k) h = applied-numbered b p h
step-numbered (signing z k e) h = h
step-numbered (not-ready z k e) h = h

pub steps-numbered : {y : Layout} {m : Limits} {steps : List ℕ} {i : ℕ} {b : Provenance} → ProvenanceSteps y (empty_provenance m) steps i b → NumberedBook b
steps-numbered book.none = no_more {k = 0} (omega arith)
steps-numbered (book.more τ k) = step-numbered k (steps-numbered τ)

-- ---- the sets

same-sets : (S T : Sets) → ((t : ℕ) → S.state t ≡ T.state t) → ((t : ℕ) → S.creation t ≡ T.creation t) → ((t : ℕ) → S.behaviour t ≡ T.behaviour t) → ((n : ℕ) → S.message n ≡ T.message n) → S ≡ T
same-sets S T p q r s = λ i. record { state = λ t. p t i; creation = λ t. q t i; behaviour = λ t. r t i; message = λ n. s n i }

pub updated-ap : {A B : Type 0} (f : A → B) (F : ℕ → A) (t : ℕ) (x : A) (u : ℕ) → f (updated F t x u) ≡ updated (λ k. f (F k)) t (f x) u
unfolding updated
updated-ap {A} {B} f F t x u = go (eqb t u)
  where
    go : (c : Bool) → f (pick c x (F u)) ≡ pick c (f x) (f (F u))
    go true = refl
    go false = refl

pick-ap : {A B : Type 0} (f : A → B) (c : Bool) (x y : A) → f (pick c x y) ≡ pick c (f x) (f y)
pick-ap f true x y = refl
pick-ap f false x y = refl

-- the own life alone, at one take
renew-same : (F : ℕ → Incarnations) (t : ℕ) (a : Incarnation) (u : ℕ) → updated F t (one t a) u ≡ pick (eqb t u) (one u a) (F u)
unfolding updated
renew-same F t a u = go (eqb t u) refl
  where
    go : (c : Bool) → eqb t u ≡ c → pick c (one t a) (F u) ≡ pick c (one u a) (F u)
    go true e = ap (λ k. one k a) (eqb-true t u e)
    go false e = refl

drop-same : (F : ℕ → Incarnations) (t u : ℕ) → updated F t [] u ≡ pick (eqb t u) [] (F u)
unfolding updated
drop-same F t u = refl

-- take t with the sets of h
abbrev put_sets : Sets → ℕ → Holder → Sets
put_sets S t h = record { state = updated S.state t h.state; creation = updated S.creation t h.creation; behaviour = updated S.behaviour t h.behaviour; message = S.message }

put-sets : (b : Provenance) (t : ℕ) (h : Holder) → sets_of (with_holder b t h) ≡ put_sets (sets_of b) t h
put-sets b t h = same-sets (sets_of (with_holder b t h)) (put_sets (sets_of b) t h)
    (updated-ap (λ z. z.state) b.holders t h) (updated-ap (λ z. z.creation) b.holders t h) (updated-ap (λ z. z.behaviour) b.holders t h) (λ n. refl)

-- one take alone
module _ (b : Provenance) (t : ℕ) where
  abbrev S : Sets
  S = sets_of b

  abbrev h : Holder
  h = b.holders t

  abbrev Does : Holder → Event → Type 0
  Does w e = put_sets S t w ≡ change e S

  stays : Does h chain.nothing
  unfolding change
  stays = same-sets (put_sets S t h) S (updated-self S.state t) (updated-self S.creation t) (updated-self S.behaviour t) (λ n. refl)

  finish-does : Does (finishes h) (chain.finishes t)
  unfolding change finishes
  finish-does = same-sets (put_sets S t (finishes h)) (change (chain.finishes t) S) (updated-self S.state t) (updated-self S.creation t) (λ u. refl) (λ n. refl)

  rollback-does : Does (rolled_back_holder t h) (rollback_event t h)
  unfolding change rolled_back_holder rollback_event
  rollback-does =
      let a : Incarnation = next_incarnation h.history.incarnation in
      pick-both Does (is_nil h.history.incarnation.checkpoints) (is_nil h.history.incarnation.checkpoints) refl (blank annihilated) (anew t (record { stable = false; incarnation = a }))
      (chain.annihilated t) (chain.renewed (λ u. eqb t u) (λ u. a))
      (λ e. refl)
      (λ e. same-sets (put_sets S t (anew t (record { stable = false; incarnation = a }))) (change (chain.renewed (λ u. eqb t u) (λ u. a)) S)
      (renew-same S.state t a) (drop-same S.creation t) (drop-same S.behaviour t) (λ n. refl))

  acted-does : (k : ℕ) → Does (acted k t h) (acted_event k t h)
  unfolding change acted acted_event reads writes freezes rolls_back_or_finishes rolls_back_or_stays
  acted-does k =
      let w : Holder = record { status = h.status; history = h.history; state = h.behaviour ++ h.state; creation = h.creation; behaviour = h.behaviour } in
      pick-both Does (eqb k read) (eqb k read) refl (reads h) _ (chain.reads t) _
      (λ e. same-sets (put_sets S t (reads h)) (change (chain.reads t) S) (updated-self S.state t) (updated-self S.creation t) (λ u. refl) (λ n. refl)) λ e.
      pick-both Does (eqb k write) (eqb k write) refl (writes h) _ (pick h.history.stable chain.nothing (chain.writes t)) _
      (λ e. pick-both Does h.history.stable h.history.stable refl h w chain.nothing (chain.writes t) (λ e. stays)
      (λ e. same-sets (put_sets S t w) (change (chain.writes t) S) (λ u. refl) (updated-self S.creation t) (updated-self S.behaviour t) (λ n. refl))) λ e.
      pick-both Does (eqb k freeze) (eqb k freeze) refl (freezes h) _ chain.nothing _ (λ e. stays) λ e.
      pick-both Does (eqb k finish) (eqb k finish) refl (finishes h) _ (chain.finishes t) _ (λ e. finish-does) λ e.
      pick-both Does (eqb k fall) (eqb k fall) refl (rolls_back_or_finishes t h) (rolls_back_or_stays t h) (pick h.history.stable (chain.finishes t) (rollback_event t h)) (pick h.history.stable chain.nothing (rollback_event t h))
      (λ e. pick-both Does h.history.stable h.history.stable refl (finishes h) (rolled_back_holder t h) (chain.finishes t) (rollback_event t h) (λ e. finish-does) (λ e. rollback-does))
      (λ e. pick-both Does h.history.stable h.history.stable refl h (rolled_back_holder t h) chain.nothing (rollback_event t h) (λ e. stays) (λ e. rollback-does))

-- a parcel gone
lose-sets : (b : Provenance) (n : ℕ) → NumberedBook b → sets_of (without_waiting_message b n) ≡ change (chain.cleared n) (sets_of b)
unfolding change
lose-sets b n r = same-sets (sets_of (without_waiting_message b n)) (change (chain.cleared n) (sets_of b)) (λ t. refl) (λ t. refl) (λ t. refl) (find-remove (λ q. q.incarnations) n r)

receive-sets : (b : Provenance) (n : ℕ) → NumberedBook b → (t : ℕ) → sets_of (with_holder (without_waiting_message b n) t (received t (b.holders t) (find n b.messages))) ≡ change (receipt_event n t (b.holders t) (find n b.messages)) (sets_of b)
unfolding change received receipt_event
receive-sets b n r t =
    let h : Holder = b.holders t in
    let q : WaitingMessage = find n b.messages in
    let b1 : Provenance = without_waiting_message b n in
    let w : Holder = record { status = busy; history = h.history; state = h.state; creation = h.creation; behaviour = q.incarnations } in
    let gone : sets_of b1 ≡ change (chain.cleared n) (sets_of b) = lose-sets b n r in
    put-sets b1 t (received t h q) ∙
    pick-both (λ z e. put_sets (sets_of b1) t z ≡ change e (sets_of b)) (is_dropped h q) (is_dropped h q) refl h _ (chain.cleared n) _
    (λ e. stays b1 t ∙ gone) λ e.
    pick-both (λ z e. put_sets (sets_of b1) t z ≡ change e (sets_of b)) (is_rolled_back h q) (is_rolled_back h q) refl (rolled_back_holder t h) w (chain.successive (chain.cleared n) (rollback_event t h)) (chain.taken n t)
    (λ e. rollback-does b1 t ∙ ap (change (rollback_event t h)) gone)
    (λ e. same-sets (put_sets (sets_of b1) t w) (change (chain.taken n t) (sets_of b)) (updated-self (sets_of b).state t) (updated-self (sets_of b).creation t) (λ u. refl) (find-remove (λ q. q.incarnations) n r))

-- a take opened
opened-sets : (b : Provenance) (h : Holder) → sets_of (with_opened b h) ≡ put_sets (sets_of b) b.opened h
opened-sets b h = same-sets (sets_of (with_opened b h)) (put_sets (sets_of b) b.opened h)
    (updated-ap (λ z. z.state) b.holders b.opened h) (updated-ap (λ z. z.creation) b.holders b.opened h) (updated-ap (λ z. z.behaviour) b.holders b.opened h) (λ n. refl)

root-sets : (b : Provenance) → sets_of (opens_root b) ≡ change (chain.renewed (λ u. eqb b.opened u) (λ u. initial_incarnation)) (sets_of b)
unfolding change opens_root
root-sets b = opened-sets b (anew b.opened initial_view) ∙
    same-sets (put_sets (sets_of b) b.opened (anew b.opened initial_view)) (change (chain.renewed (λ u. eqb b.opened u) (λ u. initial_incarnation)) (sets_of b))
    (renew-same (sets_of b).state b.opened initial_incarnation) (drop-same (sets_of b).creation b.opened) (drop-same (sets_of b).behaviour b.opened) (λ n. refl)

child-sets : (b : Provenance) (t : ℕ) → sets_of (opens_child b t) ≡ change (chain.opens t b.opened (b.holders t).history.incarnation) (sets_of b)
unfolding change opens_child
child-sets b t =
    let h : Holder = b.holders t in
    let c : ℕ = b.opened in
    let child : Holder = record { status = idle; history = initial_view; state = one c initial_view.incarnation; creation = carried t h; behaviour = [] } in
    let opener : Holder = record { status = h.status; history = h.history; state = h.state; creation = h.creation; behaviour = one c initial_view.incarnation ++ h.behaviour } in
    let S : Sets = put_sets (sets_of b) t opener in
    opened-sets (with_holder b t opener) child ∙ ap (λ Z. put_sets Z c child) (put-sets b t opener) ∙
    same-sets (put_sets S c child) (change (chain.opens t c h.history.incarnation) (sets_of b))
    (λ u. ap (λ (F : ℕ → Incarnations). updated F c (one c initial_incarnation) u) (λ i k. updated-self (sets_of b).state t k i))
    (λ u. ap (λ (F : ℕ → Incarnations). updated F c (carried t h) u) (λ i k. updated-self (sets_of b).creation t k i))
    (λ u. refl) (λ n. refl)

-- a parcel more
send-sets : (b : Provenance) (to : ℕ) (X : Incarnations) (e : Event) → NumberedBook b
    → change e (sets_of b) ≡ record { state = (sets_of b).state; creation = (sets_of b).creation; behaviour = (sets_of b).behaviour; message = updated (sets_of b).message b.next X }
    → sets_of (with_waiting_message b to X) ≡ change e (sets_of b)
send-sets b to X e r p =
    same-sets (sets_of (with_waiting_message b to X)) (record { state = (sets_of b).state; creation = (sets_of b).creation; behaviour = (sets_of b).behaviour; message = updated (sets_of b).message b.next X })
    (λ t. refl) (λ t. refl) (λ t. refl) (find-append (λ q. q.incarnations) (record { number = b.next; addressee = to; incarnations = X }) refl r) ∙ sym p

-- ---- every step

applied-sets : (b : Provenance) (p : Step) → NumberedBook b → sets_of (applied b p) ≡ change (applied_event b p) (sets_of b)
unfolding change applied applied_event receives
applied-sets b p r =
    let k : ℕ = p.kind in
    let t : ℕ = p.transactor in
    let P : Provenance → Event → Type 0 = λ c e. sets_of c ≡ change e (sets_of b) in
    pick-both P (eqb k root) (eqb k root) refl (opens_root b) _ _ _ (λ e. root-sets b) λ e.
    pick-both P (eqb k letter) (eqb k letter) refl (with_waiting_message b t []) _ (chain.cleared b.next) _ (λ e. send-sets b t [] (chain.cleared b.next) r refl) λ e.
    pick-both P (eqb k receive) (eqb k receive) refl (receives b p.message) _ _ _ (λ e. receive-sets b p.message r (find p.message b.messages).addressee) λ e.
    pick-both P (eqb k new) (eqb k new) refl (opens_child b t) _ _ _ (λ e. child-sets b t) λ e.
    pick-both P (eqb k send) (eqb k send) refl (with_waiting_message b p.other (carried t (b.holders t))) _ (chain.sent b.next t (b.holders t).history.incarnation) _
    (λ e. send-sets b p.other (carried t (b.holders t)) (chain.sent b.next t (b.holders t).history.incarnation) r refl) λ e.
    pick-both P (eqb k lose) (eqb k lose) refl (without_waiting_message b p.message) (with_holder b t (acted k t (b.holders t))) (chain.cleared p.message) (acted_event k t (b.holders t))
    (λ e. lose-sets b p.message r) (λ e. put-sets b t (acted k t (b.holders t)) ∙ acted-does b t k)

sign-sets : (b : Provenance) (g : ℕ) → sets_of (signs b g) ≡ change (sign_event b g) (sets_of b)
unfolding change sign_event checkpointed_at
sign-sets b g =
    let w : ℕ → Holder = λ t. anew t (record { stable = false; incarnation = checkpoint_incarnation (b.holders t).history.incarnation }) in
    same-sets (sets_of (signs b g)) (change (sign_event b g) (sets_of b))
    (λ t. pick-ap (λ z. z.state) (named g t) (w t) (b.holders t)) (λ t. pick-ap (λ z. z.creation) (named g t) (w t) (b.holders t)) (λ t. pick-ap (λ z. z.behaviour) (named g t) (w t) (b.holders t)) (λ n. refl)

pub step-sets : {y : Layout} {b : Provenance} {p : Step} {c : Provenance} (k : ProvenanceStep y b p c) → NumberedBook b → sets_of c ≡ change (step_event k) (sets_of b)
unfolding change
step-sets (refuses z) r = refl
step-sets {b = b} {p = p} (applies z k) r = applied-sets b p r
step-sets {b = b} {p = p} (signing z k e) r = sign-sets b p.message
step-sets (not-ready z k e) r = refl

empty-sets : (m : Limits) → sets_of (empty_provenance m) ≡ no_sets
unfolding find
empty-sets m = refl

pub steps-sets : {y : Layout} {m : Limits} {steps : List ℕ} {i : ℕ} {b : Provenance} (τ : ProvenanceSteps y (empty_provenance m) steps i b) → sets_of b ≡ sets_after (events_of τ)
unfolding sets_after
steps-sets {m = m} book.none = empty-sets m
steps-sets (book.more τ k) = step-sets k (steps-numbered τ) ∙ ap (change (step_event k)) (steps-sets τ)

-- A life is in a set of the book that is followed exactly if the way back over the book's own steps meets it.
pub book-traced : {y : Layout} {m : Limits} {steps : List ℕ} {i : ℕ} {b : Provenance} (τ : ProvenanceSteps y (empty_provenance m) steps i b) (Q : Places) (u : ℕ) (a : Incarnation)
    → Reached (sets_of b) Q u a ↔ Traced (events_of τ) Q u a
book-traced τ Q u a = rw (steps-sets τ) (traced-exact (events_of τ) Q u a)
