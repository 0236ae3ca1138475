-- A step on the engine's tables is the ledger's: the same reply, and the tables say what the state and the book after it are.
use Prim.Native.Nat.{ℕ, ◌+◌, ◌-◌, ◌≤◌, ◌<◌}
use mathlib.Core.Bool.{Bool, true, false, not}
use mathlib.Core.Path.{◌≡◌, refl, ap, sym, ◌∙◌, subst}
use mathlib.Core.List.{[], ◌∷◌, ◌++◌}
use mathlib.Core.Logic.{◌↔◌, inr}
use native.Mathlib.Omega.{arith}
use lib.Dec.{eqb, leb}
use lib.ListN.{length, length-append, length-set}
use borrow.Author.Tests.{eqb-true, eqb-false, eq-eqb, ne_eqb, le-leb}
use Rattle.octets.specs.Bytes.{pick, ◌and◌, ◌or◌}
use Rattle.octets.specs.Numbers.{bound}
use Rattle.maps.specs.declared.DependenceMap.{DependenceMap}
use Rattle.octets.proofs.Tests.{never, pick-both, and-of, or-of}
use Rattle.octets.specs.Table.{updated}
use Rattle.rules.specs.Layout.{Layout}
use Rattle.rules.specs.State.{Transactor, Message, State, transactor_at, message_at, with_transactor, with_opened, with_message, without_message, place_of}
use Rattle.rules.specs.declared.Step.{Step}
use Rattle.rules.specs.Step.{done, not_ready, root, letter, receive, new, send, fail, lose, sign}
use Rattle.rules.specs.Refusals.{Seen, named, any_named, not_waiting, unopened, is_gone, wrong_status, unrelated_receipt, all_opened, all_waiting, all_numbered, all_checkpointed, at_last, last_rolls_back, refusal_of}
use Rattle.rules.specs.Rules.{Result, answer, message_superseded, receiver_superseded, receive_by, checkpoint_group, opened, apply_root, apply_letter, apply_receive, apply_new, apply_send, apply_lose, apply_local, apply, seen, refusal, step_of}
use Rattle.rules.specs.Internal.Well.{WellFormed}
use Rattle.rules.proofs.Keep.Accepted.{accepted, message-waits}
use Rattle.rules.proofs.Keep.Step.{applied-same}
use Rattle.session.specs.Provenance.{Incarnations, Holder, WaitingMessage, Provenance, find, is_missing, remove, with_holder, with_waiting_message, without_waiting_message}
use Rattle.session.specs.Provenance as provenance
use Rattle.session.specs.Steps.{is_dropped, is_rolled_back, acted, received, receives, opens_root, opens_child, checkpointed_at, applied, signs, provenance_seen, provenance_refusal, ProvenanceStep, refuses, applies, signing, not-ready}
use Rattle.session.specs.Grounds.{Equal}
use Rattle.session.proofs.Step.{SigningRight, checkpointed, uncheckpointed, StepRight}
use Rattle.session.proofs.Model.{view}
use Rattle.octets.proofs.Tables.{updated-self, updated-both}
use Rattle.session.proofs.Relation.{Rel}
use Rattle.session.proofs.Related.{receipt-related}
use Rattle.session.proofs.Seen.{same_seen}
use Rattle.session.proofs.ViewStep.{Applicable, applicable, same-refusal}
use Rattle.session.proofs.ViewRules.{dropped_at, rolled_back_at}
use Rattle.engine_tables.specs.declared.table.Row.{Row}
use Rattle.engine_tables.specs.declared.table.Slot.{Slot}
use Rattle.engine_tables.specs.Internal.Tables.{Tables, opened_row, filled_slot, empty_slot, with_row, open_row, with_slot, without_slot, checkpoint_row, checkpoint_rows, receive_row, Played, play_receive, play_local, play_applied, seen_in, play_refusal, play}
use Rattle.engine_chains.proofs.Seek.{seek, seek-append, seek-without, length_without}
use Rattle.engine_chains.proofs.BookSets.{NumberedBook, missing-is, remove-is, find-remove, find-append, missing-remove, missing-append}
use Rattle.engine_chains.proofs.Replied as replied
use Rattle.engine_replies.proofs.Tells.{updated-each, pick-each, RowRel, EffectRel, local-rel, receive-rel, checkpoint-rel, transactor-with, transactor-opened, transactor-message, transactor-without, transactor-checkpoint, content_in, content-is, messages-without, state-rising, Tells}

-- a table seen through f, one place changed
through : {A B : Type 0} (f : A → B) (F : ℕ → A) (G : ℕ → B) → ((k : ℕ) → f (F k) ≡ G k) → (t t' : ℕ) → t ≡ t' → (x : A) (z : B) → f x ≡ z
    → (u : ℕ) → f (updated F t x u) ≡ updated G t' z u
through f F G q t t' e x z p u = rw e (updated-both (λ u a c. f a ≡ c) F G t' x z p (λ u d. q u) u)

-- what a step leaves and replies
pub record Plays (c : Provenance) (res : Result) (pl : Played) : Type 0 where
  pub reply : pl.reply ≡ res.reply
  pub tells : Tells c res.state pl.tables

-- a take opened
open-tells : {b : Provenance} {s : State} {T : Tables} → Tells b s T → T.opened ≡ s.opened → s.opened < length s.transactors
    → (v : ℕ) (k : Holder) (x : Transactor) → RowRel k x (opened_row v) → Tells (provenance.with_opened b k) (opened s x) (open_row T v)
unfolding open_row opened with_opened with_transactor transactor_at
open-tells {b} {s} {T} tells e h v k x r = record {
  limits = tells.limits;
  opened = ap (λ n. n + 1) tells.opened;
  next = tells.next;
  waiting = tells.waiting;
  rows = λ u. subst (λ (X : ℕ → Transactor). RowRel (updated b.holders b.opened k u) (X u) (updated T.rows T.opened (opened_row v) u))
      (sym (transactor-opened s x h)) (put (sym e ∙ tells.opened) tells.opened u);
  messages = tells.messages;
}
  where
    put : s.opened ≡ b.opened → T.opened ≡ b.opened → (u : ℕ) → RowRel (updated b.holders b.opened k u) (updated (transactor_at s) s.opened x u) (updated T.rows T.opened (opened_row v) u)
    put i j u = rw (i, j) (updated-each (λ u. RowRel) b.holders (transactor_at s) T.rows b.opened k x (opened_row v) r (λ u d. tells.rows u) u)

module _ {y : Layout} {s : State} (well : WellFormed y s) {b : Provenance} (rel : Rel (view s) b) (numbered : NumberedBook b) {T : Tables} (tells : Tells b s T) where
  same-opened : T.opened ≡ s.opened
  unfolding view
  same-opened = tells.opened ∙ sym rel.opened

  same_next : T.next ≡ s.next
  unfolding view
  same_next = tells.next ∙ sym rel.next

  inside : (t : ℕ) → t < y.transactors → t < length s.transactors
  inside t h = omega (arith, well.packable.many)

  rows-put : (t t1 t2 : ℕ) → t1 ≡ t → t2 ≡ t → (h : Holder) (x : Transactor) (r : Row) → RowRel h x r
      → (u : ℕ) → RowRel (updated b.holders t h u) (updated (transactor_at s) t1 x u) (updated T.rows t2 r u)
  rows-put t t1 t2 e f h x r k u = rw (e, f) (updated-each (λ u. RowRel) b.holders (transactor_at s) T.rows t h x r k (λ u d. tells.rows u) u)

  -- ---- a parcel more

  content-append : (c : Bool) (to v : ℕ) (M : DependenceMap) (n : ℕ) → (updated T.messages T.next (filled_slot c to v) n).content
      ≡ content_in n (s.messages ++ (record { addressee = to; number = s.next; value = v; dependences = M } ∷ []))
  unfolding content_in
  content-append c to v M n =
      let m : Message = record { addressee = to; number = s.next; value = v; dependences = M } in
      let z : Slot = filled_slot c to v in
      through (λ a. a.content) T.messages (λ k. seek (λ m. m.number) (λ m. m.value) 0 k s.messages) (λ k. (tells.messages k).content) T.next s.next same_next z v refl n
      ∙ sym (seek-append (λ m. m.number) (λ m. m.value) 0 m refl (state-rising well) n)

  -- a letter has no life
  letter-append : (c : Bool) (to v : ℕ) (X : Incarnations) → (c ≡ true → X ≡ []) → (n : ℕ) → (updated T.messages T.next (filled_slot c to v) n).letter ≡ true
      → (find n (b.messages ++ (record { number = b.next; addressee = to; incarnations = X } ∷ []))).incarnations ≡ []
  letter-append c to v X none n =
      let q : WaitingMessage = record { number = b.next; addressee = to; incarnations = X } in
      let z : Slot = filled_slot c to v in
      rw tells.next (λ e. find-append (λ q. q.incarnations) q refl numbered n
      ∙ updated-both (λ n (a : Slot) (Y : Incarnations). a.letter ≡ true → Y ≡ []) T.messages (λ k. (find k b.messages).incarnations) b.next z X none (λ k d. (tells.messages k).letter) n e)

  with-slot : (c : Bool) (to v : ℕ) (X : Incarnations) → (c ≡ true → X ≡ []) → (M : DependenceMap) → Tells (with_waiting_message b to X) (with_message s to v M) (with_slot T c to v)
  unfolding with_slot with_message
  with-slot c to v X none M =
      let q : WaitingMessage = record { number = b.next; addressee = to; incarnations = X } in
      let z : Slot = filled_slot c to v in
      record {
        limits = tells.limits;
        opened = tells.opened;
        next = ap (λ n. n + 1) tells.next;
        waiting = ap (λ n. n + 1) tells.waiting ∙ sym (length-append b.messages (q ∷ []));
        rows = λ u. subst (λ (X : ℕ → Transactor). RowRel (b.holders u) (X u) (T.rows u)) (sym (transactor-message s to v M)) (tells.rows u);
        messages = λ n. record {
          missing = through (λ a. a.missing) T.messages (λ k. is_missing k b.messages) (λ k. (tells.messages k).missing) T.next b.next tells.next z false refl n
              ∙ sym (missing-append q refl numbered n);
          addressee = through (λ a. a.addressee) T.messages (λ k. (find k b.messages).addressee) (λ k. (tells.messages k).addressee) T.next b.next tells.next z to refl n
              ∙ sym (find-append (λ q. q.addressee) q refl numbered n);
          content = content-append c to v M n;
          letter = letter-append c to v X none n;
        };
      }

  -- ---- a parcel gone

  content-without : (n k : ℕ) → (updated T.messages n empty_slot k).content ≡ content_in k (without_message s (place_of s n)).messages
  unfolding content_in
  content-without n k =
      through (λ a. a.content) T.messages (λ k. seek (λ m. m.number) (λ m. m.value) 0 k s.messages) (λ k. (tells.messages k).content) n n refl empty_slot 0 refl k
      ∙ sym (seek-without (λ m. m.number) (λ m. m.value) 0 n (state-rising well) k)
      ∙ ap (seek (λ m. m.number) (λ m. m.value) 0 k) (sym (messages-without s n))

  one_less : (n : ℕ) → (T.messages n).missing ≡ false → T.waiting - 1 ≡ length (remove n b.messages)
  one_less n e =
      let l = length_without (λ q. q.number) n b.messages (sym (missing-is n b.messages) ∙ sym (tells.messages n).missing ∙ e) in
      let w = tells.waiting in
      rw (remove-is n b.messages) (omega arith)

  without-slot : (n : ℕ) → (T.messages n).missing ≡ false → Tells (without_waiting_message b n) (without_message s (place_of s n)) (without_slot T n)
  unfolding without_slot without_message
  without-slot n e = record {
    limits = tells.limits;
    opened = tells.opened;
    next = tells.next;
    waiting = one_less n e;
    rows = λ u. subst (λ (X : ℕ → Transactor). RowRel (b.holders u) (X u) (T.rows u)) (sym (transactor-without s (place_of s n))) (tells.rows u);
    messages = λ k. record {
      missing = through (λ a. a.missing) T.messages (λ k. is_missing k b.messages) (λ k. (tells.messages k).missing) n n refl empty_slot true refl k ∙ sym (missing-remove n numbered k);
      addressee = through (λ a. a.addressee) T.messages (λ k. (find k b.messages).addressee) (λ k. (tells.messages k).addressee) n n refl empty_slot 0 refl k ∙ sym (find-remove (λ q. q.addressee) n numbered k);
      content = content-without n k;
      letter = λ e. find-remove (λ q. q.incarnations) n numbered k
          ∙ updated-both (λ n (a : Slot) (Y : Incarnations). a.letter ≡ true → Y ≡ []) T.messages (λ k. (find k b.messages).incarnations) n empty_slot [] (λ z. refl) (λ k d. (tells.messages k).letter) k e;
    };
  }

  -- ---- one take changed

  with-row : (t : ℕ) (h : Holder) (x : Transactor) (r : Row) → t < y.transactors → RowRel h x r → Tells (with_holder b t h) (with_transactor s t x) (with_row T t r)
  unfolding with_transactor
  with-row t h x r k z = record {
    limits = tells.limits;
    opened = tells.opened;
    next = tells.next;
    waiting = tells.waiting;
    rows = λ u. subst (λ (X : ℕ → Transactor). RowRel (updated b.holders t h u) (X u) (updated T.rows t r u)) (sym (transactor-with s t x (inside t k))) (rows-put t t t refl refl h x r z u);
    messages = tells.messages;
  }

  -- ---- a volume signed

  pub with-checkpoint : (g : ℕ) → ((t : ℕ) → named g t ≡ true → t < y.transactors) → Tells (signs b g) (checkpoint_group y s g) (checkpoint_rows T g)
  unfolding checkpoint_rows checkpoint_group checkpointed_at
  with-checkpoint g bounded = record {
    limits = tells.limits;
    opened = tells.opened;
    next = tells.next;
    waiting = tells.waiting;
    rows = λ t. subst (λ (x : Transactor). RowRel (checkpointed_at b g t) x (pick (named g t) (checkpoint_row (T.rows t)) (T.rows t))) (sym (transactor-checkpoint well g bounded t))
        (pick-each RowRel (named g t) (named g t) (named g t) refl refl _ _ _ _ _ _ (λ e. checkpoint-rel well rel t (T.rows t) (tells.rows t)) (λ e. tells.rows t));
    messages = tells.messages;
  }

  -- ---- a parcel received

  receive-tells : (n t : ℕ) (h : Holder) (x : Transactor) (r : Row) → t < y.transactors → (T.messages n).missing ≡ false → RowRel h x r
      → Tells (with_holder (without_waiting_message b n) t h) (without_message (with_transactor s t x) (place_of s n)) (without_slot (with_row T t r) n)
  unfolding without_slot without_message with_transactor transactor_at
  receive-tells n t h x r k e z =
      let w = without-slot n e in
      record {
        limits = tells.limits;
        opened = tells.opened;
        next = tells.next;
        waiting = w.waiting;
        rows = (with-row t h x r k z).rows;
        messages = w.messages;
      }

  -- ---- every step that is not refused

  module _ {p : Step} (a : Applicable y s p) (known : eqb p.kind receive or eqb p.kind lose ≡ true → (T.messages p.message).missing ≡ false) (d f g : Bool)
      (drops : d ≡ is_dropped (b.holders (find p.message b.messages).addressee) (find p.message b.messages))
      (rolls : f ≡ is_rolled_back (b.holders (find p.message b.messages).addressee) (find p.message b.messages)) where
    abbrev n : ℕ
    n = p.message

    abbrev t : ℕ
    t = p.transactor

    root-plays : s.opened < y.transactors → Plays (opens_root b) (apply_root y s p) (record { reply = answer done T.opened 0 0; tables = open_row T p.value })
    unfolding opens_root apply_root
    root-plays h = record {
      reply = λ i. answer done (same-opened i) 0 0;
      tells = open-tells tells same-opened (inside s.opened h) p.value _ _ (record { status = refl; stable = refl; checkpoints = refl; incarnation = refl; value = refl; saved = refl });
    }

    -- the opener: its row is what it was
    opener-tells : (h : Holder) (x : Transactor) → t < y.transactors → RowRel h x (T.rows t) → Tells (with_holder b t h) (with_transactor s t x) T
    unfolding with_transactor
    opener-tells h x k z =
        let w = with-row t h x (T.rows t) k z in
        record {
          limits = w.limits;
          opened = w.opened;
          next = w.next;
          waiting = w.waiting;
          rows = λ u. subst (RowRel (updated b.holders t h u) (transactor_at (with_transactor s t x) u)) (updated-self T.rows t u) (w.rows u);
          messages = w.messages;
        }

    new-plays : t < y.transactors → s.opened < y.transactors → Plays (opens_child b t) (apply_new y s p) (record { reply = answer done T.opened 0 0; tables = open_row T p.value })
    unfolding opens_child apply_new with_transactor
    new-plays h k =
        let z = tells.rows t in
        record {
          reply = λ i. answer done (same-opened i) 0 0;
          tells = open-tells
              (opener-tells _ _ h (record { status = z.status; stable = z.stable; checkpoints = z.checkpoints; incarnation = z.incarnation; value = z.value; saved = z.saved }))
              same-opened (rw (length-set s.transactors t) (inside s.opened k)) p.value _ _
              (record { status = refl; stable = refl; checkpoints = refl; incarnation = refl; value = refl; saved = refl });
        }

    letter-plays : Plays (with_waiting_message b t []) (apply_letter y s p) (record { reply = answer done t T.next 0; tables = with_slot T true t p.value })
    unfolding apply_letter
    letter-plays = record { reply = λ i. answer done t (same_next i) 0; tells = with-slot true t p.value [] (λ e. refl) _ }

    send-plays : (X : Incarnations) → Plays (with_waiting_message b p.other X) (apply_send y s p) (record { reply = answer done t T.next 0; tables = with_slot T false p.other p.value })
    unfolding apply_send
    send-plays X = record { reply = λ i. answer done t (same_next i) 0; tells = with-slot false p.other p.value X (λ e. never (sym e)) _ }

    lose-plays : (T.messages n).missing ≡ false → Plays (without_waiting_message b n) (apply_lose s p) (record { reply = answer done 0 n 0; tables = without_slot T n })
    unfolding apply_lose
    lose-plays e = record { reply = refl; tells = without-slot n e }

    local-plays : t < y.transactors → Plays (with_holder b t (acted p.kind t (b.holders t))) (apply_local y s p) (play_local T p)
    unfolding apply_local play_local
    local-plays h =
        let e = local-rel well rel t (T.rows t) (tells.rows t) p.kind p.value in
        record { reply = λ i. answer (e.outcome i) t 0 (e.value i); tells = with-row t _ _ _ h e.row }

    abbrev q : WaitingMessage
    q = find n b.messages

    abbrev m : Message
    m = message_at s (place_of s n)

    abbrev to : ℕ
    to = q.addressee

    drops-here : message_superseded y (transactor_at s to) m ≡ is_dropped (b.holders to) q
    unfolding dropped_at
    drops-here = ap (λ k. message_superseded y (transactor_at s k) m) (sym (replied.to_same well rel n)) ∙ replied.dropped-is well rel n

    rolls-here : receiver_superseded y (transactor_at s to) m ≡ is_rolled_back (b.holders to) q
    unfolding rolled_back_at
    rolls-here = ap (λ k. receiver_superseded y (transactor_at s k) m) (sym (replied.to_same well rel n)) ∙ replied.rolled_back-is well rel n

    receive-effect : EffectRel (received to (b.holders to) q) (receive_by y to (transactor_at s to) m) (receive_row d f (T.messages n).content (T.rows to))
    receive-effect = receive-rel well rel to (T.rows to) (tells.rows to) m q d f (T.messages n).content drops-here drops rolls-here rolls ((tells.messages n).content ∙ sym (content-is s n))

    receive-plays : place_of s n < length s.messages → (T.messages n).missing ≡ false → Plays (receives b n) (apply_receive y s p) (play_receive T p d f)
    unfolding receives apply_receive play_receive
    receive-plays h e = go (T.messages n).addressee m.addressee (tells.messages n).addressee (replied.to_same well rel n)
      where
        below : to < y.transactors
        below = omega (arith, replied.to_same well rel n, well.addressees (place_of s n) h, well.opened)

        go : (u v : ℕ) → u ≡ to → v ≡ to
            → Plays (with_holder (without_waiting_message b n) to (received to (b.holders to) q))
            (record { reply = answer (receive_by y v (transactor_at s v) m).outcome v n (receive_by y v (transactor_at s v) m).value; state = without_message (with_transactor s v (receive_by y v (transactor_at s v) m).transactor) (place_of s n) })
            (record { reply = answer (receive_row d f (T.messages n).content (T.rows u)).outcome u n (receive_row d f (T.messages n).content (T.rows u)).value; tables = without_slot (with_row T u (receive_row d f (T.messages n).content (T.rows u)).row) n })
        go u v i j = rw (i, j) (record {
          reply = λ k. answer (receive-effect.outcome k) to n (receive-effect.value k);
          tells = receive-tells n to _ _ _ below e receive-effect.row;
        })

    pub applied-plays : (p.kind ≡ sign → ⊥) → Plays (applied b p) (apply y s p) (play_applied T p d f g)
    unfolding applied apply play_applied
    applied-plays other =
        let k : ℕ = p.kind in
        let acting : new ≤ k → k ≤ fail → t < y.transactors = λ h l. a.acting (and-of (leb new k) (leb k fail) (le-leb new k h) (le-leb k fail l)) in
        pick-each Plays (eqb k root) (eqb k root) (eqb k root) refl refl _ _ _ _ _ _ (λ e. root-plays (a.opens (rw e))) λ e0.
        pick-each Plays (eqb k letter) (eqb k letter) (eqb k letter) refl refl _ _ _ _ _ _ (λ e. letter-plays) λ e1.
        pick-each Plays (eqb k receive) (eqb k receive) (eqb k receive) refl refl _ _ _ _ _ _ (λ e. receive-plays (a.waits e) (known (rw e))) λ e2.
        pick-each Plays (eqb k new) (eqb k new) (eqb k new) refl refl _ _ _ _ _ _
        (λ e. let i : k ≡ new = eqb-true k new e in new-plays (acting (omega arith) (omega arith)) (a.opens (or-of (eqb k root) (eqb k new) (inr e)))) λ e3.
        pick-each Plays (eqb k send) (eqb k send) (eqb k send) refl refl _ _ _ _ _ _ (λ e. send-plays _) λ e4.
        pick-each Plays (eqb k lose) (eqb k lose) (eqb k lose) refl refl _ _ _ _ _ _ (λ e. lose-plays (known (or-of (eqb k receive) (eqb k lose) (inr e)))) λ e5.
        pick-both (Plays (with_holder b t (acted k t (b.holders t)))) (eqb k sign) (eqb k sign) refl _ _ _ _ (λ e. absurd (other (eqb-true k sign e))) λ e6.
        let n0 = eqb-false k root e0 in let n1 = eqb-false k letter e1 in let n2 = eqb-false k receive e2 in let n5 = eqb-false k lose e5 in let n6 = eqb-false k sign e6 in
        let high = a.kind in
        local-plays (acting (omega arith) (omega arith))

-- ---- refusals

-- what the table looks at, with other answers to its two tests at receipts
abbrev retold : Seen → (ℕ → Bool) → (ℕ → Bool) → Seen
retold v F U = record {
  limits = v.limits;
  opened = v.opened;
  next = v.next;
  waiting = v.waiting;
  status = v.status;
  stable = v.stable;
  checkpoints = v.checkpoints;
  incarnation = v.incarnation;
  missing = v.missing;
  addressee = v.addressee;
  rolls = F;
  unrelated = U;
}

-- the table asks them of the step's parcel alone
refusal-asks : (y : Layout) (v : Seen) (p : Step) (F U : ℕ → Bool) → v.rolls p.message ≡ F p.message → v.unrelated p.message ≡ U p.message
    → refusal_of y (retold v F U) p ≡ refusal_of y v p
unfolding refusal_of not_waiting unopened is_gone wrong_status unrelated_receipt all_opened all_waiting all_numbered all_checkpointed at_last last_rolls_back any_named
refusal-asks y v p F U e f = rw (e, f)

module _ {s : State} {b : Provenance} (rel : Rel (view s) b) {T : Tables} (tells : Tells b s T) (y : Layout) (p : Step) (d f : Bool)
    (drops : d ≡ is_dropped (b.holders (find p.message b.messages).addressee) (find p.message b.messages))
    (rolls : f ≡ is_rolled_back (b.holders (find p.message b.messages).addressee) (find p.message b.messages)) where
  seen-in : seen_in T (not d and f) ≡ retold (provenance_seen b) (λ n. not d and f) (λ n. false)
  unfolding seen_in provenance_seen
  seen-in = same_seen (record {
    limits = tells.limits;
    opened = tells.opened;
    next = tells.next;
    waiting = tells.waiting;
    status = λ t. (tells.rows t).status;
    stable = λ t. (tells.rows t).stable;
    checkpoints = λ t. (tells.rows t).checkpoints;
    incarnation = λ t. (tells.rows t).incarnation;
    missing = λ n. (tells.messages n).missing;
    addressee = λ n. (tells.messages n).addressee;
    rolls = λ n. refl;
    unrelated = λ n. refl;
  })

  asked : (provenance_seen b).rolls p.message ≡ not d and f
  unfolding provenance_seen
  asked = rw (drops, rolls)

  never-related : (provenance_seen b).unrelated p.message ≡ false
  unfolding provenance_seen
  never-related = receipt-related (view s) b rel p.message

  pub refusal_is : play_refusal y T p d f ≡ provenance_refusal y b p
  unfolding play_refusal provenance_refusal
  refusal_is = ap (λ v. refusal_of y v p) seen-in ∙ refusal-asks y (provenance_seen b) p (λ n. not d and f) (λ n. false) asked never-related

-- ---- every step

not-ready-off : (g : Bool) → (g ≡ true → ⊥) → g ≡ false
not-ready-off true n = absurd (n refl)
not-ready-off false n = refl

module _ {y : Layout} {s : State} {b : Provenance} {T : Tables} (p : Step) (well : WellFormed y s) (rel : Rel (view s) b) (numbered : NumberedBook b) (tells : Tells b s T)
    (bits : p.message < bound 2) (d f g : Bool)
    (drops : d ≡ is_dropped (b.holders (find p.message b.messages).addressee) (find p.message b.messages))
    (rolls : f ≡ is_rolled_back (b.holders (find p.message b.messages).addressee) (find p.message b.messages))
    (ready-if : provenance_refusal y b p ≡ 0 → p.kind ≡ sign → (g ≡ true) ↔ Equal b p.message) where
  not-refused : provenance_refusal y b p ≡ 0 → refusal y s p ≡ 0
  not-refused z = same-refusal well rel p ∙ z

  is-applicable : provenance_refusal y b p ≡ 0 → Applicable y s p
  unfolding refusal
  is-applicable z = applicable well bits (accepted y (seen y s) p (not-refused z))

  is-there : provenance_refusal y b p ≡ 0 → eqb p.kind receive or eqb p.kind lose ≡ true → (T.messages p.message).missing ≡ false
  unfolding provenance_seen provenance_refusal
  is-there z e = (tells.messages p.message).missing ∙ message-waits (accepted y (provenance_seen b) p z) e

  play-applied : provenance_refusal y b p ≡ 0 → play y T p d f g ≡ play_applied T p d f g
  unfolding play
  play-applied z = rw (eq-eqb (play_refusal y T p d f) 0 (refusal_is rel tells y p d f drops rolls ∙ z))

  play-refused : (provenance_refusal y b p ≡ 0 → ⊥) → play y T p d f g ≡ record { reply = answer (provenance_refusal y b p) 0 0 0; tables = T }
  unfolding play
  play-refused n = rw (refusal_is rel tells y p d f drops rolls, ne_eqb (provenance_refusal y b p) 0 n)

  play-sign : p.kind ≡ sign → play_applied T p d f g ≡ pick g (record { reply = answer done 0 0 0; tables = checkpoint_rows T p.message }) (record { reply = answer not_ready 0 0 0; tables = T })
  unfolding play_applied
  play-sign k = rw k

  pub step-plays : {c : Provenance} (k : ProvenanceStep y b p c) → StepRight y s b p c → Plays c (step_of y s p) (play y T p d f g)
  step-plays (refuses z) q = rw (play-refused z) (record { reply = sym (q.refused z).0; tells = rw (q.refused z).1 tells })
  step-plays (applies z k) q = rw (play-applied z, applied-same y s p (not-refused z)) (applied-plays well rel numbered tells (is-applicable z) (is-there z) d f g drops rolls k)
  step-plays (signing z k e) q = go (q.signing z k)
    where
      go : SigningRight y s b p → Plays (signs b p.message) (step_of y s p) (play y T p d f g)
      go (checkpointed i o n) = rw (play-applied z, play-sign k, (ready-if z k).1 e)
          (record { reply = sym o; tells = rw n (with-checkpoint well rel numbered tells p.message ((is-applicable z).among (eq-eqb p.kind sign k))) })
      go (uncheckpointed i o n) = absurd (i e)
  step-plays (not-ready z k e) q = go (q.signing z k)
    where
      off : g ≡ false
      off = not-ready-off g (λ i. e ((ready-if z k).0 i))

      go : SigningRight y s b p → Plays b (step_of y s p) (play y T p d f g)
      go (checkpointed i o n) = absurd (e i)
      go (uncheckpointed i o n) = rw (play-applied z, play-sign k, off) (record { reply = sym o; tells = rw n tells })
