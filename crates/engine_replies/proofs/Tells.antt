-- The engine's tables beside the ledger's state and the book: what they say of each, kept by every step.
use Prim.Native.Nat.{ℕ, suc, ◌+◌, ◌≤◌, ◌<◌}
use mathlib.Core.Bool.{Bool, true, false}
use mathlib.Core.Path.{◌≡◌, refl, ap, sym, ◌∙◌, subst}
use mathlib.Core.List.{List, [], ◌∷◌, ◌++◌}
use mathlib.Core.Logic.{◌≢◌, ⊎_elim}
use native.Mathlib.Omega.{arith}
use lib.Dec.{eqb}
use lib.ListN.{length, get_or, take, drop, length-append, get_or-eq_default}
use borrow.Author.Tests.{eqb-true, eqb-false}
use Rattle.octets.specs.Bytes.{pick, tabulate}
use Rattle.octets.proofs.Chunks.{sides, length-tabulate, get_d_tabulate}
use Rattle.marks.specs.History.{checkpointed_view}
use Rattle.octets.specs.Table.{updated}
use Rattle.octets.proofs.Tables.{set-updated}
use Rattle.rules.specs.Layout.{Layout}
use Rattle.rules.specs.State.{Transactor, Message, State, no_transactor, no_message, transactor_at, message_at, own_history, with_transactor, with_opened, with_message, without_message, place_of}
use Rattle.rules.specs.Status as number
use Rattle.rules.specs.Step.{read, write, freeze, finish, fall}
use Rattle.rules.specs.Refusals.{named}
use Rattle.rules.specs.Rules.{Effect, rollback, read_by, write_by, freeze_by, finish_by, fall_by, fail_by, local_by, message_superseded, receiver_superseded, receive_by, checkpoint_by, checkpoint_at, checkpoint_group, opened}
use Rattle.rules.specs.Internal.Well.{WellFormed}
use Rattle.session.specs.Provenance.{status_number, Holder, WaitingMessage, Provenance, find, is_missing}
use Rattle.session.specs.Steps.{anew, is_nil, rolled_back_holder, reads, writes, freezes, finishes, rolls_back_or_finishes, rolls_back_or_stays, acted, is_dropped, is_rolled_back, received}
use Rattle.session.proofs.Model.{view}
use Rattle.session.proofs.Relation.{Rel}
use Rattle.session.proofs.ViewState.{place_in, place-in}
use Rattle.engine_tables.specs.declared.table.Row.{Row}
use Rattle.engine_tables.specs.declared.table.RowEffect.{RowEffect}
use Rattle.engine_tables.specs.declared.table.Slot.{Slot}
use Rattle.engine_tables.specs.Internal.Tables.{Tables, rollback_row, write_row, freeze_row, local_row, receive_row, checkpoint_row}
use Rattle.engine_chains.proofs.Seek.{Rising, no_more, one_more, without, seek}
use Rattle.engine_chains.proofs.Replied.{nil-length, own-stable, own_first}

-- ---- three choices, three tables

pub pick-each {ℓ} : {A : Type ℓ} {B C : Type 0} (P : A → B → C → Type 0) (a b c : Bool) → b ≡ a → c ≡ a → (x y : A) (z w : B) (u v : C)
    → (a ≡ true → P x z u) → (a ≡ false → P y w v) → P (pick a x y) (pick b z w) (pick c u v)
pick-each P true b c e f x y z w u v p q = rw (e, f) (p refl)
pick-each P false b c e f x y z w u v p q = rw (e, f) (q refl)

pub updated-each : {A B C : Type 0} (P : ℕ → A → B → C → Type 0) (f : ℕ → A) (g : ℕ → B) (h : ℕ → C) (t : ℕ) (x : A) (y : B) (z : C)
    → P t x y z → ((u : ℕ) → t ≢ u → P u (f u) (g u) (h u)) → (u : ℕ) → P u (updated f t x u) (updated g t y u) (updated h t z u)
unfolding updated
updated-each P f g h t x y z p q u = pick-each (P u) (eqb t u) (eqb t u) (eqb t u) refl refl x (f u) y (g u) z (h u)
    (λ e. subst (λ v. P v x y z) (eqb-true t u e) p) (λ e. q u (eqb-false t u e))

-- ---- one take

pub record RowRel (h : Holder) (x : Transactor) (r : Row) : Type 0 where
  pub status : r.status ≡ status_number h.status
  pub stable : r.stable ≡ h.history.stable
  pub checkpoints : r.checkpoints ≡ length h.history.incarnation.checkpoints
  pub incarnation : r.incarnation ≡ h.history.incarnation.number
  pub value : r.value ≡ x.value
  pub saved : r.saved ≡ x.saved

pub record EffectRel (h : Holder) (e : Effect) (f : RowEffect) : Type 0 where
  pub outcome : f.outcome ≡ e.outcome
  pub value : f.value ≡ e.value
  pub row : RowRel h e.transactor f.row

module _ {y : Layout} {s : State} (well : WellFormed y s) {b : Provenance} (rel : Rel (view s) b) (t : ℕ) (r : Row) where
  abbrev x : Transactor
  x = transactor_at s t

  abbrev h : Holder
  h = b.holders t

  module _ (same : RowRel h x r) where
    first-row : eqb r.checkpoints 0 ≡ is_nil h.history.incarnation.checkpoints
    first-row = ap (λ n. eqb n 0) same.checkpoints ∙ nil-length h.history.incarnation.checkpoints

    rollback-rel : EffectRel (rolled_back_holder t h) (rollback y t x) (rollback_row r)
    unfolding rolled_back_holder rollback rollback_row
    rollback-rel = pick-each EffectRel (is_nil h.history.incarnation.checkpoints) (eqb (own_history t x).count 0) (eqb r.checkpoints 0) (own_first well rel t) first-row _ _ _ _ _ _
        (λ e. record { outcome = refl; value = refl; row = record { status = refl; stable = refl; checkpoints = refl; incarnation = refl; value = refl; saved = refl } })
        (λ e. record {
          outcome = refl;
          value = refl;
          row = record { status = refl; stable = refl; checkpoints = same.checkpoints; incarnation = ap (λ n. n + 1) same.incarnation; value = same.saved; saved = same.saved };
        })

    held-rel : {A B C : Type 0} (P : A → B → C → Type 0) (p q : A) (u v : B) (i j : C) → P p u i → P q v j → P (pick h.history.stable p q) (pick (own_history t x).stable u v) (pick r.stable i j)
    held-rel P p q u v i j f g = pick-each P h.history.stable (own_history t x).stable r.stable (own-stable well rel t) same.stable p q u v i j (λ e. f) (λ e. g)

    finish-rel : (o : ℕ) → EffectRel (finishes h) (record { outcome = o; value = 0; transactor = (finish_by y x).transactor })
        (record { outcome = o; value = 0; row = record { status = number.idle; stable = r.stable; checkpoints = r.checkpoints; incarnation = r.incarnation; value = r.value; saved = r.saved } })
    unfolding finishes finish_by
    finish-rel o = record {
      outcome = refl;
      value = refl;
      row = record { status = refl; stable = same.stable; checkpoints = same.checkpoints; incarnation = same.incarnation; value = same.value; saved = same.saved };
    }

    stays-rel : (o : ℕ) → EffectRel h (record { outcome = o; value = 0; transactor = x }) (record { outcome = o; value = 0; row = r })
    stays-rel o = record { outcome = refl; value = refl; row = same }

    pub local-rel : (k v : ℕ) → EffectRel (acted k t h) (local_by y k t v x) (local_row k v r)
    unfolding acted local_by local_row reads writes freezes finishes rolls_back_or_finishes rolls_back_or_stays read_by write_by freeze_by finish_by fall_by fail_by write_row freeze_row
    local-rel k v =
        pick-each EffectRel (eqb k read) (eqb k read) (eqb k read) refl refl _ _ _ _ _ _
        (λ e. record { outcome = refl; value = same.value; row = record { status = same.status; stable = same.stable; checkpoints = same.checkpoints; incarnation = same.incarnation; value = same.value; saved = same.saved } }) λ e.
        pick-each EffectRel (eqb k write) (eqb k write) (eqb k write) refl refl _ _ _ _ _ _
        (λ e. held-rel EffectRel _ _ _ _ _ _ (stays-rel _)
        (record { outcome = refl; value = refl; row = record { status = same.status; stable = same.stable; checkpoints = same.checkpoints; incarnation = same.incarnation; value = refl; saved = same.saved } })) λ e.
        pick-each EffectRel (eqb k freeze) (eqb k freeze) (eqb k freeze) refl refl _ _ _ _ _ _
        (λ e. record { outcome = refl; value = refl; row = record { status = same.status; stable = refl; checkpoints = same.checkpoints; incarnation = same.incarnation; value = same.value; saved = same.saved } }) λ e.
        pick-each EffectRel (eqb k finish) (eqb k finish) (eqb k finish) refl refl _ _ _ _ _ _ (λ e. finish-rel _) λ e.
        pick-each EffectRel (eqb k fall) (eqb k fall) (eqb k fall) refl refl _ _ _ _ _ _
        (λ e. held-rel EffectRel _ _ _ _ _ _ (finish-rel _) rollback-rel)
        (λ e. held-rel EffectRel _ _ _ _ _ _ (stays-rel _) rollback-rel)

    pub receive-rel : (m : Message) (q : WaitingMessage) (d f : Bool) (v : ℕ)
        → message_superseded y x m ≡ is_dropped h q → d ≡ is_dropped h q → receiver_superseded y x m ≡ is_rolled_back h q → f ≡ is_rolled_back h q → v ≡ m.value
        → EffectRel (received t h q) (receive_by y t x m) (receive_row d f v r)
    unfolding received receive_by receive_row
    receive-rel m q d f v a i c j z =
        pick-each EffectRel (is_dropped h q) (message_superseded y x m) d a i _ _ _ _ _ _ (λ e. stays-rel _) λ e.
        pick-each EffectRel (is_rolled_back h q) (receiver_superseded y x m) f c j _ _ _ _ _ _ (λ e. rollback-rel)
        (λ e. record { outcome = refl; value = z; row = record { status = refl; stable = same.stable; checkpoints = same.checkpoints; incarnation = same.incarnation; value = same.value; saved = same.saved } })

    pub checkpoint-rel : RowRel (anew t (checkpointed_view h.history)) (checkpoint_by y t x) (checkpoint_row r)
    unfolding checkpoint_by
    checkpoint-rel = record {
      status = refl;
      stable = refl;
      checkpoints = ap (λ n. n + 1) same.checkpoints ∙ sym (length-append h.history.incarnation.checkpoints (h.history.incarnation.number ∷ []));
      incarnation = refl;
      value = same.value;
      saved = same.value;
    }

-- ---- all takes of a state

module _ (s : State) (t : ℕ) (x : Transactor) (below : t < length s.transactors) where
  pub transactor-with : transactor_at (with_transactor s t x) ≡ updated (transactor_at s) t x
  unfolding transactor_at with_transactor
  transactor-with = set-updated s.transactors t x no_transactor below

pub transactor-opened : (s : State) (x : Transactor) → s.opened < length s.transactors → transactor_at (opened s x) ≡ updated (transactor_at s) s.opened x
unfolding opened with_opened transactor_at with_transactor
transactor-opened s x below = transactor-with s s.opened x below

pub transactor-message : (s : State) (to v : ℕ) (m : _) → transactor_at (with_message s to v m) ≡ transactor_at s
unfolding with_message transactor_at
transactor-message s to v m = refl

pub transactor-without : (s : State) (k : ℕ) → transactor_at (without_message s k) ≡ transactor_at s
unfolding without_message transactor_at
transactor-without s k = refl

pub transactor-checkpoint : {y : Layout} {s : State} → WellFormed y s → (g : ℕ) → ((t : ℕ) → named g t ≡ true → t < y.transactors)
    → (t : ℕ) → transactor_at (checkpoint_group y s g) t ≡ pick (named g t) (checkpoint_by y t (transactor_at s t)) (transactor_at s t)
unfolding checkpoint_group transactor_at checkpoint_at
transactor-checkpoint {y} {s} well g bounded t = ⊎_elim
    (λ (h : t < y.transactors). get_d_tabulate (checkpoint_at y s g) y.transactors t no_transactor h)
    (λ (h : y.transactors ≤ t).
    get_or-eq_default (tabulate y.transactors (checkpoint_at y s g)) no_transactor {n = t} (rw length-tabulate h)
    ∙ past h (named g t) refl)
    (sides t y.transactors)
  where
    past : y.transactors ≤ t → (c : Bool) → named g t ≡ c → no_transactor ≡ pick c (checkpoint_by y t (get_or s.transactors t no_transactor)) (get_or s.transactors t no_transactor)
    past h true e = absurd (omega (arith, bounded t e))
    past h false e = sym (get_or-eq_default s.transactors no_transactor {n = t} (omega (arith, well.packable.many)))

-- ---- parcels of a state

-- the text of parcel n
unfoldable pub content_in : ℕ → List Message → ℕ
content_in n ms = seek (λ m. m.number) (λ m. m.value) 0 n ms

content-place : (n : ℕ) (ms : List Message) → (get_or ms (place_in n ms) no_message).value ≡ content_in n ms
unfolding content_in seek place_in
content-place n [] = refl
content-place n (m ∷ ms) = go (eqb m.number n) (content-place n ms)
  where
    go : (c : Bool) → (get_or ms (place_in n ms) no_message).value ≡ seek (λ m. m.number) (λ m. m.value) 0 n ms
        → (get_or (m ∷ ms) (pick c 0 (suc (place_in n ms))) no_message).value ≡ pick c m.value (seek (λ m. m.number) (λ m. m.value) 0 n ms)
    go true e = refl
    go false e = e

pub content-is : (s : State) (n : ℕ) → (message_at s (place_of s n)).value ≡ content_in n s.messages
unfolding message_at
content-is s n = rw (place-in s n) (content-place n s.messages)

pub messages-without : (s : State) (n : ℕ) → (without_message s (place_of s n)).messages ≡ without (λ m. m.number) n s.messages
unfolding without_message place_in without
messages-without s n = rw (place-in s n) (gone s.messages)
  where
    gone : (ms : List Message) → take (place_in n ms) ms ++ drop (place_in n ms + 1) ms ≡ without (λ m. m.number) n ms
    gone [] = refl
    gone (m ∷ ms) = go (eqb m.number n) (gone ms)
      where
        go : (c : Bool) → take (place_in n ms) ms ++ drop (place_in n ms + 1) ms ≡ without (λ m. m.number) n ms
            → take (pick c 0 (suc (place_in n ms))) (m ∷ ms) ++ drop (pick c 0 (suc (place_in n ms)) + 1) (m ∷ ms) ≡ pick c ms (m ∷ without (λ m. m.number) n ms)
        go true e = refl
        go false e =
            let i : suc (place_in n ms) + 1 ≡ suc (place_in n ms + 1) = omega arith in
            ap (λ (k : ℕ). m ∷ (take (place_in n ms) ms ++ drop k (m ∷ ms))) i ∙ ap (λ (l : List Message). m ∷ l) e

-- their numbers rise
pub state-rising : {y : Layout} {s : State} → WellFormed y s → Rising (λ m. m.number) s.next 0 s.messages
unfolding message_at
state-rising {y} {s} well = go s.messages 0 (omega arith) (λ k h. well.numbers k h) (λ k h. well.order k h) (λ h. omega arith)
  where
    go : (ms : List Message) (k : ℕ) → k ≤ s.next → ((i : ℕ) → i < length ms → (get_or ms i no_message).number < s.next)
        → ((i : ℕ) → i + 1 < length ms → (get_or ms i no_message).number < (get_or ms (i + 1) no_message).number)
        → (0 < length ms → k ≤ (get_or ms 0 no_message).number) → Rising (λ m. m.number) s.next k ms
    go [] k h below up low = no_more {k = k} h
    go (m ∷ ms) k h below up low =
        one_more (low (omega arith)) (go ms (suc m.number) (below 0 (omega arith)) (λ i j. below (suc i) (omega arith)) (λ i j. subst (λ (n : ℕ). (get_or ms i no_message).number < (get_or (m ∷ ms) n no_message).number) {x = suc i + 1} {y = suc (i + 1)} (omega arith) (up (suc i) (omega arith))) (λ j. up 0 (omega arith)))

-- ---- the whole

-- parcel number n, where qs wait in the book and ms in the ledger
pub record SlotRel (qs : List WaitingMessage) (ms : List Message) (n : ℕ) (slot : Slot) : Type 0 where
  pub missing : slot.missing ≡ is_missing n qs
  pub addressee : slot.addressee ≡ (find n qs).addressee
  pub content : slot.content ≡ content_in n ms
  pub letter : slot.letter ≡ true → (find n qs).incarnations ≡ []

pub record Tells (b : Provenance) (s : State) (T : Tables) : Type 0 where
  pub limits : T.limits ≡ b.limits
  pub opened : T.opened ≡ b.opened
  pub next : T.next ≡ b.next
  pub waiting : T.waiting ≡ length b.messages
  pub rows : (t : ℕ) → RowRel (b.holders t) (transactor_at s t) (T.rows t)
  pub messages : (n : ℕ) → SlotRel b.messages s.messages n (T.messages n)
