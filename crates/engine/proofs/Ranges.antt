-- What every step on the tables keeps: takes among the sixteen, parcel numbers below the next one, life numbers at most the steps.
use Prim.Native.Nat.{ℕ, suc, ◌+◌, ◌≤◌, ◌<◌}
use mathlib.Core.Bool.{Bool, true, false, not}
use mathlib.Core.Path.{◌≡◌, refl, ap, sym, ◌∙◌}
use mathlib.Core.Logic.{⊎_elim}
use native.Mathlib.Omega.{arith}
use lib.Dec.{eqb}
use borrow.Author.Tests.{eqb-true}
use Rattle.octets.specs.Bytes.{pick, ◌and◌, ◌or◌}
use Rattle.octets.proofs.Chunks.{sides}
use Rattle.octets.proofs.Tests.{never, pick-view}
use Rattle.octets.proofs.Tables.{updated-view}
use Rattle.rules.specs.Layout.{Layout, Limits}
use Rattle.rules.specs.declared.Step.{Step}
use Rattle.rules.specs.Step.{done, held, not_ready, root, letter, receive, new, send, read, write, freeze, finish, fall, lose, sign}
use Rattle.rules.specs.Status.{idle}
use Rattle.rules.specs.Refusals.{group_bits, named}
use Rattle.rules.specs.Internal.Well.{StepOk}
use Rattle.rules.proofs.Keep.Accepted.{Accepted, accepted, message-waits, one-unopened}
use Rattle.engine_tables.specs.declared.table.Row.{Row}
use Rattle.engine_tables.specs.declared.table.RowEffect.{RowEffect}
use Rattle.engine_tables.specs.declared.table.Slot.{Slot}
use Rattle.engine_tables.specs.Internal.Tables.{Tables, row_stays, row_status, rollback_row, write_row, freeze_row, local_row, receive_row, filled_slot, empty_slot, fresh_tables, with_row, open_row, with_slot, without_slot, checkpoint_rows, seen_in, Played, play_receive, play_local, play_applied, play_refusal, play}

-- after n steps from a fresh session with the limits m
pub record Ranged (m : Limits) (n : ℕ) (T : Tables) : Type 0 where
  pub limits : T.limits ≡ m
  pub opened : T.opened ≤ group_bits
  pub next : T.next ≤ n
  pub addressees : (k : ℕ) → (T.messages k).addressee < group_bits
  pub beyond : (k : ℕ) → T.next ≤ k → T.messages k ≡ empty_slot
  pub lives : (t : ℕ) → (T.rows t).incarnation ≤ n

-- and a reply to the step after them
pub record Fine (m : Limits) (n : ℕ) (r : Played) : Type 0 where
  pub tables : Ranged m (suc n) r.tables
  pub transactor : r.reply.transactor < group_bits
  pub message : r.reply.message ≤ n

pub ranged-fresh : (m : Limits) → Ranged m 0 (fresh_tables m)
ranged-fresh m = record { limits = refl; opened = omega arith; next = omega arith; addressees = λ k. omega arith; beyond = λ k h. refl; lives = λ t. omega arith }

-- ---- one take

-- after at most n falls one more at most; and an outcome, no refusal
pub record Small (n : ℕ) (e : RowEffect) : Type 0 where
  pub outcome : e.outcome ≤ not_ready
  pub life : e.row.incarnation ≤ suc n

module _ {n : ℕ} (x : Row) (few : x.incarnation ≤ n) where
  rollback-small : Small n (rollback_row x)
  unfolding rollback_row
  rollback-small = pick-view (Small n) (eqb x.checkpoints 0) _ _ (λ e. record { outcome = omega arith; life = omega arith }) (λ e. record { outcome = omega arith; life = omega arith })

  stays-small : (o : ℕ) → o ≤ not_ready → (status : ℕ) → Small n (row_stays o (row_status x status))
  stays-small o h status = record { outcome = h; life = omega arith }

  held_small : (e f : RowEffect) → Small n e → Small n f → Small n (pick x.stable e f)
  held_small e f a b = pick-view (Small n) x.stable e f (λ z. a) (λ z. b)

  pub local-small : (k v : ℕ) → Small n (local_row k v x)
  unfolding local_row write_row freeze_row
  local-small k v =
      pick-view (Small n) (eqb k read) _ _ (λ e. record { outcome = omega arith; life = omega arith }) λ _.
      pick-view (Small n) (eqb k write) _ _ (λ e. held_small _ _ (record { outcome = omega arith; life = omega arith }) (record { outcome = omega arith; life = omega arith })) λ _.
      pick-view (Small n) (eqb k freeze) _ _ (λ e. record { outcome = omega arith; life = omega arith }) λ _.
      pick-view (Small n) (eqb k finish) _ _ (λ e. stays-small done (omega arith) idle) λ _.
      pick-view (Small n) (eqb k fall) _ _ (λ e. held_small _ _ (stays-small held (omega arith) idle) rollback-small)
      (λ e. held_small _ _ (record { outcome = omega arith; life = omega arith }) rollback-small)

  pub receive-small : (d f : Bool) (v : ℕ) → Small n (receive_row d f v x)
  unfolding receive_row
  receive-small d f v =
      pick-view (Small n) d _ _ (λ e. record { outcome = omega arith; life = omega arith }) λ _.
      pick-view (Small n) f _ _ (λ e. rollback-small) (λ e. record { outcome = omega arith; life = omega arith })

-- ---- all

module _ {m : Limits} {n : ℕ} {T : Tables} (r : Ranged m n T) where
  later : Ranged m (suc n) T
  later = record { limits = r.limits; opened = r.opened; next = omega (arith, r.next); addressees = r.addressees; beyond = r.beyond; lives = λ t. omega (arith, r.lives t) }

  with-row : (t : ℕ) (x : Row) → x.incarnation ≤ suc n → Ranged m (suc n) (with_row T t x)
  with-row t x h = record {
    limits = r.limits;
    opened = r.opened;
    next = omega (arith, r.next);
    addressees = r.addressees;
    beyond = r.beyond;
    lives = updated-view (λ u (z : Row). z.incarnation ≤ suc n) T.rows t x h (λ u d. omega (arith, r.lives u));
  }

  open-row : (v : ℕ) → T.opened < group_bits → Ranged m (suc n) (open_row T v)
  unfolding open_row
  open-row v h = record {
    limits = r.limits;
    opened = omega arith;
    next = omega (arith, r.next);
    addressees = r.addressees;
    beyond = r.beyond;
    lives = updated-view (λ u (z : Row). z.incarnation ≤ suc n) T.rows T.opened _ (omega arith) (λ u d. omega (arith, r.lives u));
  }

  with-slot : (c : Bool) (to v : ℕ) → to < group_bits → Ranged m (suc n) (with_slot T c to v)
  unfolding with_slot
  with-slot c to v h = record {
    limits = r.limits;
    opened = r.opened;
    next = omega (arith, r.next);
    addressees = updated-view (λ k (z : Slot). z.addressee < group_bits) T.messages T.next (filled_slot c to v) h (λ k d. r.addressees k);
    beyond = updated-view (λ k (z : Slot). T.next + 1 ≤ k → z ≡ empty_slot) T.messages T.next (filled_slot c to v)
        (λ (q : T.next + 1 ≤ T.next). absurd (omega arith)) (λ k d (q : T.next + 1 ≤ k). r.beyond k (omega arith));
    lives = λ t. omega (arith, r.lives t);
  }

  without-slot : (k : ℕ) → Ranged m n (without_slot T k)
  unfolding without_slot
  without-slot k = record {
    limits = r.limits;
    opened = r.opened;
    next = r.next;
    lives = r.lives;
    addressees = updated-view (λ j (z : Slot). z.addressee < group_bits) T.messages k empty_slot (omega arith) (λ j d. r.addressees j);
    beyond = updated-view (λ j (z : Slot). T.next ≤ j → z ≡ empty_slot) T.messages k empty_slot (λ q. refl) (λ j d q. r.beyond j q);
  }

  checkpoint-rows : (g : ℕ) → Ranged m (suc n) (checkpoint_rows T g)
  unfolding checkpoint_rows
  checkpoint-rows g = record {
    limits = r.limits;
    opened = r.opened;
    next = omega (arith, r.next);
    addressees = r.addressees;
    beyond = r.beyond;
    lives = λ t. pick-view (λ (z : Row). z.incarnation ≤ suc n) (named g t) _ _ (λ e. omega arith) (λ e. omega (arith, r.lives t));
  }

  -- a parcel that waits has a number below the next one
  pub waits-below : (k : ℕ) → (T.messages k).missing ≡ false → k < T.next
  waits-below k e = ⊎_elim (λ (h : k < T.next). h) (λ (h : T.next ≤ k). never (ap (λ (z : Slot). z.missing) (sym (r.beyond k h)) ∙ e)) (sides k T.next)

module _ {m : Limits} {n : ℕ} {T : Tables} (r : Ranged m n T) (y : Layout) (p : Step) (ok : StepOk p) (few : m.transactors ≤ group_bits) (d f g : Bool) where
  module _ (zero-refusal : play_refusal y T p d f ≡ 0) where
    a : Accepted y (seen_in T (not d and f)) p
    unfolding play_refusal
    a = accepted y (seen_in T (not d and f)) p zero-refusal

    one-unused : eqb p.kind root or eqb p.kind new ≡ true → T.opened < group_bits
    unfolding seen_in
    one-unused e = let h = one-unopened a e in let l = ap (λ (m : Limits). m.transactors) r.limits in omega arith

    waits : eqb p.kind receive or eqb p.kind lose ≡ true → p.message ≤ n
    unfolding seen_in
    waits e = let h = waits-below r p.message (message-waits a e) in omega (arith, r.next)

    applied : Fine m n (play_applied T p d f g)
    unfolding play_applied play_receive play_local
    applied =
        pick-view (Fine m n) (eqb p.kind root) _ _ (λ e. record { tables = open-row r p.value (one-unused (rw e)); transactor = one-unused (rw e); message = omega arith }) λ is-root.
        pick-view (Fine m n) (eqb p.kind letter) _ _ (λ e. record { tables = with-slot r true p.transactor p.value ok.transactor; transactor = ok.transactor; message = r.next }) λ _.
        pick-view (Fine m n) (eqb p.kind receive) _ _ (λ e. record { tables = without-slot (with-row r _ _ (receive-small _ (r.lives _) d f _).life) p.message; transactor = r.addressees p.message; message = waits (rw e) }) λ is-receive.
        pick-view (Fine m n) (eqb p.kind new) _ _ (λ e. record { tables = open-row r p.value (one-unused (rw (is-root, e))); transactor = one-unused (rw (is-root, e)); message = omega arith }) λ _.
        pick-view (Fine m n) (eqb p.kind send) _ _ (λ e. record { tables = with-slot r false p.other p.value ok.other; transactor = ok.transactor; message = r.next }) λ _.
        pick-view (Fine m n) (eqb p.kind lose) _ _ (λ e. record { tables = without-slot (later r) p.message; transactor = omega arith; message = waits (rw (is-receive, e)) }) λ _.
        pick-view (Fine m n) (eqb p.kind sign) _ _
        (λ e. pick-view (Fine m n) g _ _ (λ z. record { tables = checkpoint-rows r p.message; transactor = omega arith; message = omega arith }) (λ z. record { tables = later r; transactor = omega arith; message = omega arith }))
        (λ e. record { tables = with-row r p.transactor _ (local-small _ (r.lives p.transactor) p.kind p.value).life; transactor = ok.transactor; message = omega arith })

  pub ranged-step : Fine m n (play y T p d f g)
  unfolding play
  ranged-step = pick-view (Fine m n) (eqb (play_refusal y T p d f) 0) _ _ (λ e. applied (eqb-true (play_refusal y T p d f) 0 e)) (λ e. record { tables = later r; transactor = omega arith; message = omega arith })
