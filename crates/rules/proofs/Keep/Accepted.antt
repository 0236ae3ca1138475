-- What a step that is not refused may rely on.
use Prim.Native.Nat.{ℕ, ◌≤◌, ◌<◌}
use mathlib.Core.Bool.{Bool, true, false, not}
use mathlib.Core.Path.{◌≡◌, refl}
use mathlib.Core.Logic.{◌⊎◌, inl, inr, ⊎_elim}
use native.Mathlib.Omega.{arith}
use lib.Dec.{eqb, ltb, leb}
use borrow.Author.Tests.{leb-false, ltb-false, lt-ltb, eqb-true, eqb-false, not-false}
use Rattle.octets.specs.Bytes.{◌and◌, ◌or◌}
use Rattle.rules.specs.Layout.{Layout, largest, last_number}
use Rattle.rules.specs.Status.{idle, busy, annihilated}
use Rattle.rules.specs.Step.{Step, root, receive, new, send, fall, fail, lose, sign}
use Rattle.rules.specs.Refusals.{Seen, group_bits, named, any_named, acts, uses_transactor, sends, malformed, not_waiting, empty_group, unopened, is_gone, wrong_status, unrelated_receipt, all_opened, all_waiting, all_numbered, all_checkpointed, at_last, last_rolls_back, refusal_of}
use Rattle.octets.proofs.Tests.{pick-view, pick-zero, or_off, and-off}
use Rattle.rules.proofs.Bits.{named-at}

-- ---- none of the conditions holds

pub record Accepted (y : Layout) (v : Seen) (p : Step) : Type 0 where
  pub formed : malformed p ≡ false
  pub waiting : not_waiting v p ≡ false
  pub group : empty_group p ≡ false
  pub opened : unopened v p ≡ false
  pub there : is_gone v p ≡ false
  pub status : wrong_status v p ≡ false
  pub related : unrelated_receipt v p ≡ false
  pub free : all_opened v p ≡ false
  pub room : all_waiting v p ≡ false
  pub numbers : all_numbered v p ≡ false
  pub checkpoints : all_checkpointed v p ≡ false
  pub incarnations : last_rolls_back y v p ≡ false

pub accepted : (y : Layout) (v : Seen) (p : Step) → refusal_of y v p ≡ 0 → Accepted y v p
unfolding refusal_of
accepted y v p e0 =
    let e1 = pick-zero (malformed p) 20 _ (omega arith) e0 in
    let e2 = pick-zero (not_waiting v p) 24 _ (omega arith) e1.1 in
    let e3 = pick-zero (empty_group p) 29 _ (omega arith) e2.1 in
    let e4 = pick-zero (unopened v p) 21 _ (omega arith) e3.1 in
    let e5 = pick-zero (is_gone v p) 22 _ (omega arith) e4.1 in
    let e6 = pick-zero (wrong_status v p) 23 _ (omega arith) e5.1 in
    let e7 = pick-zero (unrelated_receipt v p) 31 _ (omega arith) e6.1 in
    let e8 = pick-zero (all_opened v p) 25 _ (omega arith) e7.1 in
    let e9 = pick-zero (all_waiting v p) 26 _ (omega arith) e8.1 in
    let e10 = pick-zero (all_numbered v p) 27 _ (omega arith) e9.1 in
    let e11 = pick-zero (all_checkpointed v p) 30 _ (omega arith) e10.1 in
    let e12 = pick-zero (last_rolls_back y v p) 28 0 (omega arith) e11.1 in
    record {
      formed = e1.0;
      waiting = e2.0;
      group = e3.0;
      opened = e4.0;
      there = e5.0;
      status = e6.0;
      related = e7.0;
      free = e8.0;
      room = e9.0;
      numbers = e10.0;
      checkpoints = e11.0;
      incarnations = e12.0;
    }

-- ---- what each condition gives, by kind

not_last : (y : Layout) (v : Seen) (t : ℕ) → at_last y v t ≡ false → 0 < v.checkpoints t → v.incarnation t < largest y
unfolding at_last
not_last y v t e h = leb-false (largest y) (v.incarnation t) (and-off (ltb 0 (v.checkpoints t)) (leb (largest y) (v.incarnation t)) e (lt-ltb 0 (v.checkpoints t) h))

module _ {y : Layout} {v : Seen} {p : Step} (a : Accepted y v p) where
  -- 20
  pub kind-known : p.kind ≤ sign
  unfolding malformed
  kind-known = ltb-false sign p.kind (or_off (ltb sign p.kind) _ a.formed).0

  -- 24
  pub message-waits : eqb p.kind receive or eqb p.kind lose ≡ true → v.missing p.message ≡ false
  unfolding not_waiting
  message-waits = and-off (eqb p.kind receive or eqb p.kind lose) (v.missing p.message) a.waiting

  -- 25
  pub one-unopened : eqb p.kind root or eqb p.kind new ≡ true → v.opened < v.limits.transactors
  unfolding all_opened
  one-unopened k = leb-false v.limits.transactors v.opened (and-off (eqb p.kind root or eqb p.kind new) (leb v.limits.transactors v.opened) a.free k)

  -- 26, 27
  module _ (k : sends p.kind ≡ true) where
    pub one_place : v.waiting < v.limits.messages
    unfolding all_waiting
    one_place = leb-false v.limits.messages v.waiting (and-off (sends p.kind) (leb v.limits.messages v.waiting) a.room k)

    pub one_number : v.next ≡ last_number → ⊥
    unfolding all_numbered
    one_number = eqb-false v.next last_number (and-off (sends p.kind) (eqb v.next last_number) a.numbers k)

  -- 21: the acting take or a letter's addressee, and that of a send
  pub transactor-opened : uses_transactor p.kind ≡ true → p.transactor < v.opened
  unfolding unopened
  transactor-opened k =
      let e = or_off (uses_transactor p.kind and leb v.opened p.transactor) _ a.opened in
      leb-false v.opened p.transactor (and-off (uses_transactor p.kind) (leb v.opened p.transactor) e.0 k)

  opened-rest : (eqb p.kind send and leb v.opened p.other ≡ false) × (eqb p.kind sign and any_named p.message (λ t. leb v.opened t) ≡ false)
  unfolding unopened
  opened-rest = or_off (eqb p.kind send and leb v.opened p.other) _ (or_off (uses_transactor p.kind and leb v.opened p.transactor) _ a.opened).1

  pub other-opened : eqb p.kind send ≡ true → p.other < v.opened
  other-opened k = leb-false v.opened p.other (and-off (eqb p.kind send) (leb v.opened p.other) opened-rest.0 k)

  -- 22
  pub transactor-there : acts p.kind ≡ true → eqb (v.status p.transactor) annihilated ≡ false
  unfolding is_gone
  transactor-there k = and-off (acts p.kind) (eqb (v.status p.transactor) annihilated) (or_off (acts p.kind and eqb (v.status p.transactor) annihilated) _ a.there).0 k

  there-rest : (eqb p.kind receive and eqb (v.status (v.addressee p.message)) annihilated ≡ false) × (eqb p.kind sign and any_named p.message (λ t. eqb (v.status t) annihilated) ≡ false)
  unfolding is_gone
  there-rest = or_off (eqb p.kind receive and eqb (v.status (v.addressee p.message)) annihilated) _ (or_off (acts p.kind and eqb (v.status p.transactor) annihilated) _ a.there).1

  -- 23: acting takes but for a fail
  pub transactor-busy : leb new p.kind and leb p.kind fall ≡ true → v.status p.transactor ≡ busy
  unfolding wrong_status
  transactor-busy k =
      let c : Bool = leb new p.kind and leb p.kind fall in
      let e = or_off (eqb p.kind receive and not (eqb (v.status (v.addressee p.message)) idle)) (c and not (eqb (v.status p.transactor) busy)) a.status in
      eqb-true (v.status p.transactor) busy (not-false (eqb (v.status p.transactor) busy) (and-off c (not (eqb (v.status p.transactor) busy)) e.1 k))

  -- 28: a take that falls of itself
  last_rest : (((eqb p.kind fall or eqb p.kind fail) and not (v.stable p.transactor) and at_last y v p.transactor) ≡ false)
      × ((eqb p.kind receive and v.rolls p.message and at_last y v (v.addressee p.message)) ≡ false)
  unfolding last_rolls_back
  last_rest = or_off ((eqb p.kind fall or eqb p.kind fail) and not (v.stable p.transactor) and at_last y v p.transactor) _ a.incarnations

  pub rolls-alone : eqb p.kind fall or eqb p.kind fail ≡ true → v.stable p.transactor ≡ false → 0 < v.checkpoints p.transactor → v.incarnation p.transactor < largest y
  rolls-alone k f =
      let e = and-off (eqb p.kind fall or eqb p.kind fail) (not (v.stable p.transactor) and at_last y v p.transactor) last_rest.0 k in
      not_last y v p.transactor (and-off (not (v.stable p.transactor)) (at_last y v p.transactor) e (rw f))

  -- 22, 23, 28 of a receiving take
  module _ (k : eqb p.kind receive ≡ true) where
    pub receiver-idle : v.status (v.addressee p.message) ≡ idle
    unfolding wrong_status
    receiver-idle =
        let c : Bool = eqb (v.status (v.addressee p.message)) idle in
        let e = or_off (eqb p.kind receive and not c) _ a.status in
        eqb-true (v.status (v.addressee p.message)) idle (not-false c (and-off (eqb p.kind receive) (not c) e.0 k))

    pub rolls-received : v.rolls p.message ≡ true → 0 < v.checkpoints (v.addressee p.message) → v.incarnation (v.addressee p.message) < largest y
    rolls-received f =
        let t : ℕ = v.addressee p.message in
        not_last y v t (and-off (v.rolls p.message) (at_last y v t) (and-off (eqb p.kind receive) (v.rolls p.message and at_last y v t) last_rest.1 k) f)

  -- 21, 22, 30 of a named take
  module _ (k : eqb p.kind sign ≡ true) (t : ℕ) (below : t < group_bits) (n : named p.message t ≡ true) where
    pub named-opened : t < v.opened
    named-opened = leb-false v.opened t (named-at p.message (λ t. leb v.opened t) t (and-off (eqb p.kind sign) _ opened-rest.1 k) below n)

    pub named-there : eqb (v.status t) annihilated ≡ false
    named-there = named-at p.message (λ t. eqb (v.status t) annihilated) t (and-off (eqb p.kind sign) _ there-rest.1 k) below n

    pub named-room : v.checkpoints t < v.limits.checkpoints
    unfolding all_checkpointed
    named-room = leb-false v.limits.checkpoints (v.checkpoints t) (named-at p.message (λ t. leb v.limits.checkpoints (v.checkpoints t)) t (and-off (eqb p.kind sign) _ a.checkpoints k) below n)

-- ---- the table's numbers

pub record InTable (n : ℕ) : Type 0 where
  pub low : 20 ≤ n
  pub high : n ≤ 31

-- What holds of 0, of 28 and 31 on their conditions, and of the table's other numbers, holds of the refusal.
pub refusal-view : (P : ℕ → Type 0) (y : Layout) (v : Seen) (p : Step) → ((n : ℕ) → 20 ≤ n → n ≤ 30 → (n ≡ 28 → ⊥) → P n) → (unrelated_receipt v p ≡ true → P 31) → (last_rolls_back y v p ≡ true → P 28) → P 0
    → P (refusal_of y v p)
unfolding refusal_of
refusal-view P y v p other unrelated last none =
    pick-view P (malformed p) 20 _ (λ e. other 20 (omega arith) (omega arith) (omega arith)) λ e.
    pick-view P (not_waiting v p) 24 _ (λ e. other 24 (omega arith) (omega arith) (omega arith)) λ e.
    pick-view P (empty_group p) 29 _ (λ e. other 29 (omega arith) (omega arith) (omega arith)) λ e.
    pick-view P (unopened v p) 21 _ (λ e. other 21 (omega arith) (omega arith) (omega arith)) λ e.
    pick-view P (is_gone v p) 22 _ (λ e. other 22 (omega arith) (omega arith) (omega arith)) λ e.
    pick-view P (wrong_status v p) 23 _ (λ e. other 23 (omega arith) (omega arith) (omega arith)) λ e.
    pick-view P (unrelated_receipt v p) 31 _ unrelated λ e.
    pick-view P (all_opened v p) 25 _ (λ e. other 25 (omega arith) (omega arith) (omega arith)) λ e.
    pick-view P (all_waiting v p) 26 _ (λ e. other 26 (omega arith) (omega arith) (omega arith)) λ e.
    pick-view P (all_numbered v p) 27 _ (λ e. other 27 (omega arith) (omega arith) (omega arith)) λ e.
    pick-view P (all_checkpointed v p) 30 _ (λ e. other 30 (omega arith) (omega arith) (omega arith)) λ e.
    pick-view P (last_rolls_back y v p) 28 0 last (λ e. none)

pub refusal-large : (y : Layout) (v : Seen) (p : Step) → (refusal_of y v p ≡ 0) ⊎ InTable (refusal_of y v p)
refusal-large y v p = refusal-view (λ n. (n ≡ 0) ⊎ InTable n) y v p
    (λ n low high k. inr (record { low = low; high = omega arith }))
    (λ e. inr (record { low = omega arith; high = omega arith }))
    (λ e. inr (record { low = omega arith; high = omega arith }))
    (inl refl)

pub refusal-range : (y : Layout) (v : Seen) (p : Step) → (refusal_of y v p ≡ 0 → ⊥) → InTable (refusal_of y v p)
refusal-range y v p h = ⊎_elim (λ e. absurd (h e)) (λ i. i) (refusal-large y v p)
