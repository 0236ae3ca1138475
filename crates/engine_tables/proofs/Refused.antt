-- What refuses a step on the tables, kind by kind and in the order of the code.
use Prim.Native.Nat.{ℕ, ◌≤◌, ◌<◌}
use mathlib.Core.Bool.{Bool, true, false, not}
use mathlib.Core.Path.{◌≡◌, refl}
use mathlib.Core.Logic.{⊎_elim}
use native.Mathlib.Omega.{arith}
use lib.Dec.{eqb, leb}
use borrow.Author.Tests.{le-leb, lt-leb, ne_eqb, eq-eqb, eqb-false}
use Rattle.octets.specs.Bytes.{pick, ◌and◌, ◌or◌}
use Rattle.octets.proofs.Chunks.{sides}
use Rattle.octets.proofs.Tests.{or-none, pick-or}
use Rattle.rules.specs.Layout.{base}
use Rattle.rules.specs.Status.{idle, annihilated}
use Rattle.rules.specs.declared.Step.{Step}
use Rattle.rules.specs.Step.{root, letter, receive, new, send, read, fall, fail, lose, sign}
use Rattle.rules.specs.Refusals.{malformed, not_waiting, empty_group, unopened, is_gone, wrong_status, unrelated_receipt, all_opened, all_waiting, all_numbered, all_checkpointed, at_last, last_rolls_back, refusal_of}
use Rattle.rules.specs.Internal.Guards.{first, room_refusal, receiver_refusal, named_refusal, group_refusal}
use Rattle.rules.proofs.ByKind.Guards.{busy-first, receiver-first, local-first}
use Rattle.rules.proofs.ByKind.Refused.{otherwise}
use Rattle.engine_tables.specs.declared.table.Row.{Row}
use Rattle.engine_tables.specs.declared.table.Slot.{Slot}
use Rattle.engine_tables.specs.Internal.Tables.{seen_in, play_refusal}
use Rattle.engine_tables.specs.declared.register.Register.{Register}
use Rattle.engine_tables.specs.Internal.Register.{view_of}
use Rattle.engine_tables.specs.Internal.Guards.{last_row, local_guard, busy_guard, room_guard, receipt_guard, group_guard}

pub refused-malformed : (x : Register) (R : ℕ → Row) (F : ℕ → Slot) (p : Step) (d f : Bool) → malformed p ≡ true → play_refusal base (view_of x R F) p d f ≡ 20
unfolding play_refusal refusal_of
refused-malformed x R F p d f e = rw e

receipt-first : (m : Slot) (x : Row) (r : ℕ) → first (receipt_guard m x) r ≡ pick m.missing 24 (pick (eqb x.status annihilated) 22 (pick (not (eqb x.status idle)) 23 r))
unfolding receipt_guard
receipt-first m x r = go m.missing
  where
    go : (c : Bool) → first (pick c 24 (receiver_refusal x.status)) r ≡ pick c 24 (pick (eqb x.status annihilated) 22 (pick (not (eqb x.status idle)) 23 r))
    go true = refl
    go false = receiver-first x.status r

-- the last two of kinds 5 to 10
falling : (k : ℕ) → k ≤ fail → eqb k fall or eqb k fail ≡ leb fall k
falling k high = ⊎_elim
    (λ (h : k < fall). rw (ne_eqb k fall (omega arith), ne_eqb k fail (omega arith), lt-leb fall k h))
    (λ (h : fall ≤ k). go (eqb k fall) refl h)
    (sides k fall)
  where
    go : (c : Bool) → eqb k fall ≡ c → fall ≤ k → c or eqb k fail ≡ leb fall k
    go true e h = rw (le-leb fall k h)
    go false e h = let n = eqb-false k fall e in rw (le-leb fall k h, eq-eqb k fail (omega arith))

module _ (x : Register) (R : ℕ → Row) (F : ℕ → Slot) (p : Step) (d f : Bool) where
  abbrev refusal : ℕ
  refusal = play_refusal base (view_of x R F) p d f

  abbrev t : ℕ
  t = p.transactor

  pub record Refuses : Type 0 where
    pub root : p.kind ≡ root → refusal ≡ pick (leb x.transactors x.opened) 25 0
    pub letter : p.kind ≡ letter → refusal ≡ pick (leb x.opened t) 21 (room_guard x)
    pub receive : p.kind ≡ receive → refusal ≡ first (receipt_guard (F p.message) (R (F p.message).addressee)) (pick ((not d and f) and last_row (R (F p.message).addressee)) 28 0)
    pub new : p.kind ≡ new → refusal ≡ first (busy_guard x.opened t (R t)) (pick (leb x.transactors x.opened) 25 0)
    pub send : p.kind ≡ send → refusal ≡ pick (leb x.opened p.other) 21 (first (busy_guard x.opened t (R t)) (room_guard x))
    pub local : read ≤ p.kind → p.kind ≤ fail → refusal ≡ pick (leb x.opened t) 21 (local_guard p.kind (R t))
    pub lose : p.kind ≡ lose → refusal ≡ pick (F p.message).missing 24 0
    pub sign : p.kind ≡ sign → refusal ≡ group_guard x R p.message

  pub refuses : malformed p ≡ false → Refuses
  unfolding play_refusal refusal_of not_waiting empty_group unopened is_gone wrong_status unrelated_receipt all_opened all_waiting all_numbered all_checkpointed at_last last_rolls_back seen_in view_of last_row local_guard room_refusal named_refusal group_refusal
  refuses formed = record {
    root = λ e. rw (formed, e);
    letter = λ e. simp (formed, e, or-none);
    receive = λ e. simp (formed, e, or-none, receipt-first);
    new = λ e. simp (formed, e, or-none, busy-first);
    send = λ e. simp (formed, e, or-none, busy-first, pick-or);
    local = λ low high.
        let k = otherwise p.kind low high in
        simp (formed, k.root, k.letter, k.receive, k.new, k.send, k.lose, k.sign, k.from, k.upto, or-none, falling p.kind high, local-first);
    lose = λ e. rw (formed, e);
    sign = λ e. rw (formed, e);
  }
