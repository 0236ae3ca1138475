-- What refuses a step, kind by kind and in the order of the code.
use Prim.Native.Nat.{ℕ, ◌≤◌}
use mathlib.Core.Bool.{true, false, not}
use mathlib.Core.Path.{◌≡◌}
use native.Mathlib.Omega.{arith}
use lib.Dec.{eqb, ltb, leb}
use lib.ListN.{length}
use borrow.Author.Tests.{le-leb, ltb-false, ne_eqb}
use Rattle.octets.specs.Bytes.{pick, ◌and◌, ◌or◌}
use Rattle.rules.specs.Layout.{Layout}
use Rattle.rules.specs.Status.{idle, busy, annihilated}
use Rattle.rules.specs.State.{Transactor, State, own_history, transactor_at, message_at, place_of}
use Rattle.rules.specs.Step.{Step, root, letter, receive, new, send, read, fall, fail, lose, sign}
use Rattle.rules.specs.Refusals.{malformed, not_waiting, empty_group, unopened, is_gone, wrong_status, unrelated_receipt, all_opened, all_waiting, all_numbered, all_checkpointed, at_last, last_rolls_back, refusal_of}
use Rattle.rules.specs.Rules.{receipt_rolls_back, receipt_unrelated, seen, refusal}
use Rattle.rules.specs.Internal.Guards.{first, is_last_incarnation, room_refusal, named_refusal, group_refusal, busy_in, room_in, group_in}
use Rattle.octets.proofs.Tests.{or-none, or_off, pick-or}
use Rattle.rules.proofs.ByKind.Guards.{busy-first}

pub refusal-malformed : (y : Layout) (s : State) (p : Step) → malformed p ≡ true → refusal y s p ≡ 20
unfolding refusal refusal_of
refusal-malformed y s p e = rw e

pub kind-formed : (p : Step) → malformed p ≡ false → p.kind ≤ sign
unfolding malformed
kind-formed p e = ltb-false sign p.kind (or_off (ltb sign p.kind) _ e).0

-- kind k of 5 to 10, the take t being opened
abbrev pub local_in : Layout → ℕ → ℕ → Transactor → ℕ
local_in y k t x =
    pick (eqb x.status annihilated) 22
    (pick (leb k fall and not (eqb x.status busy)) 23
    (pick ((eqb k fall or eqb k fail) and not (own_history t x).stable and is_last_incarnation y t x) 28 0))

-- the tests of the other kinds
pub record Otherwise (k : ℕ) : Type 0 where
  pub from : leb new k ≡ true
  pub upto : leb k fail ≡ true
  pub root : eqb k root ≡ false
  pub letter : eqb k letter ≡ false
  pub receive : eqb k receive ≡ false
  pub new : eqb k new ≡ false
  pub send : eqb k send ≡ false
  pub lose : eqb k lose ≡ false
  pub sign : eqb k sign ≡ false

pub otherwise : (k : ℕ) → read ≤ k → k ≤ fail → Otherwise k
otherwise k low high = record {
  from = le-leb new k (omega arith);
  upto = le-leb k fail (omega arith);
  root = ne_eqb k root (omega arith);
  letter = ne_eqb k letter (omega arith);
  receive = ne_eqb k receive (omega arith);
  new = ne_eqb k new (omega arith);
  send = ne_eqb k send (omega arith);
  lose = ne_eqb k lose (omega arith);
  sign = ne_eqb k sign (omega arith);
}

-- the addressee of the parcel with number n
abbrev pub receiver : State → ℕ → ℕ
receiver s n = (message_at s (place_of s n)).addressee

pub record Refuses (y : Layout) (s : State) (p : Step) : Type 0 where
  pub root : p.kind ≡ root → refusal y s p ≡ pick (leb s.limits.transactors s.opened) 25 0
  pub letter : p.kind ≡ letter → refusal y s p ≡ pick (leb s.opened p.transactor) 21 (room_in s)
  pub receive : p.kind ≡ receive → refusal y s p
      ≡ pick (leb (length s.messages) (place_of s p.message)) 24
      (pick (eqb (transactor_at s (receiver s p.message)).status annihilated) 22
      (pick (not (eqb (transactor_at s (receiver s p.message)).status idle)) 23
      (pick (receipt_unrelated y s p.message) 31
      (pick (receipt_rolls_back y s p.message and is_last_incarnation y (receiver s p.message) (transactor_at s (receiver s p.message))) 28 0))))
  pub new : p.kind ≡ new → refusal y s p ≡ first (busy_in s p.transactor) (pick (leb s.limits.transactors s.opened) 25 0)
  pub send : p.kind ≡ send → refusal y s p ≡ pick (leb s.opened p.other) 21 (first (busy_in s p.transactor) (room_in s))
  pub local : read ≤ p.kind → p.kind ≤ fail → refusal y s p
      ≡ pick (leb s.opened p.transactor) 21 (local_in y p.kind p.transactor (transactor_at s p.transactor))
  pub lose : p.kind ≡ lose → refusal y s p ≡ pick (leb (length s.messages) (place_of s p.message)) 24 0
  pub sign : p.kind ≡ sign → refusal y s p ≡ group_in s p.message

pub refuses : (y : Layout) (s : State) (p : Step) → malformed p ≡ false → Refuses y s p
unfolding refusal refusal_of not_waiting empty_group unopened is_gone wrong_status unrelated_receipt all_opened all_waiting all_numbered all_checkpointed at_last last_rolls_back seen is_last_incarnation room_refusal named_refusal group_refusal
refuses y s p formed = record {
  root = λ e. rw (formed, e);
  letter = λ e. simp (formed, e, or-none);
  receive = λ e. simp (formed, e, or-none);
  new = λ e. simp (formed, e, or-none, busy-first);
  send = λ e. simp (formed, e, or-none, busy-first, pick-or);
  local = λ low high.
      let k = otherwise p.kind low high in
      simp (formed, k.root, k.letter, k.receive, k.new, k.send, k.lose, k.sign, k.from, k.upto, or-none);
  lose = λ e. rw (formed, e);
  sign = λ e. rw (formed, e);
}
