-- A step that is not refused is answered with an outcome, 0 to 5; one that is refused with 20 or more.
use Prim.Native.Nat.{ℕ, ◌≤◌}
use mathlib.Core.Bool.{Bool}
use mathlib.Core.Path.{◌≡◌}
use mathlib.Core.Logic.{⊎_elim}
use Rattle.rules.proofs.Keep.Accepted.{refusal-large}
use native.Mathlib.Omega.{arith}
use lib.Dec.{eqb}
use Rattle.octets.proofs.Tests.{pick-view}
use Rattle.rules.specs.Layout.{Layout}
use Rattle.rules.specs.State.{Transactor, Message, State, own_history, transactor_at, message_at, place_of}
use Rattle.rules.specs.Step.{Step, not_ready, root, letter, receive, new, send, read, write, freeze, finish, fall, lose, sign}
use Rattle.rules.specs.Rules.{Effect, Result, rollback, read_by, write_by, freeze_by, finish_by, fall_by, fail_by, local_by, message_superseded, receiver_superseded, receive_by, group_ready, seen, refusal, apply_root, apply_letter, apply_receive, apply_new, apply_send, apply_local, apply_lose, apply_sign, apply, step_of}
use Rattle.rules.proofs.Keep.Step.{refused-same, applied-same}

-- ---- not refused

abbrev Small : Effect → Type 0
Small e = e.outcome ≤ not_ready

module _ (y : Layout) (t : ℕ) (x : Transactor) where
  rollback-small : Small (rollback y t x)
  unfolding rollback
  rollback-small = pick-view Small (eqb (own_history t x).count 0) _ _ (λ e. omega arith) (λ e. omega arith)

  pub local-small : (k v : ℕ) → (local_by y k t v x).outcome ≤ not_ready
  unfolding local_by read_by write_by freeze_by finish_by fall_by fail_by
  local-small k v =
      let held : Bool = (own_history t x).stable in
      pick-view Small (eqb k read) _ _ (λ e. omega arith) λ e0.
      pick-view Small (eqb k write) _ _ (λ e. pick-view Small held _ _ (λ e. omega arith) (λ e. omega arith)) λ e1.
      pick-view Small (eqb k freeze) _ _ (λ e. omega arith) λ e2.
      pick-view Small (eqb k finish) _ _ (λ e. omega arith) λ e3.
      pick-view Small (eqb k fall) _ _ (λ e. pick-view Small held _ _ (λ e. omega arith) (λ e. rollback-small)) λ e4.
      pick-view Small held _ _ (λ e. omega arith) (λ e. rollback-small)

  receive-small : (q : Message) → Small (receive_by y t x q)
  unfolding receive_by
  receive-small q =
      pick-view Small (message_superseded y x q) _ _ (λ e. omega arith) λ e0.
      pick-view Small (receiver_superseded y x q) _ _ (λ e. rollback-small) (λ e. omega arith)

abbrev Outcome : Result → Type 0
Outcome r = r.reply.outcome ≤ not_ready

pub apply-outcome : (y : Layout) (s : State) (p : Step) → (apply y s p).reply.outcome ≤ not_ready
unfolding apply apply_root apply_letter apply_receive apply_new apply_send apply_lose apply_sign apply_local
apply-outcome y s p =
    let k : ℕ = p.kind in
    let q : Message = message_at s (place_of s p.message) in
    pick-view Outcome (eqb k root) _ _ (λ e. omega arith) λ e0.
    pick-view Outcome (eqb k letter) _ _ (λ e. omega arith) λ e1.
    pick-view Outcome (eqb k receive) _ _ (λ e. receive-small y q.addressee (transactor_at s q.addressee) q) λ e2.
    pick-view Outcome (eqb k new) _ _ (λ e. omega arith) λ e3.
    pick-view Outcome (eqb k send) _ _ (λ e. omega arith) λ e4.
    pick-view Outcome (eqb k lose) _ _ (λ e. omega arith) λ e5.
    pick-view Outcome (eqb k sign) _ _ (λ e. pick-view Outcome (group_ready y s p.message) _ _ (λ e. omega arith) (λ e. omega arith)) λ e6.
    local-small y p.transactor (transactor_at s p.transactor) k p.value

-- ---- refused

-- A step is refused, with 20 or more, and nothing changes; or not, and its outcome is at most 5.
pub data Judged (y : Layout) (s : State) (p : Step) : Type 0 where
  refused : 20 ≤ (step_of y s p).reply.outcome → (step_of y s p).state ≡ s → Judged y s p
  applied : refusal y s p ≡ 0 → (step_of y s p).reply.outcome ≤ not_ready → Judged y s p

pub judged : (y : Layout) (s : State) (p : Step) → Judged y s p
unfolding refusal
judged y s p = ⊎_elim
    (λ e. applied e (rw (applied-same y s p e) (apply-outcome y s p)))
    (λ i. let e = refused-same y s p (λ (z : refusal y s p ≡ 0). omega arith) in refused (rw e i.low) (rw e))
    (refusal-large y (seen y s) p)
