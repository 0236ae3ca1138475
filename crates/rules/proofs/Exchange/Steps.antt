-- Document 02, W8: steps of kinds 5 to 10 on two takes may change places.
use Prim.Native.Nat.{ℕ, ◌≤◌}
use mathlib.Core.Bool.{Bool, true, false}
use mathlib.Core.Path.{◌≡◌, refl, sym, ◌∙◌}
use native.Mathlib.Omega.{arith}
use lib.Dec.{eqb, leb}
use lib.ListN.{set}
use lib.Seq.{set_comm}
use Rattle.octets.specs.Bytes.{pick}
use Rattle.rules.specs.Layout.{Layout}
use Rattle.rules.specs.State.{Transactor, State, transactor_at, with_transactor}
use Rattle.rules.specs.Step.{Step, Reply}
use Rattle.rules.specs.Refusals.{malformed}
use Rattle.rules.specs.Rules.{local_by, refusal, answer, apply_local, apply, step_of}
use Rattle.rules.specs.Exchange.{Edit, EditsApart, Exchanged}
use Rattle.rules.proofs.ByKind.Refused.{local_in, otherwise, refuses, refusal-malformed}
use Rattle.rules.proofs.Pack.Stores.{with_transactor-other, with_transactor-same}

-- nothing but document 02's words is asked of the two steps
pub edits-apart : (p q : Step) → 5 ≤ p.kind → p.kind ≤ 10 → 5 ≤ q.kind → q.kind ≤ 10 → (p.transactor ≡ q.transactor → ⊥) → EditsApart p q
edits-apart p q a b c d apart = record {
  first = record { from = omega arith; upto = omega arith };
  second = record { from = omega arith; upto = omega arith };
  apart = apart;
}

-- what refuses such a step: takes opened, and the take alone
unfoldable edit_refusal : Layout → Step → ℕ → Transactor → ℕ
edit_refusal y p o x = pick (malformed p) 20 (pick (leb o p.transactor) 21 (local_in y p.kind p.transactor x))

unfoldable edit_reply : Layout → Step → ℕ → Transactor → Reply
edit_reply y p o x =
    pick (eqb (edit_refusal y p o x) 0)
    (answer (local_by y p.kind p.transactor p.value x).outcome p.transactor 0 (local_by y p.kind p.transactor p.value x).value)
    (answer (edit_refusal y p o x) 0 0 0)

unfoldable edit_transactor : Layout → Step → ℕ → Transactor → Transactor
edit_transactor y p o x = pick (eqb (edit_refusal y p o x) 0) (local_by y p.kind p.transactor p.value x).transactor x

module _ (y : Layout) (s : State) (p : Step) (e : Edit p) where
  abbrev acting : Transactor
  acting = transactor_at s p.transactor

  refusal-edit : refusal y s p ≡ edit_refusal y p s.opened acting
  unfolding edit_refusal
  refusal-edit = pick-case (malformed p) refl
    where
      pick-case : (c : Bool) → malformed p ≡ c → refusal y s p ≡ pick (malformed p) 20 (pick (leb s.opened p.transactor) 21 (local_in y p.kind p.transactor acting))
      pick-case true f = refusal-malformed y s p f ∙ rw f
      pick-case false f = (refuses y s p f).local e.from e.upto ∙ rw f

  apply-edit : apply y s p ≡ apply_local y s p
  unfolding apply
  apply-edit =
      let k = otherwise p.kind e.from e.upto in
      rw (k.root, k.letter, k.receive, k.new, k.send, k.lose, k.sign)

  edit-reply : (step_of y s p).reply ≡ edit_reply y p s.opened acting
  unfolding step_of edit_reply apply_local
  edit-reply = rw (refusal-edit, apply-edit) (pick-case (eqb (edit_refusal y p s.opened acting) 0))
    where
      pick-case : (c : Bool) → (pick c (apply_local y s p) (record { reply = answer (edit_refusal y p s.opened acting) 0 0 0; state = s })).reply
          ≡ pick c (apply_local y s p).reply (answer (edit_refusal y p s.opened acting) 0 0 0)
      pick-case true = refl
      pick-case false = refl

  edit-state : (step_of y s p).state ≡ with_transactor s p.transactor (edit_transactor y p s.opened acting)
  unfolding step_of edit_transactor apply_local
  edit-state = rw (refusal-edit, apply-edit) (pick-case (eqb (edit_refusal y p s.opened acting) 0))
    where
      pick-case : (c : Bool) → (pick c (apply_local y s p) (record { reply = answer (edit_refusal y p s.opened acting) 0 0 0; state = s })).state
          ≡ with_transactor s p.transactor (pick c (local_by y p.kind p.transactor p.value acting).transactor acting)
      pick-case true = refl
      pick-case false = sym (with_transactor-same s p.transactor)

with-opened : (s : State) (t : ℕ) (x : Transactor) → (with_transactor s t x).opened ≡ s.opened
unfolding with_transactor
with-opened s t x = refl

with-comm : (s : State) (t u : ℕ) (x z : Transactor) → (t ≡ u → ⊥) → with_transactor (with_transactor s t x) u z ≡ with_transactor (with_transactor s u z) t x
unfolding with_transactor
with-comm s t u x z n =
    let e : set (set s.transactors t x) u z ≡ set (set s.transactors u z) t x = set_comm s.transactors t u x z n in
    λ i. record { limits = s.limits; opened = s.opened; next = s.next; transactors = e i; messages = s.messages }

-- one such step after the other
module _ (y : Layout) (s : State) (p q : Step) (e : Edit p) (f : Edit q) (apart : p.transactor ≡ q.transactor → ⊥) where
  abbrev after : State
  after = (step_of y s p).state

  -- q finds its take as before
  found : transactor_at after q.transactor ≡ transactor_at s q.transactor
  found = rw (edit-state y s p e) (with_transactor-other s p.transactor _ q.transactor (λ g. apart (sym g)))

  open-same : after.opened ≡ s.opened
  open-same = rw (edit-state y s p e) (with-opened s p.transactor _)

  reply-apart : (step_of y after q).reply ≡ (step_of y s q).reply
  reply-apart = edit-reply y after q f ∙ rw (found, open-same) (sym (edit-reply y s q f))

  state-apart : (step_of y after q).state
      ≡ with_transactor (with_transactor s p.transactor (edit_transactor y p s.opened (transactor_at s p.transactor))) q.transactor (edit_transactor y q s.opened (transactor_at s q.transactor))
  state-apart = edit-state y after q f ∙ rw (found, open-same, edit-state y s p e)

-- both orders leave the same state, and each step has the same reply
pub exchanged : (y : Layout) (s : State) (p q : Step) → EditsApart p q → Exchanged y s p q
exchanged y s p q w =
    let e : Edit p = w.first in
    let f : Edit q = w.second in
    let back : q.transactor ≡ p.transactor → ⊥ = λ g. w.apart (sym g) in
    record {
      state =
          state-apart y s p q e f w.apart
          ∙ with-comm s p.transactor q.transactor _ _ w.apart
          ∙ sym (state-apart y s q p f e back);
      first = sym (reply-apart y s q p f e back);
      second = reply-apart y s p q e f w.apart;
    }
