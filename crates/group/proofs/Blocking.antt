-- What the image says of a named take, asked for 22 and 30.
use Prim.Native.Nat.{ℕ}
use mathlib.Core.Bool.{Bool, true, false}
use mathlib.Core.Path.{◌≡◌, sym, ◌∙◌}
use lib.Dec.{eqb, leb}
use Rattle.octets.specs.Bytes.{pick}
use Rattle.rules.specs.Status.{annihilated}
use Rattle.rules.specs.State.{State, transactor_at, own_history}
use Rattle.rules.specs.Internal.Guards.{member_refusal}
use Rattle.rules.proofs.ByKind.Guards.{Roomy}

abbrev pub Blocking : State → ℕ → ℕ → ℕ → Type 0
Blocking s g t n = Roomy s.limits.checkpoints (λ t. (transactor_at s t).status) (λ t. (own_history t (transactor_at s t)).count) g t n

pub member-in : (s : State) (t r most status count : ℕ) → r ≡ member_refusal most status count
    → most ≡ s.limits.checkpoints → status ≡ (transactor_at s t).status → count ≡ (own_history t (transactor_at s t)).count
    → r ≡ member_refusal s.limits.checkpoints (transactor_at s t).status (own_history t (transactor_at s t)).count
member-in s t r most status count e p q k = e ∙ λ i. member_refusal (p i) (q i) (k i)

-- a member that is refused and not gone has no room
pub member-full : (r most status count : ℕ) → r ≡ member_refusal most status count → (r ≡ 22 → ⊥) → (r ≡ 0 → ⊥) → 30 ≡ r
unfolding member_refusal
member-full r most status count e n z = go (eqb status annihilated) (leb most count) e
  where
    go : (p q : Bool) → r ≡ pick p 22 (pick q 30 0) → 30 ≡ r
    go true q f = absurd (n f)
    go false true f = sym f
    go false false f = absurd (z f)
