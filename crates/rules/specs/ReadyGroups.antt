-- Document 02, W10: how many volumes are ready.
use Rattle.std.specs.Prelude.{ℕ, zero, suc, ◌+◌, ◌<◌, Bool, true, not, ◌≡◌, List, eqb, leb}
use Rattle.octets.specs.Bytes.{pick, ◌and◌}
use Rattle.octets.specs.Numbers.{bound}
use Rattle.rules.specs.Layout.{Layout}
use Rattle.rules.specs.Status.{annihilated}
use Rattle.rules.specs.State.{State, transactor_at, own_history}
use Rattle.rules.specs.Step.{done}
use Rattle.rules.specs.Refusals.{group_bits, named}
use Rattle.rules.specs.Rules.{group_ready, step_of}
use Rattle.rules.specs.Pack.{unpack}
use Rattle.rules.specs.Form.{well_formed}
use Rattle.rules.specs.Calls.{wrong_length}
use Rattle.rules.specs.Groups.{signing}

-- at how many of 0, 1, .., n of them, f holds
unfoldable pub how_many : ℕ → (ℕ → Bool) → ℕ
how_many zero f = 0
how_many (suc n) f = how_many n f + pick (f n) 1 0

-- how many takes volume v names
unfoldable pub size_of : ℕ → ℕ
size_of v = how_many group_bits (named v)

-- volume v "could be signed now": its signing would reply 0
unfoldable pub ready_group : Layout → State → ℕ → Bool
ready_group y s v = eqb (step_of y s (signing v)).reply.outcome done

-- "how many volumes of just that many takes could be signed now". A volume has 16 bits.
unfoldable pub ready_count : Layout → State → ℕ → ℕ
ready_count y s size = how_many (bound 2) (λ v. eqb (size_of v) size and ready_group y s v)

-- "the number of ready volumes"
unfoldable pub ready_groups : Layout → State → ℕ
ready_groups y s = how_many (bound 2) (ready_group y s)

-- ---- the call

-- 16, 19; 34: "any other size" than "from 1 to 16", "after 16 and 19"
unfoldable pub ready_refusal : Layout → List ℕ → ℕ → ℕ
ready_refusal y img size =
    pick (wrong_length y img) 16
    (pick (not (well_formed y img)) 19
    (pick (not (leb 1 size and leb size group_bits)) 34 0))

-- refused: 0
unfoldable pub ready_answer : Layout → List ℕ → ℕ → ℕ
ready_answer y img size = pick (eqb (ready_refusal y img size) 0) (ready_count y (unpack y img) size) 0

-- ---- for theorems

-- f 1, f 2, .., n of them, added up
unfoldable pub total : ℕ → (ℕ → ℕ) → ℕ
total zero f = 0
total (suc n) f = total n f + f (suc n)

-- volume v is ready "under the signing rule and the 15-signing limit (or the session's own)"; one "naming unopened or vanished takes" is not
pub record Ready (y : Layout) (s : State) (v : ℕ) : Type 0 where
  pub names : v ≡ 0 → ⊥
  pub opened : (t : ℕ) → t < group_bits → named v t ≡ true → t < s.opened
  pub there : (t : ℕ) → t < group_bits → named v t ≡ true → (transactor_at s t).status ≡ annihilated → ⊥
  pub room : (t : ℕ) → t < group_bits → named v t ≡ true → (own_history t (transactor_at s t)).count < s.limits.checkpoints
  pub rule : group_ready y s v ≡ true
