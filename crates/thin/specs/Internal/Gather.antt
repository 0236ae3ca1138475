-- The pass from the last step to the first.
use Rattle.std.specs.Prelude.{ℕ, ◌-◌, ◌*◌, ◌<◌, Bool, false, not, ◌≡◌, List, ◌++◌, length, get_or, eqb}
use Rattle.octets.specs.Bytes.{pick, ◌and◌, put, part, zeros}
use Rattle.rules.specs.Layout.{base}
use Rattle.rules.specs.declared.Step.{Step}
use Rattle.rules.specs.Step.{step_bytes, read}
use Rattle.rules.specs.Calls.{steps_in}
use Rattle.thin.specs.Thin.{not_refused, touches, empties, kept, chosen, counted}

-- ---- for each take, whether the next step that touches it empties its map

-- e says it of each take as f does
pub record Says (f : ℕ → Bool) (e : List Bool) : Type 0 where
  pub long : length e ≡ base.transactors
  pub at : (t : ℕ) → t < base.transactors → get_or e t false ≡ f t

-- e of the steps after p; with p
unfoldable pub with : Step → ℕ → List Bool → ℕ → Bool
with p o e t = pick (touches p o t) (empties p o) (get_or e t false)

-- whether p, in front of these steps, is kept
unfoldable pub kept_by : Step → ℕ → List Bool → Bool
kept_by p o e = not_refused o and not (eqb p.kind read and get_or e p.transactor false)

-- ---- the list

-- the outcome or refusal of step i, in replies rs
unfoldable pub outcome_in : List ℕ → ℕ → ℕ
outcome_in rs i = get_or rs (step_bytes * i) 0

-- whether step i of b is kept, by replies rs
abbrev pub kept_in : List ℕ → List ℕ → ℕ → Bool
kept_in b rs = kept b (outcome_in rs) (steps_in b)

-- step i of b, if it is kept, stands in out' in front of those that stand in out from place k on; they stand from place k' on then
pub record Placed (b : List ℕ) (i : ℕ) (kept : Bool) (k : ℕ) (out : List ℕ) (k' : ℕ) (out' : List ℕ) : Type 0 where
  pub first : k' ≡ k - pick kept 1 0
  pub bytes : out' ≡ pick kept (put (step_bytes * (k - 1)) (part (step_bytes * i) step_bytes b) out) out

-- the n steps of b that are kept stand at the end of out, which held the replies rs
pub record Gathered (b rs out : List ℕ) (n : ℕ) : Type 0 where
  pub count : n ≡ counted (kept_in b rs) (steps_in b)
  pub steps : out ≡ put (step_bytes * (steps_in b - n)) (chosen (kept_in b rs) (steps_in b) b) rs

-- they stand at its start, and zeros after them
pub record Shortened (b rs out : List ℕ) (n : ℕ) : Type 0 where
  pub count : n ≡ counted (kept_in b rs) (steps_in b)
  pub bytes : out ≡ chosen (kept_in b rs) (steps_in b) b ++ zeros (length b - step_bytes * n)
