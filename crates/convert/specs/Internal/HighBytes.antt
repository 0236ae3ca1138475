-- W6's 32 for the code: mark by mark, as they stand in the bytes.
use Rattle.std.specs.Prelude.{ℕ, ◌+◌, ◌*◌, Bool, not, List}
use Rattle.octets.specs.Bytes.{◌or◌, part, every}
use Rattle.marks.specs.Packed.{unpack_history, present_in}
use Rattle.marks.specs.Within.{history_within}
use Rattle.rules.specs.Layout.{Layout, history_bytes}

-- a mark that is there has no number over n
unfoldable pub entry_within : ℕ → Layout → List ℕ → Bool
entry_within n y b = not (present_in b) or history_within n y.places (unpack_history y.width y.places b)

-- each of m marks from a place of the image on
unfoldable pub entries_within : ℕ → Layout → List ℕ → ℕ → ℕ → Bool
entries_within n y img at m = every m (λ i. entry_within n y (part (at + history_bytes y * i) (history_bytes y) img))
