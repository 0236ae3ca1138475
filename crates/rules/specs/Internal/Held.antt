-- The present life of a take, as the code finds it in a map of the image.
use Rattle.std.specs.Prelude.{ℕ, ◌<◌, Bool, ◌≡◌, List, get_or}
use Rattle.octets.specs.Bytes.{◌and◌, part}
use Rattle.marks.specs.Incarnation.{same_incarnation}
use Rattle.marks.specs.History.{incarnation_of}
use Rattle.marks.specs.Packed.{present_in, unpack_history}
use Rattle.rules.specs.Layout.{Layout, history_bytes}
use Rattle.rules.specs.State.{State, transactor_at, own_history}
use Rattle.rules.specs.Pack.{unpack}
use Rattle.rules.specs.Dependents.{rests_at, group_of}

-- the mark packed in img from at on, if there is one, is of take t's present life
unfoldable pub present_at : Layout → List ℕ → ℕ → ℕ → Bool
present_at y img at t =
    present_in (part at (history_bytes y) img)
    and same_incarnation (incarnation_of (unpack_history y.width y.places (part at (history_bytes y) img))) (incarnation_of (own_history t (transactor_at (unpack y img) t)))

-- who rests on each of the first n takes stands in its place
pub record Listed (y : Layout) (s : State) (n : ℕ) (l : List ℕ) : Type 0 where
  pub is : (u : ℕ) → u < n → get_or l u 0 ≡ group_of y.transactors (rests_at s u)
