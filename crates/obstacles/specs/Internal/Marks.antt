-- What a packed mark keeps from being signed, as the code tests the image; for internal functions alone.
use Rattle.std.specs.Prelude.{ℕ, not, List, Option, Some, None}
use Rattle.octets.specs.Bytes.{pick, ◌and◌, part}
use Rattle.marks.specs.Packed.{present_in, unpack_history}
use Rattle.rules.specs.declared.Obstacle.{Obstacle}
use Rattle.rules.specs.Layout.{Layout, history_bytes}
use Rattle.rules.specs.Rules.{entry_ready}
use Rattle.rules.specs.Pack.{unpack}
use Rattle.rules.specs.Obstacle.{ground_of}

-- the mark packed in img from at on, if there is one, of take u in a map of take t
unfoldable pub mark_obstacle : Layout → List ℕ → ℕ → ℕ → ℕ → ℕ → Option Obstacle
mark_obstacle y img v t u at =
    pick (present_in (part at (history_bytes y) img) and not (entry_ready (unpack y img) v u (unpack_history y.width y.places (part at (history_bytes y) img))))
    (Some (ground_of (unpack y img) t u (unpack_history y.width y.places (part at (history_bytes y) img)))) None
