-- W6, for the code: an image, well-formed or not, with every life number and list entry written anew in another width, the widest limits
-- where limits are stored, and all other bytes as they stand.
use Rattle.std.specs.Prelude.{ℕ, ◌+◌, ◌*◌, List, ◌++◌}
use Rattle.octets.specs.Bytes.{part, chunks}
use Rattle.marks.specs.Packed.{history_size}
use Rattle.maps.specs.Internal.Recast.{recast_map}
use Rattle.rules.specs.Layout.{Layout, widest, map_bytes, state_at, creation_at, behaviour_at, dependences_at, head_bytes, narrow, base}
use Rattle.rules.specs.Pack.{pack_limits, transactor_part, message_part}

-- one width is a byte, the other two
pub data Widths : ℕ → ℕ → Type 0 where
  widening : Widths 1 2
  narrowing : Widths 2 1

-- a record of a front of so many bytes and of so many marks, whose lists have l places
abbrev pub record_size : ℕ → ℕ → ℕ → ℕ → ℕ
record_size v l front many = front + history_size v l * many

-- record k of those from a place of s on, its front as it stands
unfoldable pub record_at : ℕ → ℕ → ℕ → ℕ → ℕ → ℕ → List ℕ → ℕ → List ℕ
record_at v w l front many from s k =
    part (from + record_size v l front many * k) front s
    ++ recast_map v w l many (part (from + record_size v l front many * k + front) (history_size v l * many) s)

-- the map at a place of b
unfoldable pub recast_part : Layout → ℕ → ℕ → List ℕ → List ℕ
recast_part y w at b = recast_map y.width w y.places y.transactors (part at (map_bytes y) b)

unfoldable pub recast_transactor : Layout → ℕ → List ℕ → List ℕ
recast_transactor y w b = part 0 state_at b ++ recast_part y w state_at b ++ recast_part y w (creation_at y) b ++ recast_part y w (behaviour_at y) b

unfoldable pub recast_message : Layout → ℕ → List ℕ → List ℕ
recast_message y w b = part 0 dependences_at b ++ recast_part y w dependences_at b

unfoldable pub recast_transactor_at : Layout → ℕ → List ℕ → ℕ → List ℕ
recast_transactor_at y w img t = recast_transactor y w (transactor_part y img t)

unfoldable pub recast_message_at : Layout → ℕ → List ℕ → ℕ → List ℕ
recast_message_at y w img k = recast_message y w (message_part y img k)

-- the head, and after it the limits where layout z stores them
unfoldable pub recast_front : Layout → List ℕ → List ℕ
recast_front z img = part 0 head_bytes img ++ pack_limits z (widest z)

-- an image of layout y in layout z
unfoldable pub recast : Layout → Layout → List ℕ → List ℕ
recast y z img = recast_front z img ++ chunks y.transactors (recast_transactor_at y z.width img) ++ chunks y.messages (recast_message_at y z.width img)

-- an old image in the new form, whatever it holds
unfoldable pub widened : List ℕ → List ℕ
widened img = recast narrow base img
