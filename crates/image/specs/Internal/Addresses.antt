-- Where what the code reads or writes stands in an image.
use Rattle.std.specs.Prelude.{ℕ, ◌+◌, ◌*◌}
use Rattle.rules.specs.Layout.{Layout, history_bytes, state_at, dependences_at, transactor_address, message_address}

-- the own mark of take t
abbrev pub own_at : Layout → ℕ → ℕ
own_at y t = transactor_address y t + state_at + history_bytes y * t

-- the map of the parcel in place k
abbrev pub map_at : Layout → ℕ → ℕ
map_at y k = message_address y k + dependences_at
