-- Sizes, offsets and limits. Every size is computed from the numbers of a layout.
use Rattle.std.specs.Prelude.{ℕ, ◌+◌, ◌-◌, ◌*◌, ◌≤◌, ◌<◌, Bool, true, false, leb}
use Rattle.octets.specs.Bytes.{◌and◌}
use Rattle.octets.specs.Numbers.{bound}
use Rattle.marks.specs.Packed.{history_size, bit}
use Rattle.maps.specs.Packed.{map_size}

-- How a state is laid out in bytes.
pub record Layout : Type 0 where
  -- bytes of a life number
  pub width : ℕ
  -- places of the list L
  pub places : ℕ
  -- takes
  pub transactors : ℕ
  -- parcels
  pub messages : ℕ
  -- whether the session's limits follow the head; if not, they are the counts above
  pub limited : Bool

-- The ledger's layout (document 02, W5 and W7): an image of 42,616 bytes.
abbrev pub base : Layout
base = record { width = 2; places = 15; transactors = 16; messages = 32; limited = true }

-- Document 01's layout, in which closed hearings are stored: an image of 22,132 bytes.
abbrev pub narrow : Layout
narrow = record { width = 1; places = 15; transactors = 16; messages = 32; limited = false }

-- The largest life number (28), the last that its bytes hold: "Refusal 28 moves from 255 to 65,535".
abbrev pub largest : Layout → ℕ
largest y = bound y.width - 1

-- The next parcel number stops here (27): the last that its 16 bits hold.
abbrev pub last_number : ℕ
last_number = 65535

-- ---- document 02, W7: "Beginning a session takes three numbers"

-- What a session refuses to go beyond.
pub record Limits : Type 0 where
  -- takes opened (25)
  pub transactors : ℕ
  -- parcels waiting (26)
  pub messages : ℕ
  -- signings of one take (30)
  pub checkpoints : ℕ

-- the three numbers in their order
abbrev pub limits_of : ℕ → ℕ → ℕ → Limits
limits_of t m c = record { transactors = t; messages = m; checkpoints = c }

-- the widest that a layout has room for: 16, 32 and 15
abbrev pub widest : Layout → Limits
widest y = record { transactors = y.transactors; messages = y.messages; checkpoints = y.places }

-- the lowest that a limit can be, n being the highest: 1, or n where limits are not stored
abbrev pub lowest : Bool → ℕ → ℕ
lowest true n = 1
lowest false n = n

-- "takes 1 to 16, parcels waiting 1 to 32, signings 1 to 15"
unfoldable pub in_range : Layout → Limits → Bool
in_range y m =
    leb (lowest y.limited y.transactors) m.transactors and leb m.transactors y.transactors
    and leb (lowest y.limited y.messages) m.messages and leb m.messages y.messages
    and leb (lowest y.limited y.places) m.checkpoints and leb m.checkpoints y.places

-- Layouts whose counts fit their fields: count of L 4 bits, addressee 4 bits, a volume 16 bits, a limit 8 bits.
pub record Fitting (y : Layout) : Type 0 where
  pub places : y.places < 16
  pub transactors : y.transactors ≤ 16
  pub messages : y.messages < 256

abbrev pub history_bytes : Layout → ℕ
history_bytes y = history_size y.width y.places

abbrev pub map_bytes : Layout → ℕ
map_bytes y = map_size y.width y.places y.transactors

-- A take: status 2, zero 6, text 32, saved 32, three maps.
abbrev pub value_at : ℕ
value_at = 1

abbrev pub saved_at : ℕ
saved_at = 5

abbrev pub state_at : ℕ
state_at = 9

abbrev pub creation_at : Layout → ℕ
creation_at y = state_at + map_bytes y

abbrev pub behaviour_at : Layout → ℕ
behaviour_at y = creation_at y + map_bytes y

abbrev pub transactor_bytes : Layout → ℕ
transactor_bytes y = behaviour_at y + map_bytes y

-- A parcel: waiting 1, zero 3, addressee 4, number 16, text 32, map.
abbrev pub dependences_at : ℕ
dependences_at = 7

abbrev pub message_bytes : Layout → ℕ
message_bytes y = dependences_at + map_bytes y

-- The head: takes opened 8, next parcel number 16, zero 8.
abbrev pub head_bytes : ℕ
head_bytes = 4

-- "stored after the head in four bytes"
abbrev pub limits_bytes : Layout → ℕ
limits_bytes y = 4 * bit y.limited

abbrev pub transactor_address : Layout → ℕ → ℕ
transactor_address y t = head_bytes + limits_bytes y + transactor_bytes y * t

abbrev pub message_address : Layout → ℕ → ℕ
message_address y k = transactor_address y y.transactors + message_bytes y * k

abbrev pub image_bytes : Layout → ℕ
image_bytes y = message_address y y.messages

-- ---- for theorems: at the layout of an image

-- "takes 1 to 16, parcels waiting 1 to 32, signings 1 to 15"
pub record LimitsInRange (m : Limits) : Type 0 where
  pub transactors : (1 ≤ m.transactors) × (m.transactors ≤ 16)
  pub messages : (1 ≤ m.messages) × (m.messages ≤ 32)
  pub checkpoints : (1 ≤ m.checkpoints) × (m.checkpoints ≤ 15)
