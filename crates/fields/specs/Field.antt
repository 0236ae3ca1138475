-- Document 01, "Packed forms": which field of an image a byte belongs to, and what a field holds.
use Rattle.std.specs.Prelude.{ℕ, ◌+◌, ◌-◌, ◌*◌, ◌/◌, ◌%◌, ◌<◌, Bool, ◌≡◌, List, length, get_or, eqb, ltb}
use Rattle.octets.specs.Bytes.{pick, zeros}
use Rattle.octets.specs.Numbers.{be}
use Rattle.marks.specs.Packed.{bit}
use Rattle.maps.specs.declared.DependenceMap.{DependenceMap}
use Rattle.maps.specs.Map.{held_at, history_at}
use Rattle.rules.specs.Layout.{Layout, history_bytes, map_bytes, value_at, saved_at, state_at, dependences_at, transactor_bytes, message_bytes, transactor_address, message_address, image_bytes}
use Rattle.rules.specs.State.{State, transactor_at, message_at}
use Rattle.rules.specs.Pack.{pack}
use Rattle.fields.specs.declared.Field.{Field}
use Rattle.fields.specs.declared.FieldKind.{FieldKind}
use Rattle.fields.specs.declared.FieldKind.TheVariants as kinds

-- the number of what stands in a field, for C
abbrev pub kind_number : FieldKind → ℕ
kind_number kinds.Nothing = 0
kind_number kinds.Opened = 1
kind_number kinds.Next = 2
kind_number kinds.HeadZero = 3
kind_number kinds.Transactors = 4
kind_number kinds.Messages = 5
kind_number kinds.Checkpoints = 6
kind_number kinds.LimitsZero = 7
kind_number kinds.Status = 8
kind_number kinds.Value = 9
kind_number kinds.Saved = 10
kind_number kinds.Addressee = 11
kind_number kinds.Number = 12
kind_number kinds.Content = 13
kind_number kinds.Flags = 14
kind_number kinds.Incarnation = 15
kind_number kinds.Checkpoint = 16

-- a field that is no part of a map
abbrev pub plain : (kind holder byte : ℕ) → Field
plain kind holder byte = record { kind = kind; holder = holder; map = 0; support = 0; entry = 0; byte = byte }

-- a field of the mark of take ground in a map
abbrev pub in_history : (kind holder map support entry byte : ℕ) → Field
in_history kind holder map support entry byte = record { kind = kind; holder = holder; map = map; support = support; entry = entry; byte = byte }

-- ---- the field of byte o

-- "takes opened 8, next parcel number 16, zero 8", then the limits, "stored after the head in four bytes": takes, parcels waiting, signings, zero
unfoldable pub front_field : ℕ → Field
front_field o = pick (ltb o 1) (plain 1 0 0) (pick (ltb o 3) (plain 2 0 (o - 1)) (plain o 0 0))

-- "present 1, frozen 1, zero 2, count 4, n 16, list 15 times 16"
unfoldable pub history_field : Layout → (map holder support o : ℕ) → Field
history_field y map holder support o =
    pick (ltb o 1) (in_history 14 holder map support 0 0)
    (pick (ltb o (1 + y.width)) (in_history 15 holder map support 0 (o - 1))
    (in_history 16 holder map support ((o - (1 + y.width)) / y.width) ((o - (1 + y.width)) % y.width)))

-- the marks of a map, take by take
unfoldable pub map_field : Layout → (map holder o : ℕ) → Field
map_field y map holder o = history_field y map holder (o / history_bytes y) (o % history_bytes y)

-- "status 2 .. zero 6; text 32; saved 32; three maps"
unfoldable pub transactor_field : Layout → (t o : ℕ) → Field
transactor_field y t o =
    pick (ltb o value_at) (plain 8 t 0)
    (pick (ltb o saved_at) (plain 9 t (o - value_at))
    (pick (ltb o state_at) (plain 10 t (o - saved_at))
    (map_field y ((o - state_at) / map_bytes y) t ((o - state_at) % map_bytes y))))

-- "waiting 1, zero 3, addressee 4, number 16, text 32, map"
unfoldable pub message_field : Layout → (k o : ℕ) → Field
message_field y k o =
    pick (ltb o 1) (plain 11 k 0)
    (pick (ltb o 3) (plain 12 k (o - 1))
    (pick (ltb o dependences_at) (plain 13 k (o - 3))
    (map_field y 3 k (o - dependences_at))))

-- past the image: all zero
unfoldable pub field_of : Layout → ℕ → Field
field_of y o =
    pick (ltb o (transactor_address y 0)) (front_field o)
    (pick (ltb o (message_address y 0)) (transactor_field y ((o - transactor_address y 0) / transactor_bytes y) ((o - transactor_address y 0) % transactor_bytes y))
    (pick (ltb o (image_bytes y)) (message_field y ((o - message_address y 0) / message_bytes y) ((o - message_address y 0) % message_bytes y))
    (plain 0 0 0)))

-- ---- for theorems: where a field stands, and what it holds of a state

pub record Place : Type 0 where
  pub at : ℕ
  pub bytes : List ℕ

abbrev pub from : ℕ → List ℕ → Place
from at bytes = record { at = at; bytes = bytes }

-- Map number i of take or parcel place h, and where it stands: 0 state, 1 creation, 2 behaviour, 3 the parcel's.
unfoldable pub map_of : State → (i h : ℕ) → DependenceMap
map_of s i h =
    pick (eqb i 0) (transactor_at s h).state
    (pick (eqb i 1) (transactor_at s h).creation
    (pick (eqb i 2) (transactor_at s h).behaviour
    (message_at s h).dependences))

unfoldable pub map_address : Layout → (i h : ℕ) → ℕ
map_address y i h = pick (ltb i 3) (transactor_address y h + (state_at + map_bytes y * i)) (message_address y h + dependences_at)

-- what stands for an absent mark is all zero
abbrev pub of_history : Bool → ℕ → ℕ → List ℕ
of_history p w n = pick p (be w n) (zeros w)

-- a field of a mark
unfoldable pub history_place : Layout → DependenceMap → (at : ℕ) → Field → Place
history_place y m at f =
    pick (eqb f.kind 14) (from at (of_history (held_at m f.support) 1 (128 + 64 * bit (history_at m f.support).stable + (history_at m f.support).count)))
    (pick (eqb f.kind 15) (from (at + 1) (of_history (held_at m f.support) y.width (history_at m f.support).incarnation))
    (from (at + (1 + y.width + y.width * f.entry)) (of_history (held_at m f.support) y.width (get_or (history_at m f.support).checkpoints f.entry 0))))

-- a field of a parcel place: waiting bit and addressee, number, text
unfoldable pub message_place : Layout → State → Field → Place
message_place y s f =
    let k : ℕ = f.holder in
    pick (eqb f.kind 11) (from (message_address y k) (of_history (ltb k (length s.messages)) 1 (128 + (message_at s k).addressee)))
    (pick (eqb f.kind 12) (from (message_address y k + 1) (be 2 (message_at s k).number))
    (pick (eqb f.kind 13) (from (message_address y k + 3) (be 4 (message_at s k).value))
    (history_place y (map_of s f.map k) (map_address y f.map k + history_bytes y * f.support) f)))

-- a field of a take: status, text, saved text
unfoldable pub transactor_place : Layout → State → Field → Place
transactor_place y s f =
    let t : ℕ = f.holder in
    pick (eqb f.kind 8) (from (transactor_address y t) (be 1 (64 * (transactor_at s t).status)))
    (pick (eqb f.kind 9) (from (transactor_address y t + value_at) (be 4 (transactor_at s t).value))
    (pick (eqb f.kind 10) (from (transactor_address y t + saved_at) (be 4 (transactor_at s t).saved))
    (message_place y s f)))

-- takes opened, next parcel number, zero, limits of takes, parcels waiting and signings, zero
unfoldable pub field_place : Layout → State → Field → Place
field_place y s f =
    pick (eqb f.kind 1) (from 0 (be 1 s.opened))
    (pick (eqb f.kind 2) (from 1 (be 2 s.next))
    (pick (eqb f.kind 3) (from 3 (be 1 0))
    (pick (eqb f.kind 4) (from 4 (be 1 s.limits.transactors))
    (pick (eqb f.kind 5) (from 5 (be 1 s.limits.messages))
    (pick (eqb f.kind 6) (from 6 (be 1 s.limits.checkpoints))
    (pick (eqb f.kind 7) (from 7 (be 1 0))
    (transactor_place y s f)))))))

-- Byte o of the image of s is byte f .byte of field f: o is where that byte of the field stands.
pub record Stands (y : Layout) (s : State) (o : ℕ) (f : Field) : Type 0 where
  pub here : (field_place y s f).at + f.byte ≡ o
  pub within : f.byte < length (field_place y s f).bytes
  pub byte : get_or (pack y s) o 0 ≡ get_or (field_place y s f).bytes f.byte 0
