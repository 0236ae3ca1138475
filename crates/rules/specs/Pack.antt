-- Document 01, "Packed forms": the image.
use Rattle.std.specs.Prelude.{ℕ, ◌+◌, ◌*◌, ◌/◌, ◌%◌, Bool, List, [], ◌++◌, length, get_or, ltb}
use Rattle.octets.specs.Bytes.{pick, part, chunks, tabulate, zeros}
use Rattle.octets.specs.Numbers.{be, of_be}
use Rattle.maps.specs.declared.DependenceMap.{DependenceMap}
use Rattle.maps.specs.Packed.{pack_map, unpack_map}
use Rattle.rules.specs.Layout.{Layout, Limits, widest, map_bytes, value_at, saved_at, state_at, creation_at, behaviour_at, transactor_bytes, dependences_at, message_bytes, transactor_address, message_address}
use Rattle.rules.specs.State.{Transactor, Message, State, transactor_at, message_at, place_from}

abbrev pub pack_dependences : Layout → DependenceMap → List ℕ
pack_dependences y m = pack_map y.width y.places y.transactors m

-- status 2, zero 6; text 32; saved 32; three maps
unfoldable pub pack_transactor : Layout → Transactor → List ℕ
pack_transactor y x =
    be 1 (64 * x.status) ++ be 4 x.value ++ be 4 x.saved
    ++ pack_dependences y x.state ++ pack_dependences y x.creation ++ pack_dependences y x.behaviour

-- waiting 1, zero 3, addressee 4; number 16; text 32; map
unfoldable pub pack_message : Layout → Message → List ℕ
pack_message y m = be 1 (128 + m.addressee) ++ be 2 m.number ++ be 4 m.value ++ pack_dependences y m.dependences

unfoldable pub pack_transactor_at : Layout → State → ℕ → List ℕ
pack_transactor_at y s t = pack_transactor y (transactor_at s t)

-- waiting ones first
unfoldable pub pack_message_at : Layout → State → ℕ → List ℕ
pack_message_at y s k = pick (ltb k (length s.messages)) (pack_message y (message_at s k)) (zeros (message_bytes y))

-- takes opened 8, next parcel number 16, zero 8
unfoldable pub pack_head : State → List ℕ
pack_head s = be 1 s.opened ++ be 2 s.next ++ be 1 0

-- document 02, W7: takes 8, parcels waiting 8, signings 8, zero 8
unfoldable pub pack_limits : Layout → Limits → List ℕ
pack_limits y m = pick y.limited (be 1 m.transactors ++ be 1 m.messages ++ be 1 m.checkpoints ++ be 1 0) []

-- "stored after the head in four bytes"
unfoldable pub pack_front : Layout → State → List ℕ
pack_front y s = pack_head s ++ pack_limits y s.limits

unfoldable pub pack : Layout → State → List ℕ
pack y s = pack_front y s ++ chunks y.transactors (pack_transactor_at y s) ++ chunks y.messages (pack_message_at y s)

-- ---- back

abbrev pub unpack_dependences : Layout → ℕ → List ℕ → DependenceMap
unpack_dependences y at b = unpack_map y.width y.places y.transactors (part at (map_bytes y) b)

unfoldable pub unpack_transactor : Layout → List ℕ → Transactor
unpack_transactor y b = record {
  status = get_or b 0 0 / 64;
  value = of_be 4 (part value_at 4 b);
  saved = of_be 4 (part saved_at 4 b);
  state = unpack_dependences y state_at b;
  creation = unpack_dependences y (creation_at y) b;
  behaviour = unpack_dependences y (behaviour_at y) b;
}

unfoldable pub unpack_message : Layout → List ℕ → Message
unpack_message y b = record {
  addressee = get_or b 0 0 % 16;
  number = of_be 2 (part 1 2 b);
  value = of_be 4 (part 3 4 b);
  dependences = unpack_dependences y dependences_at b;
}

-- the bytes of take t
unfoldable pub transactor_part : Layout → List ℕ → ℕ → List ℕ
transactor_part y img t = part (transactor_address y t) (transactor_bytes y) img

-- the bytes of parcel place k
unfoldable pub message_part : Layout → List ℕ → ℕ → List ℕ
message_part y img k = part (message_address y k) (message_bytes y) img

unfoldable pub unpack_transactor_at : Layout → List ℕ → ℕ → Transactor
unpack_transactor_at y img t = unpack_transactor y (transactor_part y img t)

unfoldable pub unpack_message_at : Layout → List ℕ → ℕ → Message
unpack_message_at y img k = unpack_message y (message_part y img k)

-- the waiting bit of parcel place k is clear
unfoldable pub vacant_at : Layout → List ℕ → ℕ → Bool
vacant_at y img k = ltb (get_or (message_part y img k) 0 0) 128

-- how many parcels wait: the places before the first that is vacant
unfoldable pub waiting_in : Layout → List ℕ → ℕ
waiting_in y img = place_from (vacant_at y img) 0 y.messages

unfoldable pub unpack_limits : Layout → List ℕ → Limits
unpack_limits y img = pick y.limited (record { transactors = get_or img 4 0; messages = get_or img 5 0; checkpoints = get_or img 6 0 }) (widest y)

unfoldable pub unpack : Layout → List ℕ → State
unpack y img = record {
  limits = unpack_limits y img;
  opened = get_or img 0 0;
  next = of_be 2 (part 1 2 img);
  transactors = tabulate y.transactors (unpack_transactor_at y img);
  messages = tabulate (waiting_in y img) (unpack_message_at y img);
}
