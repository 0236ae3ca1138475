-- The places of the parcel numbers in an array.
use Rattle.std.specs.Prelude.{ℕ, List, leb, get_or}
use Rattle.octets.specs.Bytes.{pick}
use Rattle.engine_tables.specs.declared.table.Slot.{Slot}
use Rattle.engine_tables.specs.Internal.Tables.{empty_slot}

-- steps of a list at most
abbrev pub most : ℕ
most = 1024

-- the parcels in an array; a number past its end waits for nobody
abbrev pub slot_at : List Slot → ℕ → Slot
slot_at l n = get_or l n empty_slot

-- the place of parcel number n; one place for all numbers from most on
unfoldable pub placed : ℕ → ℕ
placed n = pick (leb most n) most n
