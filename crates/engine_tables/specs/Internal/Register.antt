-- What the code keeps by value, as the tables of Tables.antt: the takes and the parcels stand apart.
use Rattle.std.specs.Prelude.{ℕ, ◌+◌, ◌-◌, ◌<◌, Bool, true, ◌≡◌, List, length, get_or}
use Rattle.octets.specs.Bytes.{pick}
use Rattle.rules.specs.Layout.{limits_of}
use Rattle.rules.specs.Status.{unused}
use Rattle.rules.specs.Refusals.{group_bits, named}
use Rattle.engine_tables.specs.declared.table.Row.{Row}
use Rattle.engine_tables.specs.declared.table.Slot.{Slot}
use Rattle.engine_tables.specs.Internal.Tables.{Tables, empty_row, checkpoint_row}
use Rattle.engine_tables.specs.declared.register.Register.{Register}

-- take t of a list
abbrev pub row_at : List Row → ℕ → Row
row_at l t = get_or l t (empty_row unused)

-- what is kept, with the takes R and the parcels F
unfoldable pub view_of : Register → (ℕ → Row) → (ℕ → Slot) → Tables
view_of x R F = record {
  limits = limits_of x.transactors x.messages x.checkpoints;
  opened = x.opened;
  next = x.next;
  waiting = x.waiting;
  rows = R;
  messages = F;
}

-- ---- the changes

abbrev pub fresh_register : ℕ → ℕ → ℕ → Register
fresh_register t m c = record { transactors = t; messages = m; checkpoints = c; opened = 0; next = 0; waiting = 0 }

-- one more take
abbrev pub with_opened : Register → Register
with_opened x = record {
  transactors = x.transactors;
  messages = x.messages;
  checkpoints = x.checkpoints;
  opened = x.opened + 1;
  next = x.next;
  waiting = x.waiting;
}

-- one more parcel
abbrev pub with_number : Register → Register
with_number x = record {
  transactors = x.transactors;
  messages = x.messages;
  checkpoints = x.checkpoints;
  opened = x.opened;
  next = x.next + 1;
  waiting = x.waiting + 1;
}

-- one less
abbrev pub without_number : Register → Register
without_number x = record {
  transactors = x.transactors;
  messages = x.messages;
  checkpoints = x.checkpoints;
  opened = x.opened;
  next = x.next;
  waiting = x.waiting - 1;
}

-- take t, if it is named, signed
unfoldable pub checkpointed_row : Bool → Row → Row
checkpointed_row c x = pick c (checkpoint_row x) x

-- the takes after a signing of volume g, sixteen
pub record CheckpointedRows (g : ℕ) (before after : List Row) : Type 0 where
  pub long : length after ≡ group_bits
  pub at : (t : ℕ) → row_at after t ≡ checkpointed_row (named g t) (row_at before t)

-- a named take can be signed once more: a byte holds the count
unfoldable pub Fits : Bool → Row → Type 0
Fits c x = c ≡ true → x.checkpoints < 255

-- every one can
pub record Room (g : ℕ) (rows : List Row) : Type 0 where
  pub fits : (t : ℕ) → Fits (named g t) (row_at rows t)
