-- The refusals of a step that look at a take or at all, one after the other as the code finds them.
use Rattle.std.specs.Prelude.{ℕ, Bool, not, ltb, leb}
use Rattle.octets.specs.Bytes.{pick, ◌and◌}
use Rattle.rules.specs.Layout.{base, largest}
use Rattle.rules.specs.Step.{fall}
use Rattle.rules.specs.Refusals.{any_named}
use Rattle.rules.specs.Internal.Guards.{first, busy_refusal, room_refusal, receiver_refusal, local_refusal, named_refusal, group_refusal}
use Rattle.engine_tables.specs.declared.table.Row.{Row}
use Rattle.engine_tables.specs.declared.table.Slot.{Slot}
use Rattle.engine_tables.specs.declared.register.Register.{Register}

-- a signed take at the largest life number
unfoldable pub last_row : Row → Bool
last_row x = ltb 0 x.checkpoints and leb (largest base) x.incarnation

-- 22; 23; 28, of kind k of 5 to 10
unfoldable pub local_guard : ℕ → Row → ℕ
local_guard k x = first (local_refusal k x.status) (pick (leb fall k and not x.stable and last_row x) 28 0)

-- of a receipt of parcel m by take x: 24; 22; 23
unfoldable pub receipt_guard : Slot → Row → ℕ
receipt_guard m x = pick m.missing 24 (receiver_refusal x.status)

-- some named one of the takes R is not frozen
unfoldable pub any_unstable : (ℕ → Row) → ℕ → Bool
any_unstable R g = any_named g (λ t. not (R t).stable)

-- ---- those over plain numbers, of what is kept

-- take t, which must be at work; n: takes opened
abbrev pub busy_guard : ℕ → ℕ → Row → ℕ
busy_guard n t x = busy_refusal n t x.status

-- one parcel more
abbrev pub room_guard : Register → ℕ
room_guard x = room_refusal x.messages x.waiting x.next

-- a volume, of the takes R
abbrev pub named_guard : ℕ → (ℕ → Row) → ℕ → ℕ
named_guard most R = named_refusal most (λ t. (R t).status) (λ t. (R t).checkpoints)

abbrev pub group_guard : Register → (ℕ → Row) → ℕ → ℕ
group_guard x R = group_refusal x.opened x.checkpoints (λ t. (R t).status) (λ t. (R t).checkpoints)
