-- A step on what is kept: what the kinds ask and give.
use Rattle.std.specs.Prelude.{ℕ, ◌≤◌, ◌<◌, Bool, false, ◌≡◌, List, eqb, length, Result, Ok, Err, IfOk}
use Rattle.octets.specs.Bytes.{pick}
use Rattle.octets.specs.Table.{updated}
use Rattle.rules.specs.Layout.{base}
use Rattle.rules.specs.declared.Step.{Step}
use Rattle.rules.specs.Step.{done, receive}
use Rattle.rules.specs.Refusals.{group_bits, sends, malformed}
use Rattle.rules.specs.Rules.{answer}
use Rattle.rules.specs.declared.refusals.Refusal.{Refusal}
use Rattle.rules.specs.Numbers.{refusal_number}
use Rattle.engine_tables.specs.declared.table.Row.{Row}
use Rattle.engine_tables.specs.declared.table.Slot.{Slot}
use Rattle.engine_tables.specs.Internal.Tables.{opened_row, filled_slot, Played, play}
use Rattle.engine_tables.specs.declared.register.Register.{Register}
use Rattle.engine_tables.specs.declared.turns.Operands.{Operands}
use Rattle.engine_tables.specs.declared.turns.Turn.{Turn}
use Rattle.engine_tables.specs.declared.turns.GroupTurn.{GroupTurn}
use Rattle.engine_tables.specs.Internal.Register.{row_at, view_of, with_opened, with_number}

-- the parcel number that a step looks at, and may change: of a letter or a send the next one
unfoldable pub place_of : Register → Step → ℕ
place_of x p = pick (sends p.kind) x.next p.message

-- the take that it looks at, where m is what is kept of that parcel number: of a receipt its receiver
unfoldable pub subject_of : Step → Slot → ℕ
subject_of p m = pick (eqb p.kind receive) m.addressee p.transactor

-- ---- what a step looks at, and leaves

abbrev pub operands_of : Register → ℕ → Row → Slot → Operands
operands_of x t row m = record { register = x; at = t; row = row; slot = m }

-- only a number is replied
abbrev pub answers : Operands → ℕ → Turn
answers x number = record { reply = answer number 0 0 0; operands = x }

abbrev pub answers_group : List Row → ℕ → GroupTurn
answers_group rows number = record { reply = answer number 0 0 0; rows = rows }

-- a turn, or the number of the refusal in place of it
abbrev pub turn_in : Operands → Result Turn Refusal → Turn
turn_in x (Ok u) = u
turn_in x (Err r) = answers x (refusal_number r)

abbrev pub group_turn_in : List Row → Result GroupTurn Refusal → GroupTurn
group_turn_in rows (Ok u) = u
group_turn_in rows (Err r) = answers_group rows (refusal_number r)

-- a turn replies an outcome, of which each is below every refusal: so what is refused is an Err
abbrev pub RepliesOutcome : Result Turn Refusal → Type 0
RepliesOutcome r = IfOk r (λ u. u.reply.outcome < 16)

-- one more take, with text v
abbrev pub opens : Operands → ℕ → Turn
opens x v = record {
  reply = answer done x.register.opened 0 0;
  operands = record { register = with_opened x.register; at = x.register.opened; row = opened_row v; slot = x.slot };
}

-- one more parcel, by take t to take u, with text v; c: a letter
abbrev pub sends_to : Operands → Bool → ℕ → ℕ → ℕ → Turn
sends_to x c t u v = record {
  reply = answer done t x.register.next 0;
  operands = record { register = with_number x.register; at = x.at; row = x.row; slot = filled_slot c u v };
}

-- ---- a turn as a step on the tables

-- the takes R and the parcels F have the operands of step p: the take and the parcel number that it looks at
pub record Holds (x : Operands) (p : Step) (R : ℕ → Row) (F : ℕ → Slot) : Type 0 where
  pub row : R x.at ≡ x.row
  pub slot : F (place_of x.register p) ≡ x.slot

-- a turn, with the takes R and the parcels F but for what it leaves; n: the parcel number
unfoldable pub played_of : Turn → (ℕ → Row) → (ℕ → Slot) → ℕ → Played
played_of u R F n = record { reply = u.reply; tables = view_of u.operands.register (updated R u.operands.at u.operands.row) (updated F n u.operands.slot) }

abbrev pub played_group : GroupTurn → Register → (ℕ → Slot) → Played
played_group u x F = record { reply = u.reply; tables = view_of x (row_at u.rows) F }

-- it is the step on the tables, where the tests of a receipt are answered by d and f, and that of a signing by g; the take that it
-- leaves is among the sixteen
pub record TurnsBy (d f g : Bool) (x : Operands) (p : Step) (u : Turn) : Type 0 where
  pub plays : (R : ℕ → Row) (F : ℕ → Slot) → Holds x p R F → played_of u R F (place_of x.register p) ≡ play base (view_of x.register R F) p d f g
  pub within : x.at < group_bits → u.operands.at < group_bits

-- however all three are answered
pub record Turns (x : Operands) (p : Step) (u : Turn) : Type 0 where
  pub by : (d f g : Bool) → TurnsBy d f g x p u

-- those of a receipt by d and f, that of a signing however
pub record Receives (d f : Bool) (x : Operands) (p : Step) (u : Turn) : Type 0 where
  pub by : (g : Bool) → TurnsBy d f g x p u

-- a signing looks at all takes, which stay sixteen, and at no parcel; its test is answered by g, those of a receipt however
pub record Signs (g : Bool) (x : Register) (rows : List Row) (p : Step) (u : GroupTurn) : Type 0 where
  pub plays : (d f : Bool) (F : ℕ → Slot) → played_group u x F ≡ play base (view_of x (row_at rows) F) p d f g
  pub long : length rows ≡ group_bits → length u.rows ≡ group_bits

-- ---- what is asked

-- a well-formed step of kind k with the take that it looks at; the session's limit of takes is at most sixteen
pub record Asked (k : ℕ) (x : Operands) (p : Step) : Type 0 where
  pub formed : malformed p ≡ false
  pub kind : p.kind ≡ k
  pub subject : x.at ≡ subject_of p x.slot
  pub limits : x.register.transactors ≤ group_bits
