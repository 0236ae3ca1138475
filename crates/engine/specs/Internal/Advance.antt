-- One step of a list: what the functions ask and give.
use Rattle.std.specs.Prelude.{ℕ, ◌*◌, ◌/◌, ◌≤◌, ◌<◌, true, false, ◌≡◌, List, length}
use Rattle.rules.specs.Layout.{Limits, base, in_range}
use Rattle.rules.specs.declared.Step.{Step}
use Rattle.rules.specs.Step.{step_bytes, receive}
use Rattle.rules.specs.Refusals.{group_bits}
use Rattle.rules.specs.Calls.{longest}
use Rattle.engine_tables.specs.declared.table.Row.{Row}
use Rattle.engine_tables.specs.declared.table.Slot.{Slot}
use Rattle.engine_tables.specs.Internal.Tables.{Tables, Played, play}
use Rattle.engine_chains.specs.Internal.Walk.{Walk}
use Rattle.engine_chains.specs.Internal.Walk.{Walkable, receipt_back}
use Rattle.engine_replies.specs.Internal.Engine.{receipt_walk, ready_in}
use Rattle.engine_tables.specs.declared.register.Register.{Register}
use Rattle.engine_tables.specs.declared.turns.Operands.{Operands}
use Rattle.engine_tables.specs.declared.turns.Turn.{Turn}
use Rattle.engine_tables.specs.declared.turns.GroupTurn.{GroupTurn}
use Rattle.engine_tables.specs.Internal.Places.{most}
use Rattle.engine_tables.specs.Internal.Register.{row_at, view_of}
use Rattle.engine_tables.specs.Internal.Turns.{place_of, subject_of, Holds, played_of, played_group}

-- step p as the i-th of a list, on the tables T: the tests of a receipt and of a signing are answered by walks back
abbrev pub play_at : List ℕ → List ℕ → ℕ → Tables → Step → Played
play_at steps replies i T p =
    play base T p
    (receipt_walk T steps replies i p.message).left_is_superseded
    (receipt_walk T steps replies i p.message).right_is_superseded
    (ready_in T steps replies i p.message)

-- a step but a signing, whatever the other takes and parcels are; the take that it leaves is among the sixteen
pub record Advances (steps replies : List ℕ) (i : ℕ) (x : Operands) (p : Step) (u : Turn) : Type 0 where
  pub plays : (R : ℕ → Row) (F : ℕ → Slot) → Holds x p R F → played_of u R F (place_of x.register p) ≡ play_at steps replies i (view_of x.register R F) p
  pub within : u.operands.at < group_bits

-- a signing, whatever the parcels are; the takes stay sixteen
pub record AdvancesGroup (steps replies : List ℕ) (i : ℕ) (x : Register) (rows : List Row) (p : Step) (u : GroupTurn) : Type 0 where
  pub plays : (F : ℕ → Slot) → played_group u x F ≡ play_at steps replies i (view_of x (row_at rows) F) p
  pub long : length rows ≡ group_bits → length u.rows ≡ group_bits

-- neither side of a walk met a stale life
pub record Unstale (w : Walk) : Type 0 where
  pub left : w.left_is_superseded ≡ false
  pub right : w.right_is_superseded ≡ false

-- What is asked of a step: those before it can be walked back over; the take that it looks at is the right one and among the sixteen, and
-- a parcel that waits is among the places. At the receipt of a letter no life met is stale by another, on either side.
pub record Ahead (steps replies : List ℕ) (i : ℕ) (x : Operands) (p : Step) : Type 0 where
  pub walkable : Walkable steps replies i
  pub subject : x.at ≡ subject_of p x.slot
  pub within : x.at < group_bits
  pub limits : x.register.transactors ≤ group_bits
  pub waits : x.slot.missing ≡ false → p.message < most
  pub letter : p.kind ≡ receive → x.slot.letter ≡ true → Unstale (receipt_back steps replies i p.message x.slot.addressee)

-- what is asked of a list: limits in range, whole steps and not too many, a reply for each
pub record Playable (m : Limits) (list replies : List ℕ) : Type 0 where
  pub range : in_range base m ≡ true
  pub room : length replies ≡ length list
  pub whole : step_bytes * (length list / step_bytes) ≡ length list
  pub short : length list ≤ longest
