-- A line that is being written: at most 256 bytes, held by value.
use Rattle.std.specs.Prelude.{ℕ, ◌≡◌, List, ◌++◌, length, take}
pub use Rattle.lines.specs.declared.Line.{Line}

-- the most bytes that a line holds: a step's has 45, a mark's no more than 210
abbrev pub line_room : ℕ
line_room = 256

-- the bytes written so far
unfoldable pub written : Line → List ℕ
written l = take l.len l.bytes

-- b behind a; what goes beyond the room is left out
unfoldable pub plus : List ℕ → List ℕ → List ℕ
plus a b = take line_room (a ++ b)

-- a line that says x
pub record Says (l : Line) (x : List ℕ) : Type 0 where
  pub is : written l ≡ x
  pub len : l.len ≡ length x
