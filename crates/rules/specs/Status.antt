-- Document 01, "A take and its steps": the statuses of a take.
use Rattle.std.specs.Prelude.{ℕ}

-- not opened
abbrev pub unused : ℕ
unused = 0

abbrev pub idle : ℕ
idle = 1

-- at work
abbrev pub busy : ℕ
busy = 2

-- vanished
abbrev pub annihilated : ℕ
annihilated = 3
