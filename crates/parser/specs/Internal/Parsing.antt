-- What the loop over the lines cites.
use Rattle.std.specs.Prelude.{ℕ, suc, ◌+◌, Bool, true, false, not, ◌≡◌, Option, Some, None, Result, Ok, Err, List, [], eqb, ltb, length}
use Rattle.octets.specs.Bytes.{pick, put}
use Rattle.rules.specs.Step.{pack_step}
use Rattle.notation.specs.Reading.{next, good, nothing, room, line_at, empty_step, Progress}
use Rattle.rules.specs.declared.Step.{Step}
use Rattle.notation.specs.declared.Lack.{Lack}
use Rattle.notation.specs.declared.Fault.{Fault}
use Rattle.notation.specs.Parsing.{number_of}

unfoldable pub other_than : ℕ → ℕ → Bool
other_than b c = not (eqb c b)

-- what a line gives: a step, nothing, or a fault
pub record Line : Type 0 where
  pub said : Bool
  pub step : Step
  pub column : ℕ
  pub expected : ℕ

-- what a line without comment gives, by whether the list has room for one more step
unfoldable pub line_of : Bool → List ℕ → Line
line_of free s =
    pick (ltb (next s 0) (length s))
    (pick (good (line_at s (next s 0)))
    (pick free
    (record { said = true; step = (line_at s (next s 0)).step; column = 0; expected = nothing })
    (record { said = false; step = (line_at s (next s 0)).step; column = suc (next s 0); expected = room }))
    (record { said = false; step = (line_at s (next s 0)).step; column = suc (line_at s (next s 0)).at; expected = (line_at s (next s 0)).expected }))
    (record { said = false; step = empty_step 0; column = 0; expected = nothing })

-- the bytes of its step
unfoldable pub bytes_of : Line → List ℕ
bytes_of y = pick y.said (pack_step y.step) []

-- the same as its reader answers it, the column from 0
abbrev pub Gives : Result (Option Step) Lack → Line → Type 0
Gives (Ok None) y = (y.said ≡ false) × (y.expected ≡ nothing)
Gives (Ok (Some p)) y = (y.said ≡ true) × (y.step ≡ p) × (y.expected ≡ nothing)
Gives (Err e) y = (y.column ≡ suc e.at) × (y.expected ≡ number_of e.expected)

abbrev pub bytes_said : Option Step → List ℕ
bytes_said None = []
bytes_said (Some p) = pack_step p

-- how far the lines were read: the length of the list, or the fault
abbrev pub Told : Progress → Result ℕ Fault → Type 0
Told x (Ok n) = (n ≡ length x.list) × (x.expected ≡ nothing)
Told x (Err f) = (f.line ≡ x.line) × (f.column ≡ x.column) × (x.expected ≡ number_of f.expected)

-- the bytes bs from place at on, if they are to be written, and where they end
pub record Stored (write : Bool) (before after : List ℕ) (at : ℕ) (bs : List ℕ) (end : ℕ) : Type 0 where
  pub is : after ≡ pick write (put at bs before) before
  pub ends : end ≡ at + length bs

-- all lines read; the list written, if it is to be
pub record Gone (write : Bool) (before after : List ℕ) (x : Progress) (r : Result ℕ Fault) : Type 0 where
  pub is : after ≡ pick write (put 0 x.list before) before
  pub told : Told x r
