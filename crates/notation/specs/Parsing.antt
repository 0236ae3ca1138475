-- What parse answers, and what it writes.
use Rattle.std.specs.Prelude.{ℕ, ◌≡◌, ◌<◌, Result, Ok, Err, MatchResult, List, [], ◌∷◌, leb, get_or}
use Rattle.octets.specs.Bytes.{pick, ◌and◌, put}
use Rattle.rules.specs.Calls.{steps_in}
use Rattle.notation.specs.Notation.{bytes, transactor_field, other_field, message_field, value_field, group_field, word_to, word_text, whole_step}
use Rattle.notation.specs.Reading.{a_kind, comma_or_brace, line_end, room, Reader, reached, Read, steps, fault}
pub use Rattle.notation.specs.declared.Fault.{Fault}
pub use Rattle.notation.specs.declared.Place.{Place}
pub use Rattle.notation.specs.declared.Lack.{Lack}
pub use Rattle.notation.specs.declared.UnknownExpected.{UnknownExpected}
pub use Rattle.notation.specs.declared.Expected.{Expected}
pub use Rattle.notation.specs.declared.Expected.TheVariants.{Transactor, Addressee, Message, Value, Group, WordTo, WordText, SixteenDigits, Kind, CommaOrBrace, LineEnd, Room}

-- the number of what was expected
abbrev pub number_of : Expected → ℕ
number_of Transactor = transactor_field
number_of Addressee = other_field
number_of Message = message_field
number_of Value = value_field
number_of Group = group_field
number_of WordTo = word_to
number_of WordText = word_text
number_of SixteenDigits = whole_step
number_of Kind = a_kind
number_of CommaOrBrace = comma_or_brace
number_of LineEnd = line_end
number_of Room = room

-- the result is what has this number, or the number, which nothing expected has
abbrev pub IsExpected : ℕ → Result Expected UnknownExpected → Type 0
IsExpected n r = MatchResult r (λ e. number_of e ≡ n) (λ u. (u.0 ≡ n) × (0 < n → 12 < n))

-- what a line's reader answers: where it stands, or where it lacks something, the step so far, and what
abbrev pub Answers : Result Place Lack → Reader → Type 0
Answers (Ok q) r = r ≡ reached q.at q.step
Answers (Err e) r = (r.at ≡ e.at) × (r.expected ≡ number_of e.expected) × (r.step ≡ e.step)

-- and back; no fault has a number of none
unfoldable pub expected_of : ℕ → Expected
expected_of n =
    get_or (Room ∷ Transactor ∷ Addressee ∷ Message ∷ Value ∷ Group ∷ WordTo ∷ WordText ∷ SixteenDigits ∷ Kind ∷ CommaOrBrace ∷ LineEnd ∷ []) n Room

-- how many steps, or the fault
abbrev pub answer_of : Read → Result ℕ Fault
answer_of (steps l) = Ok (steps_in l)
answer_of (fault n c e) = Err (record { line = n; column = c; expected = expected_of e })

-- the lent bytes: the steps at their start, or untouched
abbrev pub written_of : Read → List ℕ → List ℕ
written_of (steps l) out = put 0 l out
written_of (fault n c e) out = out

-- ---- the numbers of each answer

pub record ParsedNumbers : Type 0 where
  -- how many steps; 0 at a fault
  pub count : ℕ
  -- the fault's line and column, and the number of what was expected there; 0 where there is no fault
  pub line : ℕ
  pub column : ℕ
  pub expected : ℕ

abbrev pub parsed_numbers : Result ℕ Fault → ParsedNumbers
parsed_numbers (Ok n) = record { count = n; line = 0; column = 0; expected = 0 }
parsed_numbers (Err f) = record { count = 0; line = f.line; column = f.column; expected = number_of f.expected }

-- ---- what was expected, in words

-- in the documents' words
abbrev pub expected_text : Expected → List ℕ
expected_text Transactor = bytes "a take, 0 to 15"
expected_text Addressee = bytes "an addressee, a take, 0 to 15"
expected_text Message = bytes "a parcel, 0 to 65535"
expected_text Value = bytes "a text, 0 to 4294967295"
expected_text Group = bytes "a volume in braces"
expected_text WordTo = bytes "the word to"
expected_text WordText = bytes "the word text"
expected_text SixteenDigits = bytes "16 hexadecimal digits"
expected_text Kind = bytes "a kind of step"
expected_text CommaOrBrace = bytes "a comma or a closing brace"
expected_text LineEnd = bytes "the end of the line"
expected_text Room = bytes "room for this step"

-- and by its number, 1 to 12; no words for any other
unfoldable pub expected_words : ℕ → List ℕ
expected_words n = pick (leb 1 n and leb n 12) (expected_text (expected_of n)) []
