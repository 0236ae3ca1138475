-- What print and text_length answer, and what print leaves, for every input.
use Rattle.std.specs.Prelude.{ℕ, Bool, Result, Ok, Err, List, ltb, length}
use Rattle.octets.specs.Bytes.{pick, ◌or◌, put}
use Rattle.rules.specs.Calls.{wrong_part}
use Rattle.notation.specs.Notation.{text}
use Rattle.rules.specs.declared.refusals.Refusal.{Refusal}
use Rattle.rules.specs.Numbers.{refusal_number}
use Rattle.rules.specs.declared.refusals.Refusal.TheVariants.{WrongPart, WrongRoom}

-- 17, as for a run: the list's length not a multiple of 8, or over 8,192 bytes
unfoldable pub wrong_list : List ℕ → Bool
wrong_list l = wrong_part l 0 (length l)

unfoldable pub length_answer : List ℕ → Result ℕ Refusal
length_answer l = pick (wrong_list l) (Err WrongPart) (Ok (length (text l)))

-- 18: no room for the text
unfoldable pub no_room : List ℕ → List ℕ → Bool
no_room l out = ltb (length out) (length (text l))

unfoldable pub print_answer : List ℕ → List ℕ → Result ℕ Refusal
print_answer l out = pick (wrong_list l) (Err WrongPart) (pick (no_room l out) (Err WrongRoom) (Ok (length (text l))))

-- the text stands at the front of out; a refusal changes no byte
unfoldable pub printed_out : List ℕ → List ℕ → List ℕ
printed_out l out = pick (wrong_list l or no_room l out) out (put 0 (text l) out)

-- ---- the numbers of each answer: the text's length or 0, and the refusal or 0

pub record PrintedNumbers : Type 0 where
  pub length : ℕ
  pub refusal : ℕ

abbrev pub printed_numbers : Result ℕ Refusal → PrintedNumbers
printed_numbers (Ok n) = record { length = n; refusal = 0 }
printed_numbers (Err r) = record { length = 0; refusal = refusal_number r }
