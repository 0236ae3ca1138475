-- What the functions for other languages answer: how many bytes were written, and the refusal or 0.
use Rattle.std.specs.Prelude.{ℕ, List, eqb, ltb, length}
use Rattle.octets.specs.Bytes.{pick, put}
use Rattle.notation.specs.Parsing.{ParsedNumbers}
use Rattle.printer.specs.Printing.{PrintedNumbers}
use Rattle.inspection.specs.Inspection.{inspect_refusal, inspected}
use Rattle.notation_c.specs.declared.Given.{Given}

-- the numbers of an answer of print or text_length
abbrev pub given_by : PrintedNumbers → Given
given_by n = record { length = n.length; refusal = n.refusal }

abbrev pub none : ℕ → Given
none n = record { length = 0; refusal = n }

-- a line x, into out: 18 where it has no room
unfoldable pub given_for : List ℕ → List ℕ → Given
given_for x out = pick (ltb (length out) (length x)) (none 18) (record { length = length x; refusal = 0 })

-- it stands at the front of out; refused, no byte is changed
unfoldable pub given_out : List ℕ → List ℕ → List ℕ
given_out x out = pick (ltb (length out) (length x)) out (put 0 x out)

-- a line of an image: 16, 19, 18
unfoldable pub image_given : List ℕ → ℕ → List ℕ → Given
image_given img n out = pick (eqb (inspect_refusal img) 0) (given_for (inspected img n) out) (none (inspect_refusal img))

-- the numbers of parse's answer: the function's own answer, and the three lent numbers
abbrev pub parsed_as : (count line column expected : ℕ) → ParsedNumbers
parsed_as n l c e = record { count = n; line = l; column = c; expected = e }
