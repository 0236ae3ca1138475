-- What was expected, in words: no more than 32 bytes each.
use Rattle.std.proofs.Common.{ℕ, zero, suc, ◌≤◌, ◌<◌, ◌≡◌, refl, sym, ap, ◌∙◌, List, [], ◌∷◌, length, arith}
use Rattle.std.proofs.lemmas.List.{get_or_past}
use borrow.Author.Tests.{le-leb, lt-leb}
use Rattle.notation.specs.declared.Expected.{Expected}
use Rattle.notation.specs.declared.Expected.TheVariants.{Transactor, Addressee, Message, Value, Group, WordTo, WordText, SixteenDigits, Kind, CommaOrBrace, LineEnd, Room}
use Rattle.notation.specs.Parsing.{number_of, expected_of, expected_text, expected_words}
use Rattle.notation.proofs.Expecting.{case-of-number, number-some}
use Rattle.lines.specs.declared.Line.{Line}
use Rattle.lines.specs.Lines.{line_room, written, plus, Says}
use Rattle.lines.proofs.Lining.{says-short}

text-short : (e : Expected) → length (expected_text e) ≤ 32
text-short Transactor = omega arith
text-short Addressee = omega arith
text-short Message = omega arith
text-short Value = omega arith
text-short Group = omega arith
text-short WordTo = omega arith
text-short WordText = omega arith
text-short SixteenDigits = omega arith
text-short Kind = omega arith
text-short CommaOrBrace = omega arith
text-short LineEnd = omega arith
text-short Room = omega arith

number-most : (e : Expected) → number_of e ≤ 12
number-most Transactor = omega arith
number-most Addressee = omega arith
number-most Message = omega arith
number-most Value = omega arith
number-most Group = omega arith
number-most WordTo = omega arith
number-most WordText = omega arith
number-most SixteenDigits = omega arith
number-most Kind = omega arith
number-most CommaOrBrace = omega arith
number-most LineEnd = omega arith
number-most Room = omega arith

-- what has the number n is what n stands for; a number that nothing has stands for room
pub case-is : (n : ℕ) (e : Expected) → number_of e ≡ n → e ≡ expected_of n
case-is n e h = sym (case-of-number e) ∙ ap expected_of h

pub case-none : (n : ℕ) → (0 < n → 12 < n) → Room ≡ expected_of n
unfolding expected_of
case-none zero h = refl
case-none (suc n) h = let k : 12 < suc n = h (omega arith) in sym (get_or_past (Room ∷ Transactor ∷ Addressee ∷ Message ∷ Value ∷ Group ∷ WordTo ∷ WordText ∷ SixteenDigits ∷ Kind ∷ CommaOrBrace ∷ LineEnd ∷ []) (suc n) Room (omega arith))

pub words-none : (n : ℕ) (l : Line) → (0 < n → 12 < n) → l.len ≡ 0 → written l ≡ [] → Says l (expected_words n)
unfolding expected_words
words-none zero l h e f = record { is = f; len = e }
words-none (suc n) l h e f = let k : 12 < suc n = h (omega arith) in rw (lt-leb (suc n) 12 k, le-leb 1 (suc n) (omega arith)) (record { is = f; len = e })

pub words-said : (n : ℕ) (l : Line) (e : Expected) (z : List ℕ) → number_of e ≡ n → length l.bytes ≡ line_room → z ≡ [] → written l ≡ plus z (expected_text e) → Says l (expected_words n)
unfolding expected_words
words-said n l e z h s g f =
    let a = number-some e in
    let b = number-most e in
    rw (← h, le-leb 1 (number_of e) a, le-leb (number_of e) 12 b, case-of-number e) (says-short l z (expected_text e) g f (omega (arith, text-short e)) s)
