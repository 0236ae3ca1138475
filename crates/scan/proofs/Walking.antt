-- The loops of the reader: what is left to read from place i on gives the same answer.
use Prim.Native.Nat.{ℕ, ◌+◌, ◌-◌, ◌*◌, ◌≤◌, ◌<◌}
use mathlib.Core.Bool.{Bool, true, false, not}
use mathlib.Core.Path.{◌≡◌, refl, sym}
use mathlib.Core.List.{List, [], ◌∷◌}
use native.Mathlib.Numerals.{add-one}
use native.Mathlib.Omega.{arith}
use borrow.Author.Tests.{lt-ltb, le-ltb, le-leb, lt-leb, leb-true, leb-false}
use lib.Dec.{leb}
use lib.ListN.{length, take, drop, get_or, length-take, length-drop, drop_of_length-le}
use lib.Seq.{drop-cons}
use Rattle.octets.specs.Bytes.{◌and◌}
use Rattle.octets.proofs.Tests.{and-false, never}
use Rattle.notation.specs.Reading.{blank, in_word, run, next, word_at, all, is_digit, of_decimal, is_number}
use Rattle.notation.proofs.Within.{run-most}
use Rattle.std.proofs.Common.{◌&&◌}
use Rattle.std.specs.Char.{is_ascii_digit}
use Rattle.octets.proofs.Chunks.{sides}
use mathlib.Core.Logic.{⊎_elim}
use Rattle.std.specs.List.{list_all}

-- ---- runs and tests of all, as the library says them

pub all-passed : (f : ℕ → Bool) (l : List ℕ) → all f l ≡ list_all f l
unfolding all
all-passed f [] = refl
all-passed f (c ∷ l) = go (f c) (all-passed f l)
  where
    go : (t : Bool) → all f l ≡ list_all f l → t and all f l ≡ t && list_all f l
    go true e = e
    go false e = refl

-- a loop from place to place that ends where f does not hold: what is left to run gives the same end
pub run-on : (f : ℕ → Bool) (s : List ℕ) (i : ℕ) → i < length s → f (get_or s i 0) ≡ true → i + run f (drop i s) ≡ i + 1 + run f (drop (i + 1) s)
unfolding run
run-on f s i h e = rw (drop-cons s i 0 h, add-one, e) (omega arith)

pub run-off : (f : ℕ → Bool) (s : List ℕ) (i : ℕ) → i < length s → f (get_or s i 0) ≡ false → i + run f (drop i s) ≡ i
unfolding run
run-off f s i h e = rw (drop-cons s i 0 h, e) (omega arith)

pub run-end : (f : ℕ → Bool) (s : List ℕ) (i : ℕ) → length s ≤ i → i + run f (drop i s) ≡ i
unfolding run
run-end f s i h = rw (drop_of_length-le s {i = i} h) (omega arith)

pub next-is : (s : List ℕ) (at : ℕ) → next s at ≡ at + run blank (drop at s)
unfolding next
next-is s at = refl

-- ---- numbers

-- whether the digits l, after those that gave n, make a number of at most most
unfoldable pub number_from : ℕ → ℕ → List ℕ → Bool
number_from most n l = all is_digit l and leb (of_decimal n l) most

-- more digits make no smaller number
of_decimal-grows : (n : ℕ) (l : List ℕ) → n ≤ of_decimal n l
unfolding of_decimal
of_decimal-grows n [] = omega arith
of_decimal-grows n (c ∷ l) = omega (arith, of_decimal-grows (n * 10 + (c - 48)) l)

pub digit-bounds : (c : ℕ) → is_ascii_digit c ≡ true → (48 ≤ c) × (c ≤ 57)
digit-bounds c e = ⊎_elim
    (λ (h : c < 48). never (sym (rw (lt-leb 48 c h) at e)))
    (λ (h : 48 ≤ c). (h, leb-true c 57 (rw (le-leb 48 c h) at e)))
    (sides c 48)

module _ (most : ℕ) (w : List ℕ) (i n : ℕ) where
  module _ (h : i < length w) where
    pub number_more : 48 ≤ get_or w i 0 → get_or w i 0 ≤ 57 → number_from most n (drop i w) ≡ number_from most (n * 10 + (get_or w i 0 - 48)) (drop (i + 1) w)
    unfolding number_from all is_digit of_decimal
    number_more a b = rw (drop-cons w i 0 h, add-one, le-leb 48 (get_or w i 0) a, le-leb (get_or w i 0) 57 b)

    pub decimal_more : of_decimal n (drop i w) ≡ of_decimal (n * 10 + (get_or w i 0 - 48)) (drop (i + 1) w)
    unfolding of_decimal
    decimal_more = rw (drop-cons w i 0 h, add-one)

    pub number-low : get_or w i 0 < 48 → number_from most n (drop i w) ≡ false
    unfolding number_from all is_digit
    number-low a = rw (drop-cons w i 0 h, lt-leb 48 (get_or w i 0) a)

    pub number-high : 57 < get_or w i 0 → number_from most n (drop i w) ≡ false
    unfolding number_from all is_digit
    number-high b = rw (drop-cons w i 0 h, lt-leb (get_or w i 0) 57 b, and-false)

  pub number-off : i < length w → is_ascii_digit (get_or w i 0) ≡ false → number_from most n (drop i w) ≡ false
  number-off h e = ⊎_elim
      (λ (b : get_or w i 0 < 48). number-low h b)
      (λ (b : 48 ≤ get_or w i 0). number-high h (leb-false (get_or w i 0) 57 (rw (le-leb 48 (get_or w i 0) b) at e)))
      (sides (get_or w i 0) 48)

  pub number-over : most < n → number_from most n (drop i w) ≡ false
  unfolding number_from
  number-over b = let g = of_decimal-grows n (drop i w) in rw (lt-leb (of_decimal n (drop i w)) most (omega arith), and-false)

  pub number-end : length w ≤ i → n ≤ most → (number_from most n (drop i w) ≡ true) × (of_decimal n (drop i w) ≡ n)
  unfolding number_from all of_decimal
  number-end h b = rw (drop_of_length-le w {i = i} h) (le-leb n most b, refl)

module _ (most : ℕ) (w : List ℕ) where
  pub number_some : 0 < length w → is_number most w ≡ number_from most 0 w
  unfolding number_from is_number
  number_some h = rw (lt-ltb 0 (length w) h)

  pub number_none : length w ≤ 0 → is_number most w ≡ false
  unfolding is_number
  number_none h = rw (le-ltb 0 (length w) h)

-- ---- the word as a part of the line

module _ (s : List ℕ) (at end : ℕ) (h : at ≤ length s) (e : end ≡ at + run in_word (drop at s)) where
  pub word-inside : end ≤ length s
  word-inside = omega (arith, run-most in_word (drop at s), length-drop at s)

  pub word-part : take (end - at) (drop at s) ≡ word_at s at
  unfolding word_at
  word-part = let z : end - at ≡ run in_word (drop at s) = omega arith in rw z

  pub word-length : end ≡ at + length (word_at s at)
  unfolding word_at
  word-length = omega (arith, length-take (run in_word (drop at s)) (drop at s), run-most in_word (drop at s))
