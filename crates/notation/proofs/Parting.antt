-- Places over which no word runs.
use Prim.Native.Nat.{ℕ}
use mathlib.Core.Bool.{Bool, true, false, not}
use mathlib.Core.Path.{◌≡◌, refl, ap, ◌∙◌}
use mathlib.Core.List.{List, [], ◌∷◌, ◌++◌}
use borrow.Author.Tests.{not-true}
use lib.ListN.{get_or}
use Rattle.octets.specs.Bytes.{◌and◌}
use Rattle.octets.proofs.Tests.{and-false}
use Rattle.octets.proofs.Zero.{both}
use Rattle.notation.specs.Reading.{blank, in_word, all}
use Rattle.notation.specs.Grammar.{Blanks}
use Rattle.notation.specs.Faults.{last_or, parted}
use Rattle.notation.proofs.Words.{stops}
use Rattle.notation.proofs.Accepted.{blank-outside}

-- ---- bytes of no word

pub space-out : in_word 32 ≡ false
unfolding in_word blank
space-out = refl

pub comma-out : in_word 44 ≡ false
unfolding in_word blank
comma-out = refl

pub open-out : in_word 123 ≡ false
unfolding in_word blank
open-out = refl

pub close-out : in_word 125 ≡ false
unfolding in_word blank
close-out = refl

-- ---- the last byte

pub last-append : (x : ℕ) (a b : List ℕ) → last_or x (a ++ b) ≡ last_or (last_or x a) b
unfolding last_or
last-append x [] b = refl
last-append x (c ∷ a) b = last-append c a b

pub last-blanks : (x : ℕ) (b : List ℕ) → in_word x ≡ false → Blanks b → in_word (last_or x b) ≡ false
unfolding last_or all
last-blanks x [] e a = e
last-blanks x (c ∷ b) e a = let h = both (blank c) (all blank b) a in last-blanks c b (blank-outside c h.0) h.1

-- after a byte of no word and blanks
pub last_out : (u : List ℕ) (c : ℕ) (b : List ℕ) → in_word c ≡ false → Blanks b → in_word (last_or 32 (u ++ (c ∷ b))) ≡ false
unfolding last_or
last_out u c b e a = ap in_word (last-append 32 u (c ∷ b)) ∙ last-blanks c b e a

-- ---- no word runs on

pub parted-last : (u v : List ℕ) → in_word (last_or 32 u) ≡ false → parted u v ≡ true
unfolding parted
parted-last u v e = ap (λ (t : Bool). not (t and in_word (get_or v 0 32))) e

pub parted-head : (u : List ℕ) (c : ℕ) (v : List ℕ) → in_word c ≡ false → parted u (c ∷ v) ≡ true
unfolding parted
parted-head u c v e = ap (λ (t : Bool). not (in_word (last_or 32 u) and t)) e ∙ ap not (and-false (in_word (last_or 32 u)))

pub parted-stops : (u v : List ℕ) → stops in_word v ≡ true → parted u v ≡ true
unfolding parted stops
parted-stops u [] e = ap (λ (t : Bool). not (in_word (last_or 32 u) and t)) space-out ∙ ap not (and-false (in_word (last_or 32 u)))
parted-stops u (c ∷ v) e = parted-head u c v (not-true (in_word c) e)
