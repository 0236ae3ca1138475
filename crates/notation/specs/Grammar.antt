-- What may be written for a step, and for a list, as a relation: the reader takes all of it and nothing else (proofs/Accepted,
-- proofs/Sound).
use Rattle.std.specs.Prelude.{ℕ, ◌≤◌, ◌<◌, true, ◌≡◌, List, [], ◌∷◌, ◌++◌, length}
use Rattle.rules.specs.declared.Step.{Step}
use Rattle.rules.specs.Step.{unpack_step, pack_step}
use Rattle.notation.specs.Notation.{bytes, message_field, value_field, group_field, word_to, word_text, whole_step, name_of, template_of}
use Rattle.notation.specs.Reading.{blank, all, is_digit, is_hex, of_decimal, of_hex, most_of, with_field, with_member, empty_step, said}

-- spaces, tabs and CRs, as many as one likes
abbrev pub Blanks : List ℕ → Type 0
Blanks b = all blank b ≡ true

-- decimal digits, one at least, that give n; zeros may stand in front
pub record Digits (w : List ℕ) (n : ℕ) : Type 0 where
  pub only : all is_digit w ≡ true
  pub some : 0 < length w
  pub give : of_decimal 0 w ≡ n

-- after the takes of g: takes with a comma before each, and the closing brace; h is g with these takes. Blanks may stand around a comma and
-- before the brace; a take that is there already changes nothing
pub data More : ℕ → List ℕ → ℕ → Type 0 where
  close : (g : ℕ) (s b : List ℕ) → s ≡ b ++ (125 ∷ []) → Blanks b → More g s g
  comma : (g h t : ℕ) (s b c w rest : List ℕ) → s ≡ b ++ (44 ∷ (c ++ (w ++ rest))) → Blanks b → Blanks c → Digits w t → t ≤ 15 → More (with_member g t) rest h → More g s h

-- a group (document 01: volume): {} or takes in braces
pub data Group : List ℕ → ℕ → Type 0 where
  empty : (s b : List ℕ) → s ≡ 123 ∷ (b ++ (125 ∷ [])) → Blanks b → Group s 0
  transactors : (h t : ℕ) (s b w rest : List ℕ) → s ≡ 123 ∷ (b ++ (w ++ rest)) → Blanks b → Digits w t → t ≤ 15 → More (with_member 0 t) rest h → Group s h

-- w as item c of the step q makes r of it
pub data Item (q : Step) : ℕ → List ℕ → Step → Type 0 where
  field : (c n : ℕ) (w : List ℕ) (r : Step) → 0 < c → c ≤ value_field → Digits w n → n ≤ most_of c → r ≡ with_field c n q → Item q c w r
  group : (g : ℕ) (w : List ℕ) (r : Step) → Group w g → r ≡ with_field message_field g q → Item q group_field w r
  to : (w : List ℕ) → w ≡ bytes "to" → Item q word_to w q
  text : (w : List ℕ) → w ≡ bytes "text" → Item q word_text w q
  whole : (w : List ℕ) (r : Step) → length w ≡ 16 → all is_hex w ≡ true → r ≡ unpack_step (of_hex w) → Item q whole_step w r

-- what stands before w: a blank at least, but none is needed before a brace
pub data Apart : List ℕ → List ℕ → Type 0 where
  brace : (b w : List ℕ) → Apart b (123 ∷ w)
  blanks : (b w : List ℕ) → 0 < length b → Apart b w

-- the items of a template, one after the other, each with blanks before it
pub data Items : Step → List ℕ → List ℕ → Step → Type 0 where
  none : (q : Step) → Items q [] [] q
  item : (q r p : Step) (c : ℕ) (cs s b w rest : List ℕ) → s ≡ b ++ (w ++ rest) → Blanks b → Apart b w → Item q c w r → Items r cs rest p → Items q (c ∷ cs) s p

-- a line without comment: a name and its items, with blanks before and after
pub data Says : List ℕ → Step → Type 0 where
  line : (k : ℕ) (s b t e : List ℕ) (p : Step) → k < 14 → s ≡ b ++ (name_of k ++ (t ++ e)) → Blanks b → Items (empty_step k) (template_of k) t p → Blanks e → Says s p

-- lines, each of which says a step or, without its comment, nothing
pub data Lines : List (List ℕ) → List ℕ → Type 0 where
  none : Lines [] []
  skip : (l : List ℕ) (ls : List (List ℕ)) (m : List ℕ) → Blanks (said l) → Lines ls m → Lines (l ∷ ls) m
  step : (l : List ℕ) (ls : List (List ℕ)) (p : Step) (m n : List ℕ) → Says (said l) p → Lines ls m → n ≡ pack_step p ++ m → Lines (l ∷ ls) n
