-- How long a text is: at most 45 bytes a step, which the volume of all sixteen takes has, and 7 at least.
use Prim.Native.Nat.{ℕ, zero, suc, ◌+◌, ◌*◌, ◌≤◌, ◌<◌}
use mathlib.Core.Bool.{Bool, true, false}
use mathlib.Core.Path.{◌≡◌, refl}
use mathlib.Core.Logic.{⊎_elim}
use mathlib.Core.List.{List, [], ◌∷◌, ◌++◌}
use native.Mathlib.Omega.{arith}
use borrow.Author.Tests.{leb-true, lt-ltb, le-ltb}
use lib.Dec.{ltb, leb}
use lib.ListN.{length, drop, get_or, length-append, length-drop}
use Rattle.octets.specs.Bytes.{pick, every, chunks}
use Rattle.octets.specs.Numbers.{bound}
use Rattle.octets.proofs.Chunks.{sides}
use Rattle.octets.proofs.Zero.{both, every-at}
use Rattle.rules.specs.declared.Step.{Step}
use Rattle.rules.specs.Step.{step_at, pack_step}
use Rattle.rules.specs.Calls.{steps_in}
use Rattle.rules.specs.Refusals.{named, group_bits, malformed}
use Rattle.rules.specs.Internal.Well.{StepOk}
use Rattle.notation.specs.Notation.{decimal, places, members, group_text, name_of, template_of, item_text, items_text, row_of, line_text, step_text, text, longest_line, shortest_line, Whole}
use Rattle.notation.specs.Reading.{all}
use Rattle.notation.proofs.Numerals.{decimal-some, length-decimal, length-hex}
use Rattle.rules.proofs.Pack.Steps.{length-pack_step}
use Rattle.notation.proofs.Items.{Item, is_transactor, is_other, is_message, is_value, is_group, is_word_to, is_word_text, is_whole, is_item, item-view}
use Rattle.notation.proofs.Rows.{row, row-known}
use Rattle.notation.proofs.RoundTrip.{step_ok}

-- ---- volumes

-- the most that n takes from t on need, with a comma each
width : ℕ → ℕ → ℕ
width zero t = 0
width (suc n) t = pick (ltb t 10) 2 3 + width n (suc t)

transactor-width : (t : ℕ) → t < 16 → length (decimal places t) + 1 ≤ pick (ltb t 10) 2 3
transactor-width t h = ⊎_elim
    (λ (l : t < 10). rw (lt-ltb t 10 l) (omega (arith, length-decimal places 0 t l)))
    (λ (l : 10 ≤ t). rw (le-ltb t 10 l) (omega (arith, length-decimal places 1 t (omega arith))))
    (sides t 10)

members-width : (n t g : ℕ) → t + n ≤ 16 → length (members n t g) ≤ width n t
unfolding members width
members-width zero t g h = omega arith
members-width (suc n) t g h =
    omega (arith, length-append (pick (named g t) (44 ∷ decimal places t) []) (members n (suc t) g), members-width n (suc t) g (omega arith), go (named g t))
  where
    go : (b : Bool) → length (pick b (44 ∷ decimal places t) []) ≤ pick (ltb t 10) 2 3
    go true = omega (arith, transactor-width t (omega arith))
    go false = omega (arith, transactor-width t (omega arith))

all-width : width group_bits 0 ≡ 38
unfolding width
all-width = refl

pub members-most : (g : ℕ) → length (members group_bits 0 g) ≤ 38
members-most g = omega (arith, members-width group_bits 0 g (omega arith), all-width)

group-most : (g : ℕ) → length (group_text g) ≤ 39
unfolding group_text
group-most g = omega (arith, length-append (drop 1 (members group_bits 0 g)) (125 ∷ []), length-drop 1 (members group_bits 0 g), members-width group_bits 0 g (omega arith), all-width)

group-least : (g : ℕ) → 2 ≤ length (group_text g)
unfolding group_text
group-least g = omega (arith, length-append (drop 1 (members group_bits 0 g)) (125 ∷ []))

-- ---- items

most : ℕ → ℕ
most c = get_or (0 ∷ 2 ∷ 2 ∷ 5 ∷ 10 ∷ 39 ∷ 2 ∷ 4 ∷ 16 ∷ []) c 0

least : ℕ → ℕ
least c = get_or (0 ∷ 1 ∷ 1 ∷ 1 ∷ 1 ∷ 2 ∷ 2 ∷ 4 ∷ 16 ∷ []) c 0

module _ (p : Step) (ok : StepOk p) where
  item-most : (c : ℕ) → Item c → length (item_text p c) ≤ most c
  unfolding most item_text bound
  item-most c is_transactor = length-decimal places 1 p.transactor (omega (arith, ok.transactor))
  item-most c is_other = length-decimal places 1 p.other (omega (arith, ok.other))
  item-most c is_message = length-decimal places 4 p.message (omega (arith, ok.message))
  item-most c is_value = length-decimal places 9 p.value (omega (arith, ok.value))
  item-most c is_group = group-most p.message
  item-most c is_word_to = omega arith
  item-most c is_word_text = omega arith
  item-most c is_whole = omega (arith, length-hex (pack_step p), length-pack_step p)

  item-least : (c : ℕ) → Item c → least c ≤ length (item_text p c)
  unfolding least item_text
  item-least c is_transactor = decimal-some 9 p.transactor
  item-least c is_other = decimal-some 9 p.other
  item-least c is_message = decimal-some 9 p.message
  item-least c is_value = decimal-some 9 p.value
  item-least c is_group = group-least p.message
  item-least c is_word_to = omega arith
  item-least c is_word_text = omega arith
  item-least c is_whole = omega (arith, length-hex (pack_step p), length-pack_step p)

-- with a space before each
total : (ℕ → ℕ) → List ℕ → ℕ
total f [] = 0
total f (c ∷ cs) = suc (f c) + total f cs

module _ (p : Step) (ok : StepOk p) where
  items-most : (cs : List ℕ) → all is_item cs ≡ true → length (items_text p cs) ≤ total most cs
  unfolding total items_text all
  items-most [] a = omega arith
  items-most (c ∷ cs) a =
      let b = both (is_item c) (all is_item cs) a in
      omega (arith, length-append (item_text p c) (items_text p cs), item-most p ok c (item-view c b.0), items-most cs b.1)

  items-least : (cs : List ℕ) → all is_item cs ≡ true → total least cs ≤ length (items_text p cs)
  unfolding total items_text all
  items-least [] a = omega arith
  items-least (c ∷ cs) a =
      let b = both (is_item c) (all is_item cs) a in
      omega (arith, length-append (item_text p c) (items_text p cs), item-least p ok c (item-view c b.0), items-least cs b.1)

-- ---- lines

rows-most : every 14 (λ k. leb (length (name_of k) + total most (template_of k)) 44) ≡ true
unfolding every total most name_of template_of
rows-most = refl

rows-least : every 14 (λ k. leb 6 (length (name_of k) + total least (template_of k))) ≡ true
unfolding every total least name_of template_of
rows-least = refl

module _ (p : Step) (ok : StepOk p) where
  pub step-most : length (step_text p) ≤ longest_line
  unfolding step_text line_text
  step-most =
      let k : ℕ = row_of p in
      let a = leb-true (length (name_of k) + total most (template_of k)) 44 (every-at (λ k. leb (length (name_of k) + total most (template_of k)) 44) 14 k rows-most (row-known p)) in
      omega (arith, length-append (name_of k ++ items_text p (template_of k)) (10 ∷ []), length-append (name_of k) (items_text p (template_of k)), items-most p ok (template_of k) (row k (row-known p)).fields)

  pub step-least : shortest_line ≤ length (step_text p)
  unfolding step_text line_text
  step-least =
      let k : ℕ = row_of p in
      let a = leb-true 6 (length (name_of k) + total least (template_of k)) (every-at (λ k. leb 6 (length (name_of k) + total least (template_of k))) 14 k rows-least (row-known p)) in
      omega (arith, length-append (name_of k ++ items_text p (template_of k)) (10 ∷ []), length-append (name_of k) (items_text p (template_of k)), items-least p ok (template_of k) (row k (row-known p)).fields)

-- ---- texts

module _ (f : ℕ → Step) (ok : (i : ℕ) → StepOk (f i)) where
  pub chunks-most : (n : ℕ) → length (chunks n (λ i. step_text (f i))) ≤ longest_line * n
  unfolding chunks
  chunks-most zero = omega arith
  chunks-most (suc n) = omega (arith, length-append (chunks n (λ i. step_text (f i))) (step_text (f n)), chunks-most n, step-most (f n) (ok n))

  chunks-least : (n : ℕ) → shortest_line * n ≤ length (chunks n (λ i. step_text (f i)))
  unfolding chunks
  chunks-least zero = omega arith
  chunks-least (suc n) = omega (arith, length-append (chunks n (λ i. step_text (f i))) (step_text (f n)), chunks-least n, step-least (f n) (ok n))

module _ (l : List ℕ) (w : Whole l) where
  -- A caller who has room for 45 bytes a step has room for the text.
  pub text-most : length (text l) ≤ longest_line * steps_in l
  unfolding text
  text-most = chunks-most (step_at l) (step_ok l w) (steps_in l)

  pub text-least : shortest_line * steps_in l ≤ length (text l)
  unfolding text
  text-least = chunks-least (step_at l) (step_ok l w) (steps_in l)

-- Both are attained: sign {0,1,2,3,4,5,6,7,8,9,10,11,12,13,14,15}, and read 0.
pub longest-attained : length (step_text (record { kind = 12; transactor = 0; other = 0; zero = 0; message = 65535; value = 0 })) ≡ longest_line
unfolding step_text line_text row_of name_of template_of items_text item_text group_text members decimal malformed named
longest-attained = refl

pub shortest-attained : length (step_text (record { kind = 5; transactor = 0; other = 0; zero = 0; message = 0; value = 0 })) ≡ shortest_line
unfolding step_text line_text row_of name_of template_of items_text item_text decimal malformed
shortest-attained = refl
