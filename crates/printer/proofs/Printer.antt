-- The printer's parts: rows, fields, items.
use Prim.Native.Nat.{ℕ, suc, ◌+◌, ◌-◌, ◌*◌, ◌≤◌, ◌<◌}
use mathlib.Core.Bool.{Bool, true, false}
use mathlib.Core.Path.{◌≡◌, refl, sym, ap, ◌∙◌, subst}
use mathlib.Core.List.{List, [], ◌∷◌, ◌++◌}
use native.Mathlib.Nat.{zero-add}
use native.Mathlib.Numerals.{add-one}
use native.Mathlib.Omega.{arith}
use borrow.Author.Tests.{lt-ltb, le-ltb}
use lib.Dec.{ltb}
use lib.ListN.{length, take, drop, get_or, length-append, drop_of_length-le}
use lib.Seq.{drop-cons}
use Rattle.octets.specs.Bytes.{pick, put, part, chunks, Octets}
use Rattle.octets.proofs.Put.{part-def, length_part, octets-part, put-nil, put-append}
use Rattle.lists.proofs.Parts.{right-part}
use Rattle.octets.proofs.Chunks.{chunks-suc, chunks-add}
use Rattle.rules.specs.declared.Step.{Step}
use Rattle.rules.specs.Step.{step_bytes, step_at, unpack_step, pack_step}
use Rattle.rules.specs.Calls.{steps_in, longest, wrong_part}
use Rattle.rules.specs.Internal.Well.{StepOk}
use Rattle.rules.proofs.Keep.Run.{step_ok-unpack}
use Rattle.notation.specs.Notation.{bytes, field_number, item_number, decimal, places, hex, group_text, name_of, template_of, item_text, items_text, row_of, line_text, step_text, text, longest_line}
use Rattle.printer.specs.Internal.Fields.{field_of}
use Rattle.printer.specs.Printing.{wrong_list, length_answer, no_room, print_answer, printed_out}
use Rattle.std.proofs.Common.{Ok, Err, map}
use Rattle.rules.specs.declared.refusals.Refusal.{Refusal}
use Rattle.rules.specs.declared.refusals.Refusal.TheVariants.{WrongPart, WrongRoom}
use Rattle.notation.specs.declared.Field.{Field}
use Rattle.notation.specs.declared.Field.TheVariants.{Transactor, Other, Message, Value}
use Rattle.notation.specs.declared.Item.{Item}
use Rattle.lines.specs.declared.Line.{Line}
use Rattle.lines.specs.Lines.{line_room, written, plus, Says}
use Rattle.lines.proofs.Lining.{plus-plus, plus-empty, said-length, written-empty}
use Rattle.rules.proofs.Pack.Steps.{pack-unpack}
use Rattle.notation.proofs.Rows.{row-known}
use Rattle.notation.proofs.Sizes.{step-most, chunks-most}

-- ---- items

pub item-field : (p : Step) (f : Field) → item_text p (field_number f) ≡ decimal places (field_of p (field_number f))
unfolding item_text field_of
item-field p Transactor = refl
item-field p Other = refl
item-field p Message = refl
item-field p Value = refl

pub item-words : (p : Step) → (item_text p 5 ≡ group_text p.message) × (item_text p 6 ≡ bytes "to") × (item_text p 7 ≡ bytes "text") × (item_text p 8 ≡ hex (pack_step p))
unfolding item_text
item-words p = (refl, refl, refl, refl)

-- ---- the loop over a row's items

module _ (p : Step) (is : List Item) (i : ℕ) (a b : List ℕ) (inv : plus b (items_text p (map item_number (drop i is))) ≡ a) where
  pub items-all : b ≡ plus b [] → length is ≤ i → b ≡ a
  unfolding items_text
  items-all z h =
      let e : drop i is ≡ [] = drop_of_length-le is {i = i} h in
      z ∙ (rw e at inv)

  pub items_more : i < length is → (x d : Item) → x ≡ get_or is i d → (c e : List ℕ) → c ≡ plus b (32 ∷ []) → e ≡ plus c (item_text p (item_number x))
      → plus e (items_text p (map item_number (drop (i + 1) is))) ≡ a
  unfolding items_text
  items_more h x d q c e f g =
      let t : List ℕ = items_text p (map item_number (drop (suc i) is)) in
      let s : plus b (32 ∷ (item_text p (item_number x) ++ t)) ≡ a = rw (drop-cons is i d h, ← q) at inv in
      rw (add-one, g, f, plus-plus (plus b (32 ∷ [])) (item_text p (item_number x)) t, plus-plus b (32 ∷ []) (item_text p (item_number x) ++ t)) s

-- ---- a line

pub row_below : (p : Step) (row : ℕ) → row ≡ row_of p → row < 14
row_below p row e = omega (arith, row-known p)

-- the step's bytes are its packed form
pub bytes_of : (l : List ℕ) (at : ℕ) (p : Step) → Octets l → at + step_bytes ≤ length l → p ≡ unpack_step (part at step_bytes l) → take (at + 8 - at) (drop at l) ≡ pack_step p
bytes_of l at p o h e =
    let n : at + 8 - at ≡ step_bytes = omega arith in
    ap (λ (k : ℕ). take k (drop at l)) n
    ∙ sym (part-def at step_bytes l)
    ∙ sym (pack-unpack (part at step_bytes l) (length_part at step_bytes l h) (octets-part at step_bytes l o))
    ∙ ap pack_step (sym e)

module _ (l : List ℕ) (at : ℕ) (o : Octets l) (h : at + step_bytes ≤ length l) (p : Step) (e : p ≡ unpack_step (part at step_bytes l)) where
  line-short : length (step_text p) ≤ longest_line
  line-short = step-most p (subst StepOk (sym e) (step_ok-unpack (part at step_bytes l) (octets-part at step_bytes l o)))

  pub line-says : (row : ℕ) → row ≡ row_of p → (x n i : List ℕ) (r : Line) → x ≡ [] → n ≡ plus x (name_of row) → i ≡ plus n (items_text p (template_of row)) → written r ≡ plus i (10 ∷ [])
      → length r.bytes ≡ line_room → Says r (step_text (unpack_step (part at step_bytes l)))
  unfolding step_text line_text
  line-says row f x n i r z a b c s =
      let w : written r ≡ plus [] (step_text p) =
      c ∙ rw (b, a, z, f, plus-plus [] (name_of (row_of p)) (items_text p (template_of (row_of p))), plus-plus [] (name_of (row_of p) ++ items_text p (template_of (row_of p))) (10 ∷ [])) in
      let v : written r ≡ step_text p = w ∙ plus-empty (step_text p) (omega (arith, line-short)) in
      subst (λ (q : Step). Says r (step_text q)) e (record { is = v; len = said-length r (step_text p) s v (omega (arith, line-short)) })

pub step-none : (bs l : List ℕ) (i : ℕ) → steps_in l ≤ i → Says (record { bytes = bs; len = 0 }) (pick (ltb i (steps_in l)) (step_text (step_at l i)) [])
step-none bs l i h =
    let e : ltb i (steps_in l) ≡ false = le-ltb i (steps_in l) h in
    rw e (record { is = written-empty bs; len = refl })

pub step-says : (l : List ℕ) (i : ℕ) (r : Line) → i < steps_in l → Says r (step_text (unpack_step (part (8 * i) step_bytes l))) → Says r (pick (ltb i (steps_in l)) (step_text (step_at l i)) [])
unfolding step_at
step-says l i r h s =
    let e : ltb i (steps_in l) ≡ true = lt-ltb i (steps_in l) h in
    rw e s

-- ---- the lines one after the other

unfoldable pub lines_to : List ℕ → ℕ → List ℕ
lines_to l n = chunks n (λ i. step_text (step_at l i))

lines_to-suc : (l : List ℕ) (i : ℕ) → lines_to l (i + 1) ≡ lines_to l i ++ step_text (step_at l i)
unfolding lines_to
lines_to-suc l i = rw add-one (chunks-suc i (λ i. step_text (step_at l i)))

pub total-none : (l : List ℕ) → 0 ≡ length (lines_to l 0)
unfolding lines_to chunks
total-none l = refl

pub total-more : (l : List ℕ) (n i : ℕ) (r : Line) → n ≡ length (lines_to l i) → Says r (step_text (unpack_step (part (8 * i) step_bytes l))) → n + r.len ≡ length (lines_to l (i + 1))
unfolding step_at
total-more l n i r e s = omega (arith, s.len, ap length (lines_to-suc l i), length-append (lines_to l i) (step_text (step_at l i)))

pub total-all : (l : List ℕ) (n i : ℕ) → n ≡ length (lines_to l i) → i ≡ steps_in l → n ≡ length (text l)
unfolding lines_to text
total-all l n i e f = e ∙ ap (λ (k : ℕ). length (chunks k (λ i. step_text (step_at l i)))) f

module _ (l : List ℕ) (o : Octets l) where
  ok : (i : ℕ) → StepOk (step_at l i)
  unfolding step_at
  ok i = step_ok-unpack (part (step_bytes * i) step_bytes l) (octets-part (step_bytes * i) step_bytes l o)

  pub lines-short : (i : ℕ) → length (lines_to l i) ≤ longest_line * i
  unfolding lines_to
  lines-short i = chunks-most (step_at l) ok i

  pub line-len : (r : Line) (i : ℕ) → Says r (step_text (unpack_step (part (8 * i) step_bytes l))) → r.len ≤ longest_line
  unfolding step_at
  line-len r i s = omega (arith, s.len, step-most (step_at l i) (ok i))

-- a list that is not refused is short
pub right-list : (l : List ℕ) → wrong_list l ≡ false → length l ≤ longest
unfolding wrong_list
right-list l e = omega (arith, (right-part l 0 (length l) e).short)

-- ---- the text written line by line

pub said-count : (r : Line) (x : List ℕ) → Says r x → r.len ≡ length (written r)
said-count r x s = s.len ∙ ap length (sym s.is)

pub put-start : (l out : List ℕ) → out ≡ put 0 (lines_to l 0) out
unfolding lines_to chunks
put-start l out = put-nil 0 out

lines-grow : (l : List ℕ) (i n : ℕ) → i ≤ n → length (lines_to l i) ≤ length (lines_to l n)
unfolding lines_to
lines-grow l i n h =
    let f : ℕ → List ℕ = λ i. step_text (step_at l i) in
    let e : i + (n - i) ≡ n = omega arith in
    let g : length (chunks n f) ≡ length (chunks i f) + length (chunks (n - i) (λ j. f (i + j))) =
    ap (λ (k : ℕ). length (chunks k f)) (sym e) ∙ ap length (chunks-add i (n - i) f) ∙ length-append (chunks i f) (chunks (n - i) (λ j. f (i + j))) in
    omega arith

module _ (l out : List ℕ) (i : ℕ) (r : Line) (s : Says r (step_text (unpack_step (part (8 * i) step_bytes l)))) (h : i < steps_in l) (room : length (text l) ≤ length out) where
  room-line : length (lines_to l i) + length (step_text (unpack_step (part (8 * i) step_bytes l))) ≤ length out
  unfolding step_at text lines_to
  room-line = omega (arith, lines-grow l (i + 1) (steps_in l) (omega arith), ap length (lines_to-suc l i), length-append (lines_to l i) (step_text (step_at l i)))

  pub line-room : (at : ℕ) → at ≡ length (lines_to l i) → at + length (written r) ≤ length out
  line-room at e = omega (arith, room-line, ap length s.is)

  pub put-line : (at : ℕ) (out1 out2 : List ℕ) → at ≡ length (lines_to l i) → out1 ≡ put 0 (lines_to l i) out → out2 ≡ put at (written r) out1 → out2 ≡ put 0 (lines_to l (i + 1)) out
  unfolding step_at
  put-line at out1 out2 e f g =
      let x : List ℕ = step_text (step_at l i) in
      let k : written r ≡ x = s.is in
      g ∙ rw (k, e, f, lines_to-suc) (rw zero-add at (put-append 0 (lines_to l i) x out (omega (arith, room-line))))

pub put_all : (l out out1 : List ℕ) (i : ℕ) → out1 ≡ put 0 (lines_to l i) out → i ≡ steps_in l → out1 ≡ put 0 (text l) out
unfolding lines_to text
put_all l out out1 i e f = e ∙ ap (λ (k : ℕ). put 0 (chunks k (λ i. step_text (step_at l i))) out) f

-- ---- answers

module _ (l : List ℕ) where
  pub length-wrong : wrong_part l 0 (length l) ≡ true → length_answer l ≡ Err WrongPart
  unfolding length_answer wrong_list
  length-wrong w = rw w

  module _ (w : wrong_part l 0 (length l) ≡ false) where
    pub right : wrong_list l ≡ false
    unfolding wrong_list
    right = w

    pub length-right : (n : ℕ) → n ≡ length (text l) → length_answer l ≡ Ok n
    unfolding length_answer wrong_list
    length-right n f = rw (w, f)

-- the length is asked first
answered-wrong : (l : List ℕ) (r : Refusal) → length_answer l ≡ Err r → (wrong_list l ≡ true) × (r ≡ WrongPart)
unfolding length_answer
answered-wrong l r = go (wrong_list l)
  where
    go : (t : Bool) → pick t (Err WrongPart) (Ok (length (text l))) ≡ Err r → (t ≡ true) × (r ≡ WrongPart)
    go true e = (refl, cc)
    go false e = absurd (cc)

pub answered-right : (l : List ℕ) (n : ℕ) → length_answer l ≡ Ok n → (wrong_list l ≡ false) × (n ≡ length (text l))
unfolding length_answer
answered-right l n = go (wrong_list l)
  where
    go : (t : Bool) → pick t (Err WrongPart) (Ok (length (text l))) ≡ Ok n → (t ≡ false) × (n ≡ length (text l))
    go true e = absurd (cc)
    go false e = (refl, cc)

module _ (l out : List ℕ) where
  pub print-wrong : (r : Refusal) → length_answer l ≡ Err r → (Err r ≡ print_answer l out) × (out ≡ printed_out l out)
  unfolding print_answer printed_out
  print-wrong r e = let h = answered-wrong l r e in rw (h.0, h.1) (refl, refl)

  module _ (n : ℕ) (e : length_answer l ≡ Ok n) where
    pub print-full : length out < n → (Err WrongRoom ≡ print_answer l out) × (out ≡ printed_out l out)
    unfolding print_answer printed_out no_room
    print-full k =
        let h = answered-right l n e in
        let m : ltb (length out) (length (text l)) ≡ true = lt-ltb (length out) (length (text l)) (omega arith) in
        rw (h.0, m) (refl, refl)

    pub print-done : (after : List ℕ) → n ≤ length out → after ≡ put 0 (text l) out → (Ok n ≡ print_answer l out) × (after ≡ printed_out l out)
    unfolding print_answer printed_out no_room
    print-done after k g =
        let h = answered-right l n e in
        let m : ltb (length out) (length (text l)) ≡ false = le-ltb (length out) (length (text l)) (omega arith) in
        rw (h.0, m) (ap Ok h.1, g)
