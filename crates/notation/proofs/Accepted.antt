-- The reader accepts all that the grammar lets write for a step.
use Prim.Native.Nat.{ℕ, zero, suc, ◌+◌, ◌≤◌, ◌<◌}
use mathlib.Core.Bool.{true, false}
use mathlib.Core.Path.{◌≡◌, refl, sym, ap, ◌∙◌, subst}
use mathlib.Core.List.{List, [], ◌∷◌, ◌++◌, append_assoc, append-nil}
use native.Mathlib.Nat.{add-zero}
use native.Mathlib.Omega.{arith}
use borrow.Author.Tests.{lt-ltb, le-ltb, le-leb, ne_eqb}
use lib.Dec.{eqb, leb}
use lib.ListN.{length, drop, get_or, length-append, length-drop}
use Rattle.octets.proofs.Zero.{both}
use Rattle.marks.specs.Incarnation.{same_list}
use Rattle.rules.specs.declared.Step.{Step}
use Rattle.notation.specs.Notation.{message_field, group_field, name_of, template_of}
use Rattle.notation.specs.Reading.{Reader, blank, in_word, all, next, word_at, is_digit, is_hex, is_number, most_of, fits, with_field, with_item, with_member, nothing, reached, word_item, member_at, comma_next, one_more, more_members, closed, members_at, group_at, item as item_of, items, ended, empty_step, line_at}
use Rattle.notation.specs.Grammar.{Blanks, Digits, More, close, comma, Group, empty, transactors, Item, field, group, to, text, whole, brace, blanks, Items, none, item, Says, line}
use Rattle.notation.proofs.Words.{all_weaker, stops, past, past-byte, byte-here, word-here, run-append}
use Rattle.notation.proofs.Groups.{digit-word, stops-word, idle, not-brace}
use Rattle.notation.proofs.Items.{hex-word}
use Rattle.notation.proofs.Rows.{row}

-- ---- blanks, digits

pub blank-outside : (c : ℕ) → blank c ≡ true → in_word c ≡ false
unfolding in_word
blank-outside c e = rw e

-- no word goes on at a blank, nor at a byte that is in none
blanks-stop : (b rest : List ℕ) → Blanks b → stops in_word rest ≡ true → stops in_word (b ++ rest) ≡ true
unfolding stops all
blanks-stop [] rest a h = h
blanks-stop (x ∷ b) rest a h = rw (blank-outside x (both (blank x) (all blank b) a).0)

some-blanks-stop : (b rest : List ℕ) → Blanks b → 0 < length b → stops in_word (b ++ rest) ≡ true
unfolding stops all
some-blanks-stop [] rest a h = absurd (omega arith)
some-blanks-stop (x ∷ b) rest a h = rw (blank-outside x (both (blank x) (all blank b) a).0)

module _ (s : List ℕ) (at : ℕ) (b rest : List ℕ) (e : drop at s ≡ b ++ rest) (a : Blanks b) where
  pub next-blanks : stops blank rest ≡ true → next s at ≡ at + length b
  unfolding next
  next-blanks h = rw (e, run-append blank b rest a h)

digits-word : (w : List ℕ) (n : ℕ) → Digits w n → all in_word w ≡ true
digits-word w n d = all_weaker is_digit in_word digit-word w d.only

pub digits_number : (w : List ℕ) (n m : ℕ) → Digits w n → n ≤ m → is_number m w ≡ true
unfolding is_number
digits_number w n m d h = rw (lt-ltb 0 (length w) d.some, d.only, d.give, le-leb n m h)

-- ---- volumes

-- the step p with the volume g
abbrev grouped : ℕ → Step → Step
grouped g p = with_field message_field g p

member-said : (s w rest : List ℕ) (at g t : ℕ) (p : Step) → drop at s ≡ w ++ rest → Digits w t → t ≤ 15 → stops in_word rest ≡ true
    → member_at s at (grouped g p) ≡ reached (at + length w) (grouped (with_member g t) p)
unfolding member_at most_of with_field
member-said s w rest at g t p e d b h = rw (word-here s at w rest e (digits-word w t d) h, digits_number w t 15 d b, d.give)

comma-solid : (c : ℕ) (l : List ℕ) → blank c ≡ false → stops blank (c ∷ l) ≡ true
unfolding stops
comma-solid c l e = rw e

comma-stop : (c : ℕ) (l : List ℕ) → in_word c ≡ false → stops in_word (c ∷ l) ≡ true
unfolding stops
comma-stop c l e = rw e

marks-blank : (blank 44 ≡ false) × (blank 125 ≡ false) × (blank 123 ≡ false)
unfolding blank
marks-blank = (refl, refl, refl)

marks-word : (in_word 44 ≡ false) × (in_word 125 ≡ false) × (in_word 123 ≡ false)
unfolding in_word blank
marks-word = (refl, refl, refl)

more-stop : (g h : ℕ) (r after : List ℕ) → More g r h → stops in_word (r ++ after) ≡ true
more-stop g h r after (close _ _ b e a) =
    subst (λ (l : List ℕ). stops in_word l ≡ true) (sym (ap (λ (l : List ℕ). l ++ after) e ∙ append_assoc b (125 ∷ []) after))
    (blanks-stop b (125 ∷ after) a (comma-stop 125 after marks-word.1))
more-stop g h r after (comma _ _ t _ b c w rest e a d n m u) =
    subst (λ (l : List ℕ). stops in_word l ≡ true) (sym (ap (λ (l : List ℕ). l ++ after) e ∙ append_assoc b (44 ∷ (c ++ (w ++ rest))) after))
    (blanks-stop b (44 ∷ ((c ++ (w ++ rest)) ++ after)) a (comma-stop 44 ((c ++ (w ++ rest)) ++ after) marks-word.0))

module _ (s : List ℕ) (at : ℕ) (q : Step) (b rest : List ℕ) (a : Blanks b) where
  -- at a closing brace
  at-brace : drop at s ≡ b ++ (125 ∷ rest) → (f : ℕ) → closed s (more_members f s (reached at q)) ≡ reached (at + length b + 1) q
  unfolding closed comma_next
  at-brace e f =
      let n : next s at ≡ at + length b = next-blanks s at b (125 ∷ rest) e a (comma-solid 125 rest marks-blank.1) in
      let y : get_or s (at + length b) 0 ≡ 125 = byte-here s (at + length b) 125 rest (past s at b (125 ∷ rest) e) in
      let i : comma_next s (reached at q) ≡ false = rw (n, y) in
      rw (idle s (reached at q) i f, n, y)

  -- at a comma, with a word after it
  at-comma : (c w : List ℕ) → drop at s ≡ b ++ (44 ∷ (c ++ (w ++ rest))) → Blanks c → all in_word w ≡ true → 0 < length w → (f : ℕ)
      → more_members (suc f) s (reached at q) ≡ more_members f s (member_at s (at + length b + 1 + length c) q)
  unfolding more_members one_more comma_next
  at-comma c w e d i l f =
      let n : next s at ≡ at + length b = next-blanks s at b (44 ∷ (c ++ (w ++ rest))) e a (comma-solid 44 (c ++ (w ++ rest)) marks-blank.0) in
      let e1 : drop (at + length b) s ≡ 44 ∷ (c ++ (w ++ rest)) = past s at b (44 ∷ (c ++ (w ++ rest))) e in
      let y : get_or s (at + length b) 0 ≡ 44 = byte-here s (at + length b) 44 (c ++ (w ++ rest)) e1 in
      let e2 : drop (at + length b + 1) s ≡ c ++ (w ++ rest) = past-byte s (at + length b) 44 (c ++ (w ++ rest)) e1 in
      let m : next s (at + length b + 1) ≡ at + length b + 1 + length c = next-blanks s (at + length b + 1) c (w ++ rest) e2 d (stops-word w rest i l) in
      rw (n, y, m)

module _ (s after : List ℕ) (p : Step) where
  abbrev Closes : ℕ → List ℕ → ℕ → Type 0
  Closes g r h = (at f : ℕ) → length r ≤ f → drop at s ≡ r ++ after → closed s (more_members f s (reached at (grouped g p))) ≡ reached (at + length r) (grouped h p)

  more-close : (g : ℕ) (r b : List ℕ) → r ≡ b ++ (125 ∷ []) → Blanks b → Closes g r g
  more-close g r b e a at f l d =
      let z : at + length b + 1 ≡ at + length r = omega (arith, ap length e, length-append b (125 ∷ [])) in
      at-brace s at (grouped g p) b after a (d ∙ ap (λ (x : List ℕ). x ++ after) e ∙ append_assoc b (125 ∷ []) after) f
      ∙ (λ i. reached (z i) (grouped g p))

  more-comma : (g h t : ℕ) (r b c w rest : List ℕ) → r ≡ b ++ (44 ∷ (c ++ (w ++ rest))) → Blanks b → Blanks c → Digits w t → t ≤ 15
      → stops in_word (rest ++ after) ≡ true → Closes (with_member g t) rest h → Closes g r h
  more-comma g h t r b c w rest e a d n m u ih at zero l q =
      absurd (omega (arith, ap length e, length-append b (44 ∷ (c ++ (w ++ rest)))))
  more-comma g h t r b c w rest e a d n m u ih at (suc f) l q =
      let k : length r ≡ length b + suc (length c + (length w + length rest)) =
      ap length e ∙ length-append b (44 ∷ (c ++ (w ++ rest))) ∙ ap (λ (x : ℕ). length b + suc x) (length-append c (w ++ rest) ∙ ap (λ (x : ℕ). length c + x) (length-append w rest)) in
      let e1 : drop at s ≡ b ++ (44 ∷ (c ++ (w ++ (rest ++ after)))) =
      q ∙ ap (λ (x : List ℕ). x ++ after) e ∙ append_assoc b (44 ∷ (c ++ (w ++ rest))) after
      ∙ ap (λ (x : List ℕ). b ++ (44 ∷ x)) (append_assoc c (w ++ rest) after ∙ ap (λ (x : List ℕ). c ++ x) (append_assoc w rest after)) in
      let e2 : drop (at + length b + 1) s ≡ c ++ (w ++ (rest ++ after)) = past-byte s (at + length b) 44 (c ++ (w ++ (rest ++ after))) (past s at b (44 ∷ (c ++ (w ++ (rest ++ after)))) e1) in
      let e3 : drop (at + length b + 1 + length c) s ≡ w ++ (rest ++ after) = past s (at + length b + 1) c (w ++ (rest ++ after)) e2 in
      let e4 : drop (at + length b + 1 + length c + length w) s ≡ rest ++ after = past s (at + length b + 1 + length c) w (rest ++ after) e3 in
      let z : at + length b + 1 + length c + length w + length rest ≡ at + length r = omega arith in
      ap (closed s) (at-comma s at (grouped g p) b (rest ++ after) a c w e1 d (digits-word w t n) n.some f
      ∙ ap (more_members f s) (member-said s w (rest ++ after) (at + length b + 1 + length c) g t p e3 n m u))
      ∙ ih (at + length b + 1 + length c + length w) f (omega arith) e4
      ∙ (λ i. reached (z i) (grouped h p))

  more-said : (g h : ℕ) (r : List ℕ) → More g r h → Closes g r h
  more-said g h r (close _ _ b e a) = more-close g r b e a
  more-said g h r (comma _ _ t _ b c w rest e a d n m u) = more-comma g h t r b c w rest e a d n m (more-stop (with_member g t) h rest after u) (more-said (with_member g t) h rest u)

group_at-said : (s rest w : List ℕ) (at g : ℕ) (p : Step) → Group w g → drop at s ≡ w ++ rest → group_at s at p ≡ reached (at + length w) (grouped g p)
unfolding group_at members_at
group_at-said s rest w at g p (empty _ b e a) d =
    let e0 : drop at s ≡ 123 ∷ (b ++ (125 ∷ rest)) = d ∙ ap (λ (x : List ℕ). x ++ rest) e ∙ ap (λ (x : List ℕ). 123 ∷ x) (append_assoc b (125 ∷ []) rest) in
    let e1 : drop (at + 1) s ≡ b ++ (125 ∷ rest) = past-byte s at 123 (b ++ (125 ∷ rest)) e0 in
    let n : next s (at + 1) ≡ at + 1 + length b = next-blanks s (at + 1) b (125 ∷ rest) e1 a (comma-solid 125 rest marks-blank.1) in
    let y : get_or s (at + 1 + length b) 0 ≡ 125 = byte-here s (at + 1 + length b) 125 rest (past s (at + 1) b (125 ∷ rest) e1) in
    let z : at + 1 + length b + 1 ≡ at + length w = omega (arith, ap length e, length-append b (125 ∷ [])) in
    rw (byte-here s at 123 (b ++ (125 ∷ rest)) e0, n, y) (λ i. reached (z i) (grouped 0 p))
group_at-said s rest w at g p (transactors _ t _ b v more e a n m u) d =
    let l : List ℕ = v ++ (more ++ rest) in
    let e0 : drop at s ≡ 123 ∷ (b ++ l) =
    d ∙ ap (λ (x : List ℕ). x ++ rest) e ∙ ap (λ (x : List ℕ). 123 ∷ x) (append_assoc b (v ++ more) rest ∙ ap (λ (x : List ℕ). b ++ x) (append_assoc v more rest)) in
    let e1 : drop (at + 1) s ≡ b ++ l = past-byte s at 123 (b ++ l) e0 in
    let k : next s (at + 1) ≡ at + 1 + length b = next-blanks s (at + 1) b l e1 a (stops-word v (more ++ rest) (digits-word v t n) n.some) in
    let e2 : drop (at + 1 + length b) s ≡ l = past s (at + 1) b l e1 in
    let e3 : drop (at + 1 + length b + length v) s ≡ more ++ rest = past s (at + 1 + length b) v (more ++ rest) e2 in
    let f : member_at s (at + 1 + length b) (grouped 0 p) ≡ reached (at + 1 + length b + length v) (grouped (with_member 0 t) p) =
    member-said s v (more ++ rest) (at + 1 + length b) 0 t p e2 n m (more-stop (with_member 0 t) g more rest u) in
    let c : length more ≤ length s = omega (arith, length-drop (at + 1 + length b + length v) s, ap length e3, length-append more rest) in
    let z : at + 1 + length b + length v + length more ≡ at + length w = omega (arith, ap length e, length-append b (v ++ more), length-append v more) in
    rw (byte-here s at 123 (b ++ l) e0, k, not-brace s rest p 0 v (more ++ rest) (at + 1 + length b) n.only n.some e2, f)
    (more-said s rest p (with_member 0 t) g more u (at + 1 + length b + length v) (length s) c e3 ∙ (λ i. reached (z i) (grouped g p)))

-- ---- one item

group-solid : (w rest : List ℕ) (g : ℕ) → Group w g → stops blank (w ++ rest) ≡ true
group-solid w rest g (empty _ b e a) = subst (λ (l : List ℕ). stops blank (l ++ rest) ≡ true) (sym e) (comma-solid 123 ((b ++ (125 ∷ [])) ++ rest) marks-blank.2)
group-solid w rest g (transactors _ t _ b v more e a n m u) = subst (λ (l : List ℕ). stops blank (l ++ rest) ≡ true) (sym e) (comma-solid 123 ((b ++ (v ++ more)) ++ rest) marks-blank.2)

module _ (s : List ℕ) (at : ℕ) (b rest : List ℕ) (a : Blanks b) (q : Step) where
  word-said : (c : ℕ) (w : List ℕ) → eqb c group_field ≡ false → fits c w ≡ true → all in_word w ≡ true → 0 < length w → drop at s ≡ b ++ (w ++ rest) → stops in_word rest ≡ true
      → item_of s (reached at q) c ≡ reached (at + length b + length w) (with_item c w q)
  unfolding item_of word_item
  word-said c w v f i l e h =
      rw (v, next-blanks s at b (w ++ rest) e a (stops-word w rest i l), word-here s (at + length b) w rest (past s at b (w ++ rest) e) i h, f)

  group-said : (w : List ℕ) (g : ℕ) → Group w g → drop at s ≡ b ++ (w ++ rest) → item_of s (reached at q) group_field ≡ reached (at + length b + length w) (grouped g q)
  unfolding item_of
  group-said w g v e = rw (next-blanks s at b (w ++ rest) e a (group-solid w rest g v)) (group_at-said s rest w (at + length b) g q v (past s at b (w ++ rest) e))

  item-said : (c : ℕ) (w : List ℕ) (r : Step) → Item q c w r → drop at s ≡ b ++ (w ++ rest) → stops in_word rest ≡ true → item_of s (reached at q) c ≡ reached (at + length b + length w) r
  unfolding fits with_item same_list all in_word blank
  item-said c w r (field _ n _ _ i j d m f) e h =
      let k : leb c 4 ≡ true = le-leb c 4 j in
      let v : eqb c 5 ≡ false = ne_eqb c 5 (λ (x : c ≡ 5). omega arith) in
      let u : fits c w ≡ true = rw (k, digits_number w n (most_of c) d m) in
      let x : with_item c w q ≡ r = rw (k, d.give) (sym f) in
      word-said c w v u (digits-word w n d) d.some e h ∙ ap (reached (at + length b + length w)) x
  item-said c w r (group g _ _ v f) e h = group-said w g v e ∙ ap (reached (at + length b + length w)) (sym f)
  item-said c w r (to _ f) e h =
      word-said 6 w refl (rw f) (rw f) (omega (arith, ap length f)) e h
  item-said c w r (text _ f) e h =
      word-said 7 w refl (rw f) (rw f) (omega (arith, ap length f)) e h
  item-said c w r (whole _ _ l x f) e h =
      word-said 8 w refl (rw (l, x)) (all_weaker is_hex in_word hex-word w x) (omega arith) e h ∙ ap (reached (at + length b + length w)) (sym f)

-- ---- one after the other

items-stop : (q p : Step) (cs t rest : List ℕ) → Items q cs t p → stops in_word rest ≡ true → stops in_word (t ++ rest) ≡ true
items-stop q p cs t rest (none _) h = h
items-stop q p cs t rest (item _ r _ c ds _ b w more e a (brace _ v) i u) h =
    subst (λ (l : List ℕ). stops in_word l ≡ true) (sym (ap (λ (l : List ℕ). l ++ rest) e ∙ append_assoc b (123 ∷ (v ++ more)) rest))
    (blanks-stop b (123 ∷ ((v ++ more) ++ rest)) a (comma-stop 123 ((v ++ more) ++ rest) marks-word.2))
items-stop q p cs t rest (item _ r _ c ds _ b w more e a (blanks _ _ l) i u) h =
    subst (λ (x : List ℕ). stops in_word x ≡ true) (sym (ap (λ (x : List ℕ). x ++ rest) e ∙ append_assoc b (w ++ more) rest))
    (some-blanks-stop b ((w ++ more) ++ rest) a l)

module _ (s rest : List ℕ) (h : stops in_word rest ≡ true) where
  items-said : (q p : Step) (cs t : List ℕ) (at : ℕ) → Items q cs t p → drop at s ≡ t ++ rest → items s cs (reached at q) ≡ reached (at + length t) p
  unfolding items
  items-said q p cs t at (none _) e = ap (λ (n : ℕ). reached n q) (sym (add-zero at))
  items-said q p cs t at (item _ r _ c ds _ b w more f a x i u) e =
      let e1 : drop at s ≡ b ++ (w ++ (more ++ rest)) = e ∙ ap (λ (l : List ℕ). l ++ rest) f ∙ append_assoc b (w ++ more) rest ∙ ap (λ (l : List ℕ). b ++ l) (append_assoc w more rest) in
      let e2 : drop (at + length b + length w) s ≡ more ++ rest = past s (at + length b) w (more ++ rest) (past s at b (w ++ (more ++ rest)) e1) in
      let z : at + length b + length w + length more ≡ at + length t = omega (arith, ap length f, length-append b (w ++ more), length-append w more) in
      ap (items s ds) (item-said s at b (more ++ rest) a q c w r i e1 (items-stop r p ds more rest u h))
      ∙ items-said r p ds more (at + length b + length w) u e2
      ∙ (λ j. reached (z j) p)

-- ---- a line

-- the line has a word, and the reader finds no fault in it and the step p
pub record Taken (s : List ℕ) (p : Step) : Type 0 where
  pub some : next s 0 < length s
  pub good : (line_at s (next s 0)).expected ≡ nothing
  pub is : (line_at s (next s 0)).step ≡ p

-- What the grammar lets write for a step is read as that step.
pub accepted : (s : List ℕ) (p : Step) → Says s p → Taken s p
unfolding line_at ended stops
accepted s p (line k _ b t e _ h f a i c) =
    let r = row k h in
    let n : List ℕ = name_of k in
    let e0 : drop 0 s ≡ b ++ (n ++ (t ++ e)) = f in
    let x : next s 0 ≡ 0 + length b = next-blanks s 0 b (n ++ (t ++ e)) e0 a (stops-word n (t ++ e) r.word r.some) in
    let e1 : drop (0 + length b) s ≡ n ++ (t ++ e) = past s 0 b (n ++ (t ++ e)) e0 in
    let e2 : drop (0 + length b + length n) s ≡ t ++ e = past s (0 + length b) n (t ++ e) e1 in
    let y : stops in_word e ≡ true = subst (λ (l : List ℕ). stops in_word l ≡ true) (append-nil e) (blanks-stop e [] c refl) in
    let w : word_at s (0 + length b) ≡ n = word-here s (0 + length b) n (t ++ e) e1 r.word (items-stop (empty_step k) p (template_of k) t e i y) in
    let m : items s (template_of k) (reached (0 + length b + length n) (empty_step k)) ≡ reached (0 + length b + length n + length t) p =
    items-said s e y (empty_step k) p (template_of k) t (0 + length b + length n) i e2 in
    let e3 : drop (0 + length b + length n + length t) s ≡ e ++ [] = past s (0 + length b + length n) t e e2 ∙ sym (append-nil e) in
    let l : length s ≡ length b + (length n + (length t + length e)) = ap length f ∙ length-append b (n ++ (t ++ e)) ∙ ap (λ (v : ℕ). length b + v) (length-append n (t ++ e) ∙ ap (λ (v : ℕ). length n + v) (length-append t e)) in
    let z : next s (0 + length b + length n + length t) ≡ length s = next-blanks s (0 + length b + length n + length t) e [] e3 c refl ∙ omega arith in
    let v : line_at s (next s 0) ≡ reached (0 + length b + length n + length t) p = rw (x, w, r.found, lt-ltb k 14 h, m, z, le-ltb (length s) (length s) (omega arith)) in
    record { some = omega (arith, r.some); good = ap (λ (j : Reader). j.expected) v; is = ap (λ (j : Reader). j.step) v }
