-- What the reader takes, the grammar lets write.
use Prim.Native.Nat.{ℕ, zero, suc, ◌+◌, ◌-◌, ◌≤◌, ◌<◌}
use mathlib.Core.Bool.{Bool, true, false, not}
use mathlib.Core.Path.{◌≡◌, refl, sym, ap, ◌∙◌, subst}
use mathlib.Core.List.{List, [], ◌∷◌, ◌++◌, append_assoc}
use native.Mathlib.Numerals.{add-one}
use native.Mathlib.Omega.{arith}
use borrow.Author.Tests.{not-true, ltb-true, leb-true, eqb-true, eqb-false, ltb-false, eq-eqb}
use lib.Dec.{eqb, ltb, leb}
use lib.ListN.{length, take, drop, get_or, length-take, length-drop, take-append-drop}
use lib.Seq.{drop-drop, drop-cons, take_all}
use Rattle.octets.specs.Bytes.{pick, ◌and◌, every}
use Rattle.octets.proofs.Tests.{pick-view, never, and-off}
use Rattle.octets.proofs.Zero.{both, every-at}
use Rattle.marks.specs.Incarnation.{same_list}
use Rattle.marks.proofs.Tests.{same_list-test}
use Rattle.rules.specs.declared.Step.{Step}
use Rattle.rules.specs.Step.{unpack_step}
use Rattle.notation.specs.Notation.{bytes, message_field, group_field, names, name_of, template_of}
use Rattle.notation.specs.Reading.{Reader, blank, in_word, run, all, next, word_at, is_digit, is_hex, is_number, of_decimal, of_hex, most_of, fits, with_field, with_item, with_member, nothing, good, reached, word_item, member_at, comma_next, one_more, more_members, closed, members_at, group_at, item as item_of, items, ended, row_from, row_named, empty_step, line_at}
use Rattle.notation.specs.Grammar.{Blanks, Digits, More, close, comma, Group, empty, transactors, Item, field, group, to, text, whole, Apart, brace, blanks, Items, none, item, Says, line}
use Rattle.notation.proofs.Words.{stops}
use Rattle.notation.proofs.Within.{run-most, byte-within}
use Rattle.notation.proofs.Groups.{idle}
use Rattle.notation.proofs.Items.{Item as ItemKind, is_item, item-view, is_transactor, is_other, is_message, is_value, is_group, is_word_to, is_word_text, is_whole}
use Rattle.notation.proofs.Rows.{row}

-- ---- a line cut at its blanks and words

run-all : (f : ℕ → Bool) (l : List ℕ) → all f (take (run f l) l) ≡ true
unfolding run all
run-all f [] = refl
run-all f (x ∷ l) = go (f x) refl (run-all f l)
  where
    go : (t : Bool) → f x ≡ t → all f (take (run f l) l) ≡ true → all f (take (pick t (suc (run f l)) 0) (x ∷ l)) ≡ true
    go true e h = rw (e, h)
    go false e h = refl

run-stops : (f : ℕ → Bool) (l : List ℕ) → stops f (drop (run f l) l) ≡ true
unfolding run stops
run-stops f [] = refl
run-stops f (x ∷ l) = go (f x) refl (run-stops f l)
  where
    go : (t : Bool) → f x ≡ t → stops f (drop (run f l) l) ≡ true → stops f (drop (pick t (suc (run f l)) 0) (x ∷ l)) ≡ true
    go true e h = h
    go false e h = rw e

run-whole : (f : ℕ → Bool) (l : List ℕ) → length l ≤ run f l → all f l ≡ true
run-whole f l h = subst (λ (x : List ℕ). all f x ≡ true) (take_all (run f l) l h) (run-all f l)

module _ (s : List ℕ) (at : ℕ) where
  -- the blanks there
  abbrev pub gap : List ℕ
  gap = take (run blank (drop at s)) (drop at s)

  pub gap-blank : Blanks gap
  gap-blank = run-all blank (drop at s)

  pub gap-cut : drop at s ≡ gap ++ drop (next s at) s
  unfolding next
  gap-cut = sym (take-append-drop (run blank (drop at s)) (drop at s)) ∙ ap (λ (l : List ℕ). gap ++ l) (drop-drop (run blank (drop at s)) at s)

  word-long : length (word_at s at) ≡ run in_word (drop at s)
  unfolding word_at
  word-long = omega (arith, length-take (run in_word (drop at s)) (drop at s), run-most in_word (drop at s))

  after-word : drop (at + length (word_at s at)) s ≡ drop (run in_word (drop at s)) (drop at s)
  after-word = ap (λ (n : ℕ). drop (at + n) s) word-long ∙ sym (drop-drop (run in_word (drop at s)) at s)

  pub word_cut : drop at s ≡ word_at s at ++ drop (at + length (word_at s at)) s
  unfolding word_at
  word_cut = sym (take-append-drop (run in_word (drop at s)) (drop at s)) ∙ ap (λ (l : List ℕ). take (run in_word (drop at s)) (drop at s) ++ l) (sym after-word)

  pub word-inside : all in_word (word_at s at) ≡ true
  unfolding word_at
  word-inside = run-all in_word (drop at s)

  pub word-stops : stops in_word (drop (at + length (word_at s at)) s) ≡ true
  word-stops = subst (λ (l : List ℕ). stops in_word l ≡ true) (sym after-word) (run-stops in_word (drop at s))

  pub byte_cut : (c : ℕ) → 0 < c → eqb (get_or s at 0) c ≡ true → drop at s ≡ c ∷ drop (at + 1) s
  byte_cut c h e =
      drop-cons s at 0 (byte-within s at c h e) ∙ ap (λ (x : ℕ). x ∷ drop (suc at) s) (eqb-true (get_or s at 0) c e) ∙ ap (λ (n : ℕ). c ∷ drop n s) (sym (add-one at))

-- ---- numbers

number_digits : (m : ℕ) (w : List ℕ) → is_number m w ≡ true → Digits w (of_decimal 0 w) × (of_decimal 0 w ≤ m)
unfolding is_number
number_digits m w e =
    let a = both (ltb 0 (length w)) (all is_digit w and leb (of_decimal 0 w) m) e in
    let b = both (all is_digit w) (leb (of_decimal 0 w) m) a.1 in
    (record { only = b.0; some = ltb-true 0 (length w) a.0; give = refl }, leb-true (of_decimal 0 w) m b.1)

-- ---- volumes

-- x is the reader after the take at place at
pub record MemberAt (s : List ℕ) (at : ℕ) (p : Step) (x : Reader) : Type 0 where
  pub transactor : ℕ
  pub digits : Digits (word_at s at) transactor
  pub most : transactor ≤ 15
  pub is : x ≡ reached (at + length (word_at s at)) (with_field message_field (with_member p.message transactor) p)

pub member-sound : (s : List ℕ) (at : ℕ) (p : Step) → (member_at s at p).expected ≡ 0 → MemberAt s at p (member_at s at p)
unfolding member_at most_of
member-sound s at p =
    pick-view (λ (y : Reader). y.expected ≡ 0 → MemberAt s at p y) (is_number 15 (word_at s at)) _ _
    (λ e h. let d = number_digits 15 (word_at s at) e in record { transactor = of_decimal 0 (word_at s at); digits = d.0; most = d.1; is = refl })
    (λ e h. absurd (omega arith))

-- x is the reader after what follows the takes of the step of r
record Closing (s : List ℕ) (r x : Reader) : Type 0 where
  pub clean : r.expected ≡ 0
  words : List ℕ
  group : ℕ
  more : More r.step.message words group
  place : drop r.at s ≡ words ++ drop x.at s
  is : x.step ≡ with_field message_field group r.step

same-group : (p : Step) → p ≡ with_field message_field p.message p
unfolding with_field
same-group p = refl

closed-sound : (s : List ℕ) (r : Reader) → (closed s r).expected ≡ 0 → Closing s r (closed s r)
unfolding closed
closed-sound s r =
    pick-view (λ (y : Reader). y.expected ≡ 0 → Closing s r y) (good r) _ _
    (λ g. pick-view (λ (y : Reader). y.expected ≡ 0 → Closing s r y) (eqb (get_or s (next s r.at) 0) 125) _ _
    (λ e h. record {
      clean = eqb-true r.expected 0 g;
      words = gap s r.at ++ (125 ∷ []);
      group = r.step.message;
      more = close r.step.message (gap s r.at ++ (125 ∷ [])) (gap s r.at) refl (gap-blank s r.at);
      place = gap-cut s r.at ∙ ap (λ (l : List ℕ). gap s r.at ++ l) (byte_cut s (next s r.at) 125 (omega arith) e) ∙ sym (append_assoc (gap s r.at) (125 ∷ []) (drop (next s r.at + 1) s));
      is = same-group r.step;
    })
    (λ e h. absurd (omega arith)))
    (λ g h. absurd (eqb-false r.expected 0 g h))

module _ (s : List ℕ) where
  more-comma : (r x : Reader) → comma_next s r ≡ true → Closing s (member_at s (next s (next s r.at + 1)) r.step) x → Closing s r x
  unfolding comma_next with_field
  more-comma r x c k =
      let h = both (good r) (eqb (get_or s (next s r.at) 0) 44) c in
      let a : ℕ = next s r.at in
      let n : ℕ = next s (a + 1) in
      let m = member-sound s n r.step k.clean in
      let w : List ℕ = word_at s n in
      let e : drop (member_at s n r.step).at s ≡ drop (n + length w) s = ap (λ (y : Reader). drop y.at s) m.is in
      let q : (member_at s n r.step).step ≡ with_field message_field (with_member r.step.message m.transactor) r.step = ap (λ (y : Reader). y.step) m.is in
      let b : List ℕ = gap s r.at in
      let d : List ℕ = gap s (a + 1) in
      let words : List ℕ = b ++ (44 ∷ (d ++ (w ++ k.words))) in
      record {
        clean = eqb-true r.expected 0 h.0;
        words = words;
        group = k.group;
        more = comma r.step.message k.group m.transactor words b d w k.words refl (gap-blank s r.at) (gap-blank s (a + 1)) m.digits m.most
            (subst (λ (p : Step). More p.message k.words k.group) q k.more);
        place =
            gap-cut s r.at
            ∙ ap (λ (l : List ℕ). b ++ l) (byte_cut s a 44 (omega arith) h.1
            ∙ ap (λ (l : List ℕ). 44 ∷ l) (gap-cut s (a + 1)
            ∙ ap (λ (l : List ℕ). d ++ l) (word_cut s n ∙ ap (λ (l : List ℕ). w ++ l) (sym e ∙ k.place)
            ∙ sym (append_assoc w k.words (drop x.at s)))
            ∙ sym (append_assoc d (w ++ k.words) (drop x.at s))))
            ∙ sym (append_assoc b (44 ∷ (d ++ (w ++ k.words))) (drop x.at s));
        is = k.is ∙ ap (with_field message_field k.group) q;
      }

  pub one-comma : (r : Reader) → comma_next s r ≡ true → one_more s r ≡ member_at s (next s (next s r.at + 1)) r.step
  unfolding one_more
  one-comma r c = rw c

  pub more-suc : (f : ℕ) (r : Reader) → more_members (suc f) s r ≡ more_members f s (one_more s r)
  unfolding more_members
  more-suc f r = refl

  pub more-zero : (r : Reader) → more_members zero s r ≡ r
  unfolding more_members
  more-zero r = refl

  more-sound : (f : ℕ) (r : Reader) → (closed s (more_members f s r)).expected ≡ 0 → Closing s r (closed s (more_members f s r))
  more-sound zero r h =
      subst (λ (x : Reader). (closed s x).expected ≡ 0 → Closing s r (closed s x)) (sym (more-zero r)) (closed-sound s r) h
  more-sound (suc f) r h = go (comma_next s r) refl (λ (m : Reader). more-sound f m)
    where
      go : (t : Bool) → comma_next s r ≡ t → ((m : Reader) → (closed s (more_members f s m)).expected ≡ 0 → Closing s m (closed s (more_members f s m))) → Closing s r (closed s (more_members (suc f) s r))
      go true c ih =
          let m : Reader = member_at s (next s (next s r.at + 1)) r.step in
          let e : more_members (suc f) s r ≡ more_members f s m = more-suc f r ∙ ap (more_members f s) (one-comma r c) in
          subst (λ (x : Reader). Closing s r (closed s x)) (sym e)
          (more-comma r (closed s (more_members f s m)) c (ih m (ap (λ (x : Reader). (closed s x).expected) (sym e) ∙ h)))
      go false c ih =
          let e : more_members (suc f) s r ≡ r = idle s r c (suc f) in
          subst (λ (x : Reader). Closing s r (closed s x)) (sym e) (closed-sound s r (ap (λ (x : Reader). (closed s x).expected) (sym e) ∙ h))

-- x is the reader after the volume at place at
record GroupAt (s : List ℕ) (at : ℕ) (p : Step) (x : Reader) : Type 0 where
  words : List ℕ
  group : ℕ
  form : Group words group
  place : drop at s ≡ words ++ drop x.at s
  is : x.step ≡ with_field message_field group p

module _ (s : List ℕ) where
  -- after the opening brace
  record Inside (at : ℕ) (p : Step) (x : Reader) : Type 0 where
    words : List ℕ
    group : ℕ
    form : (b : List ℕ) → Blanks b → Group (123 ∷ (b ++ words)) group
    place : drop at s ≡ words ++ drop x.at s
    is : x.step ≡ with_field message_field group p

  members-sound : (at : ℕ) (p : Step) → p.message ≡ 0 → (members_at s at p).expected ≡ 0 → Inside at p (members_at s at p)
  unfolding members_at with_field
  members-sound at p z =
      pick-view (λ (y : Reader). y.expected ≡ 0 → Inside at p y) (eqb (get_or s at 0) 125) _ _
      (λ e h. record {
        words = 125 ∷ [];
        group = 0;
        form = λ b a. empty (123 ∷ (b ++ (125 ∷ []))) b refl a;
        place = byte_cut s at 125 (omega arith) e;
        is = same-group p ∙ ap (λ (g : ℕ). with_field message_field g p) z;
      })
      (λ e h.
      let f : Reader = member_at s at p in
      let k = more-sound s (length s) f h in
      let m = member-sound s at p k.clean in
      let w : List ℕ = word_at s at in
      let q : f.step ≡ with_field message_field (with_member p.message m.transactor) p = ap (λ (y : Reader). y.step) m.is in
      let g : with_member p.message m.transactor ≡ with_member 0 m.transactor = ap (λ (n : ℕ). with_member n m.transactor) z in
      record {
        words = w ++ k.words;
        group = k.group;
        form = λ b a. transactors k.group m.transactor (123 ∷ (b ++ (w ++ k.words))) b w k.words refl a m.digits m.most
            (subst (λ (n : ℕ). More n k.words k.group) (ap (λ (y : Step). y.message) q ∙ g) k.more);
        place = word_cut s at ∙ ap (λ (l : List ℕ). w ++ l) (ap (λ (y : Reader). drop y.at s) (sym m.is) ∙ k.place) ∙ sym (append_assoc w k.words (drop (closed s (more_members (length s) s f)).at s));
        is = k.is ∙ ap (with_field message_field k.group) q;
      })

  group-sound : (at : ℕ) (p : Step) → (group_at s at p).expected ≡ 0 → GroupAt s at p (group_at s at p)
  unfolding group_at with_field
  group-sound at p =
      pick-view (λ (y : Reader). y.expected ≡ 0 → GroupAt s at p y) (eqb (get_or s at 0) 123) _ _
      (λ e h.
      let n : ℕ = next s (at + 1) in
      let b : List ℕ = gap s (at + 1) in
      let k = members-sound n (with_field message_field 0 p) refl h in
      record {
        words = 123 ∷ (b ++ k.words);
        group = k.group;
        form = k.form b (gap-blank s (at + 1));
        place =
            byte_cut s at 123 (omega arith) e
            ∙ ap (λ (l : List ℕ). 123 ∷ l) (gap-cut s (at + 1) ∙ ap (λ (l : List ℕ). b ++ l) k.place ∙ sym (append_assoc b k.words (drop (members_at s n (with_field message_field 0 p)).at s)));
        is = k.is;
      })
      (λ e h. absurd (omega arith))

-- ---- one item

item-some : (c : ℕ) → is_item c ≡ true → c ≡ 0 → ⊥
unfolding is_item
item-some c i e = omega (arith, leb-true 1 c (both (leb 1 c) (leb c 8) i).0)

-- a word where none goes on has a blank before it
apart-word : (b w l rest : List ℕ) → l ≡ b ++ (w ++ rest) → stops in_word l ≡ true → all in_word w ≡ true → 0 < length w → Apart b w
unfolding stops all
apart-word [] [] l rest e h a n = absurd (omega arith)
apart-word [] (x ∷ w) l rest e h a n =
    let i : stops in_word (x ∷ (w ++ rest)) ≡ true = subst (λ (k : List ℕ). stops in_word k ≡ true) e h in
    never (sym (both (in_word x) (all in_word w) a).0 ∙ not-true (in_word x) i)
apart-word (y ∷ b) w l rest e h a n = blanks (y ∷ b) w (omega arith)

pub group-apart : (b w : List ℕ) (g : ℕ) → Group w g → Apart b w
group-apart b w g (empty _ c e a) = subst (Apart b) (sym e) (brace b (c ++ (125 ∷ [])))
group-apart b w g (transactors _ t _ c v more e a n m u) = subst (Apart b) (sym e) (brace b (c ++ (v ++ more)))

-- x is the reader after item c, from r on
pub record ItemAt (s : List ℕ) (r : Reader) (c : ℕ) (x : Reader) : Type 0 where
  pub gaps : List ℕ
  pub words : List ℕ
  pub blank : Blanks gaps
  pub apart : Apart gaps words
  pub item : Item r.step c words x.step
  pub place : drop r.at s ≡ gaps ++ (words ++ drop x.at s)
  pub ends : (c ≡ group_field → ⊥) → stops in_word (drop x.at s) ≡ true

module _ (s : List ℕ) (r : Reader) (h : stops in_word (drop r.at s) ≡ true) where
  abbrev here : ℕ
  here = next s r.at

  abbrev word : List ℕ
  word = word_at s here

  -- an item that is a word
  word_sound : (c : ℕ) → 0 < length word → Item r.step c word (with_item c word r.step) → ItemAt s r c (reached (here + length word) (with_item c word r.step))
  word_sound c n i =
      let e : drop r.at s ≡ gap s r.at ++ (word ++ drop (here + length word) s) = gap-cut s r.at ∙ ap (λ (l : List ℕ). gap s r.at ++ l) (word_cut s here) in
      record {
        gaps = gap s r.at;
        words = word;
        blank = gap-blank s r.at;
        apart = apart-word (gap s r.at) word (drop r.at s) (drop (here + length word) s) e h (word-inside s here) n;
        item = i;
        place = e;
        ends = λ v. word-stops s here;
      }

  fits-some : (c : ℕ) → is_item c ≡ true → (c ≡ 5 → ⊥) → fits c word ≡ true → (0 < length word) × Item r.step c word (with_item c word r.step)
  unfolding fits with_item
  fits-some c i v f = go c (item-view c i) v f
    where
      number : (c : ℕ) → 0 < c → c ≤ 4 → is_number (most_of c) word ≡ true → (0 < length word) × Item r.step c word (with_field c (of_decimal 0 word) r.step)
      number c a b g =
          let d = number_digits (most_of c) word g in
          (d.0.some, field c (of_decimal 0 word) word (with_field c (of_decimal 0 word) r.step) a b d.0 d.1 refl)

      go : (c : ℕ) → ItemKind c → (c ≡ 5 → ⊥) → fits c word ≡ true → (0 < length word) × Item r.step c word (with_item c word r.step)
      go c is_transactor v f = number 1 (omega arith) (omega arith) f
      go c is_other v f = number 2 (omega arith) (omega arith) f
      go c is_message v f = number 3 (omega arith) (omega arith) f
      go c is_value v f = number 4 (omega arith) (omega arith) f
      go c is_group v f = absurd (v refl)
      go c is_word_to v f = let e = (same_list-test word (bytes "to")).0 f in (omega (arith, ap length e), to word e)
      go c is_word_text v f = let e = (same_list-test word (bytes "text")).0 f in (omega (arith, ap length e), text word e)
      go c is_whole v f =
          let a = both (eqb (length word) 16) (all is_hex word) f in
          let l : length word ≡ 16 = eqb-true (length word) 16 a.0 in
          (omega arith, whole word (unpack_step (of_hex word)) l a.1 refl)

  word-item-sound : (c : ℕ) → is_item c ≡ true → (c ≡ 5 → ⊥) → (word_item c s here r.step).expected ≡ 0 → ItemAt s r c (word_item c s here r.step)
  unfolding word_item
  word-item-sound c i v =
      pick-view (λ (y : Reader). y.expected ≡ 0 → ItemAt s r c y) (fits c word) _ _
      (λ f e. let k = fits-some c i v f in word_sound c k.0 k.1)
      (λ f e. absurd (item-some c i e))

  pub item-sound : (c : ℕ) → is_item c ≡ true → (item_of s r c).expected ≡ 0 → ItemAt s r c (item_of s r c)
  unfolding item_of
  item-sound c i =
      pick-view (λ (y : Reader). y.expected ≡ 0 → ItemAt s r c y) (good r) _ _
      (λ g. pick-view (λ (y : Reader). y.expected ≡ 0 → ItemAt s r c y) (eqb c group_field) _ _
      (λ v e.
      let k = group-sound s here r.step e in
      record {
        gaps = gap s r.at;
        words = k.words;
        blank = gap-blank s r.at;
        apart = group-apart (gap s r.at) k.words k.group k.form;
        item = subst (λ (n : ℕ). Item r.step n k.words (group_at s here r.step).step) (sym (eqb-true c group_field v)) (group k.group k.words (group_at s here r.step).step k.form k.is);
        place = gap-cut s r.at ∙ ap (λ (l : List ℕ). gap s r.at ++ l) k.place;
        ends = λ n. absurd (n (eqb-true c group_field v));
      })
      (λ v e. word-item-sound c i (eqb-false c group_field v) e))
      (λ g e. absurd (eqb-false r.expected 0 g e))

-- ---- one after the other

module _ (s : List ℕ) where
  item-clean : (r : Reader) (c : ℕ) → (item_of s r c).expected ≡ 0 → r.expected ≡ 0
  unfolding item_of
  item-clean r c = pick-view (λ (y : Reader). y.expected ≡ 0 → r.expected ≡ 0) (good r) _ _ (λ g e. eqb-true r.expected 0 g) (λ g e. e)

  pub items-clean : (cs : List ℕ) (r : Reader) → (items s cs r).expected ≡ 0 → r.expected ≡ 0
  unfolding items
  items-clean [] r e = e
  items-clean (c ∷ cs) r e = item-clean r c (items-clean cs (item_of s r c) e)

-- a volume is a template's last item
unfoldable pub group_last : List ℕ → Bool
group_last [] = true
group_last (c ∷ []) = true
group_last (c ∷ d ∷ cs) = not (eqb c group_field) and group_last (d ∷ cs)

pub rows_last : every 14 (λ k. group_last (template_of k)) ≡ true
unfolding every group_last template_of
rows_last = refl

-- x is the reader after the items cs, from r on
pub record ItemsAt (s : List ℕ) (r : Reader) (cs : List ℕ) (x : Reader) : Type 0 where
  pub words : List ℕ
  pub items : Items r.step cs words x.step
  pub place : drop r.at s ≡ words ++ drop x.at s

module _ (s : List ℕ) where
  items-first : (r : Reader) (c : ℕ) (cs : List ℕ) (x : Reader) → ItemAt s r c (item_of s r c) → ItemsAt s (item_of s r c) cs x → ItemsAt s r (c ∷ cs) x
  items-first r c cs x k l =
      let w : List ℕ = k.gaps ++ (k.words ++ l.words) in
      record {
        words = w;
        items = item r.step (item_of s r c).step x.step c cs w k.gaps k.words l.words refl k.blank k.apart k.item l.items;
        place =
            k.place
            ∙ ap (λ (y : List ℕ). k.gaps ++ (k.words ++ y)) l.place
            ∙ ap (λ (y : List ℕ). k.gaps ++ y) (sym (append_assoc k.words l.words (drop x.at s)))
            ∙ sym (append_assoc k.gaps (k.words ++ l.words) (drop x.at s));
      }

  items-none : (x : Reader) → ItemsAt s x [] x
  items-none x = record { words = []; items = none x.step; place = refl }

  pub items-sound : (cs : List ℕ) (r : Reader) → all is_item cs ≡ true → group_last cs ≡ true → stops in_word (drop r.at s) ≡ true → (items s cs r).expected ≡ 0 → ItemsAt s r cs (items s cs r)
  unfolding items all group_last
  items-sound [] r a v h e = items-none r
  items-sound (c ∷ []) r a v h e = items-first r c [] (item_of s r c) (item-sound s r h c (both (is_item c) true a).0 e) (items-none (item_of s r c))
  items-sound (c ∷ d ∷ cs) r a v h e =
      let b = both (is_item c) (is_item d and all is_item cs) a in
      let u = both (not (eqb c group_field)) (group_last (d ∷ cs)) v in
      let k = item-sound s r h c b.0 (items-clean s (d ∷ cs) (item_of s r c) e) in
      let f : stops in_word (drop (item_of s r c).at s) ≡ true = k.ends (eqb-false c group_field (not-true (eqb c group_field) u.0)) in
      items-first r c (d ∷ cs) (items s (d ∷ cs) (item_of s r c)) k (items-sound (d ∷ cs) (item_of s r c) b.1 u.1 f e)

-- ---- names

row-least : (w : List ℕ) (ns : List (List ℕ)) (k : ℕ) → k ≤ row_from w ns k
unfolding row_from
row-least w [] k = omega arith
row-least w (n ∷ ns) k = pick-view (λ (i : ℕ). k ≤ i) (same_list w n) _ _ (λ e. omega arith) (λ e. omega (arith, row-least w ns (suc k)))

row-name : (w : List ℕ) (ns : List (List ℕ)) (k : ℕ) → row_from w ns k < k + length ns → get_or ns (row_from w ns k - k) [] ≡ w
unfolding row_from
row-name w [] k h = absurd (omega arith)
row-name w (n ∷ ns) k h = go (same_list w n) refl (row-name w ns (suc k)) h
  where
    go : (t : Bool) → same_list w n ≡ t → (row_from w ns (suc k) < suc k + length ns → get_or ns (row_from w ns (suc k) - suc k) [] ≡ w)
        → pick t k (row_from w ns (suc k)) < k + suc (length ns) → get_or (n ∷ ns) (pick t k (row_from w ns (suc k)) - k) [] ≡ w
    go true e ih h = let z : k - k ≡ 0 = omega arith in ap (λ (i : ℕ). get_or (n ∷ ns) i []) z ∙ sym ((same_list-test w n).0 e)
    go false e ih h =
        let l = row-least w ns (suc k) in
        let z : row_from w ns (suc k) - k ≡ suc (row_from w ns (suc k) - suc k) = omega arith in
        ap (λ (i : ℕ). get_or (n ∷ ns) i []) z ∙ ih (omega arith)

-- ---- the line

-- nothing but blanks follows
pub record EndedAt (s : List ℕ) (r x : Reader) : Type 0 where
  pub clean : r.expected ≡ 0
  pub same : x ≡ r
  pub rest : length s ≤ next s r.at

pub ended-sound : (s : List ℕ) (r : Reader) → (ended s r).expected ≡ 0 → EndedAt s r (ended s r)
unfolding ended
ended-sound s r =
    pick-view (λ (y : Reader). y.expected ≡ 0 → EndedAt s r y) (good r and ltb (next s r.at) (length s)) _ _
    (λ g e. absurd (omega arith))
    (λ g e. record { clean = e; same = refl; rest = ltb-false (next s r.at) (length s) (and-off (good r) (ltb (next s r.at) (length s)) g (eq-eqb r.expected 0 e)) })

pub tail-blank : (s : List ℕ) (at : ℕ) → length s ≤ next s at → Blanks (drop at s)
unfolding next
tail-blank s at h = run-whole blank (drop at s) (omega (arith, length-drop at s))

pub name-of-row : (w : List ℕ) → row_named w < 14 → name_of (row_named w) ≡ w
unfolding name_of
name-of-row w h = let z : row_named w ≡ row_named w - 0 = omega arith in ap (λ (j : ℕ). get_or names j []) z ∙ row-name w names 0 (omega arith)

-- What is read as a step, the grammar lets write for it.
pub sound : (s : List ℕ) → (line_at s (next s 0)).expected ≡ nothing → Says s (line_at s (next s 0)).step
unfolding line_at
sound s =
    pick-view (λ (y : Reader). y.expected ≡ 0 → Says s y.step) (ltb (row_named (word_at s (next s 0))) 14) _ _
    (λ e h.
    let at : ℕ = next s 0 in
    let w : List ℕ = word_at s at in
    let k : ℕ = row_named w in
    let b : k < 14 = ltb-true k 14 e in
    let r : Reader = reached (at + length w) (empty_step k) in
    let x : Reader = items s (template_of k) r in
    let d = ended-sound s x h in
    let i = items-sound s (template_of k) r (row k b).fields (every-at (λ j. group_last (template_of j)) 14 k rows_last b) (word-stops s at) d.clean in
    let n : name_of k ≡ w = name-of-row w b in
    let p : Step = (ended s x).step in
    let q : x.step ≡ p = ap (λ (y : Reader). y.step) (sym d.same) in
    line k s (gap s 0) i.words (drop x.at s) p b
    (gap-cut s 0 ∙ ap (λ (l : List ℕ). gap s 0 ++ l) (word_cut s at ∙ ap (λ (l : List ℕ). w ++ l) i.place ∙ ap (λ (v : List ℕ). v ++ (i.words ++ drop x.at s)) (sym n)))
    (gap-blank s 0)
    (subst (λ (y : Step). Items (empty_step k) (template_of k) i.words y) q i.items)
    (tail-blank s x.at d.rest))
    (λ e h. absurd (omega arith))
