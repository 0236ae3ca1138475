-- The column of a fault: what stands before it in the line goes on to a line that says a step.
use Prim.Native.Nat.{ℕ, zero, suc, ◌+◌, ◌-◌, ◌≤◌, ◌<◌}
use mathlib.Core.Bool.{Bool, true, false, not}
use mathlib.Core.Path.{◌≡◌, refl, sym, ap, ◌∙◌, subst}
use mathlib.Core.List.{List, [], ◌∷◌, ◌++◌, append_assoc, append-nil}
use native.Mathlib.Omega.{arith}
use borrow.Author.Tests.{not-true, ltb-true, eqb-true, eqb-false, ne_eqb}
use lib.Dec.{eqb, ltb}
use lib.ListN.{length, take, drop, get_or, length-append, length-drop, take-append-drop}
use lib.Seq.{take_at, length-take-le}
use Rattle.octets.specs.Bytes.{pick, ◌and◌}
use Rattle.octets.proofs.Tests.{pick-view}
use Rattle.octets.proofs.Zero.{both, every-at}
use Rattle.rules.specs.declared.Step.{Step}
use Rattle.rules.specs.Step.{unpack_step}
use Rattle.notation.specs.Notation.{bytes, message_field, group_field, name_of, template_of}
use Rattle.notation.specs.Reading.{Reader, blank, in_word, all, next, word_at, is_digit, is_hex, is_number, of_decimal, of_hex, most_of, fits, with_field, with_member, good, reached, word_item, member_at, comma_next, more_members, closed, members_at, group_at, item as item_of, items, ended, row_named, empty_step, line_at}
use Rattle.notation.specs.Grammar.{Blanks, Digits, More, close, comma, Group, empty, transactors, Item, field, group, to, text, whole, blanks, Items, none, item, Says, line}
use Rattle.notation.specs.Faults.{Next, last_or}
use Rattle.notation.proofs.Words.{stops}
use Rattle.notation.proofs.Parting.{space-out, comma-out, open-out, close-out, last-blanks, last_out, parted-last, parted-head}
use Rattle.notation.proofs.Within.{next-within, word-within, byte-within, member-within, item-within, items-within}
use Rattle.notation.proofs.Groups.{idle}
use Rattle.notation.proofs.Items.{Item as ItemKind, is_item, item-view, is_transactor, is_other, is_message, is_value, is_group, is_word_to, is_word_text, is_whole}
use Rattle.notation.proofs.Rows.{row}
use Rattle.notation.proofs.Sound.{gap, gap-blank, gap-cut, word_cut, word-stops, byte_cut, member-sound, item-sound, items-sound, group_last, rows_last, name-of-row, one-comma, more-suc, more-zero, group-apart}

-- the text u goes on, its last word perhaps too
record Goes (u : List ℕ) : Type 0 where
  rest : List ℕ
  step : Step
  says : Says (u ++ rest) step

shorter : (u v : List ℕ) → Goes (u ++ v) → Goes u
shorter u v n = record { rest = v ++ n.rest; step = n.step; says = subst (λ (l : List ℕ). Says l n.step) (append_assoc u v n.rest) n.says }

-- its last word is whole where what goes on begins with no byte of a word, or where it ends with none
cut-head : (u : List ℕ) (c : ℕ) (v : List ℕ) → in_word c ≡ false → Goes (u ++ (c ∷ v)) → Next u
unfolding shorter
cut-head u c v e n =
    let k = shorter u (c ∷ v) n in
    record { rest = k.rest; step = k.step; says = k.says; whole = parted-head u c (v ++ n.rest) e }

cut-last : (u v : List ℕ) → in_word (last_or 32 u) ≡ false → Goes (u ++ v) → Next u
cut-last u v e n =
    let k = shorter u v n in
    record { rest = k.rest; step = k.step; says = k.says; whole = parted-last u k.rest e }

no-blank : Blanks []
unfolding all
no-blank = refl

-- ---- the plainest items

nought : ℕ → List ℕ
nought c = get_or ([] ∷ bytes "0" ∷ bytes "0" ∷ bytes "0" ∷ bytes "0" ∷ bytes "{}" ∷ bytes "to" ∷ bytes "text" ∷ bytes "0000000000000000" ∷ []) c []

zero-digits : Digits (48 ∷ []) 0
unfolding all is_digit of_decimal
zero-digits = record { only = refl; some = omega arith; give = refl }

record Plain (q : Step) (c : ℕ) : Type 0 where
  step : Step
  is : Item q c (nought c) step

plain : (q : Step) (c : ℕ) → ItemKind c → Plain q c
unfolding nought all is_hex is_digit blank
plain q c is_transactor = record { step = with_field 1 0 q; is = field 1 0 (48 ∷ []) (with_field 1 0 q) (omega arith) (omega arith) zero-digits (omega arith) refl }
plain q c is_other = record { step = with_field 2 0 q; is = field 2 0 (48 ∷ []) (with_field 2 0 q) (omega arith) (omega arith) zero-digits (omega arith) refl }
plain q c is_message = record { step = with_field 3 0 q; is = field 3 0 (48 ∷ []) (with_field 3 0 q) (omega arith) (omega arith) zero-digits (omega arith) refl }
plain q c is_value = record { step = with_field 4 0 q; is = field 4 0 (48 ∷ []) (with_field 4 0 q) (omega arith) (omega arith) zero-digits (omega arith) refl }
plain q c is_group = record { step = with_field 3 0 q; is = group 0 (bytes "{}") (with_field 3 0 q) (empty (bytes "{}") [] refl refl) refl }
plain q c is_word_to = record { step = q; is = to (bytes "to") refl }
plain q c is_word_text = record { step = q; is = text (bytes "text") refl }
plain q c is_whole = record { step = unpack_step (of_hex (bytes "0000000000000000")); is = whole (bytes "0000000000000000") (unpack_step (of_hex (bytes "0000000000000000"))) refl refl refl }

record Plains (q : Step) (cs : List ℕ) : Type 0 where
  words : List ℕ
  step : Step
  are : Items q cs words step

space-blank : Blanks (32 ∷ [])
unfolding all blank
space-blank = refl

blanks-more : (b c : List ℕ) → Blanks b → Blanks c → Blanks (b ++ c)
unfolding all
blanks-more [] c a d = d
blanks-more (x ∷ b) c a d = let h = both (blank x) (all blank b) a in rw (h.0, blanks-more b c h.1 d)

-- with the blanks b before the first
plains-first : (q : Step) (c : ℕ) (cs b : List ℕ) → Blanks b → (k : Plain q c) (l : Plains k.step cs) → Items q (c ∷ cs) ((b ++ (32 ∷ [])) ++ (nought c ++ l.words)) l.step
plains-first q c cs b a k l =
    item q k.step l.step c cs ((b ++ (32 ∷ [])) ++ (nought c ++ l.words)) (b ++ (32 ∷ [])) (nought c) l.words refl (blanks-more b (32 ∷ []) a space-blank)
    (blanks (b ++ (32 ∷ [])) (nought c) (omega (arith, length-append b (32 ∷ [])))) k.is l.are

plains : (q : Step) (cs : List ℕ) → all is_item cs ≡ true → Plains q cs
unfolding all
plains q [] a = record { words = []; step = q; are = none q }
plains q (c ∷ cs) a =
    let h = both (is_item c) (all is_item cs) a in
    let k = plain q c (item-view c h.0) in
    let l = plains k.step cs h.1 in
    record { words = (32 ∷ []) ++ (nought c ++ l.words); step = l.step; are = plains-first q c cs [] refl k l }

-- ---- the front of a line

module _ (s : List ℕ) where
  -- what is cut off the rest joins the front
  pub front : (a b : ℕ) (u : List ℕ) → drop a s ≡ u ++ drop b s → a ≤ length s → b ≤ length s → take b s ≡ take a s ++ u
  front a b u e h k =
      let l : length s - a ≡ length u + (length s - b) = sym (length-drop a s) ∙ ap length e ∙ length-append u (drop b s) ∙ ap (λ (n : ℕ). length u + n) (length-drop b s) in
      let m : length (take a s ++ u) ≡ b = length-append (take a s) u ∙ ap (λ (n : ℕ). n + length u) (length-take-le a s h) ∙ omega arith in
      let f : s ≡ (take a s ++ u) ++ drop b s = sym (take-append-drop a s) ∙ ap (λ (x : List ℕ). take a s ++ x) e ∙ sym (append_assoc (take a s) u (drop b s)) in
      ap (take b) f ∙ take_at (take a s ++ u) (drop b s) b m

  pub gap-front : (at : ℕ) → at ≤ length s → take (next s at) s ≡ take at s ++ gap s at
  gap-front at h = front at (next s at) (gap s at) (gap-cut s at) h (next-within s at h)

  -- ---- volumes

  abbrev Rest : Reader → Type 0
  Rest r = (v : List ℕ) (h : ℕ) → More r.step.message v h → Goes (take r.at s ++ v)

  abbrev pub Faulty : Reader → Type 0
  Faulty x = x.expected ≡ 0 → ⊥

  closed-goes : (r : Reader) → r.at ≤ length s → r.expected ≡ 0 → Rest r → Faulty (closed s r) → Next (take (closed s r).at s)
  unfolding closed
  closed-goes r h z k =
      pick-view (λ (y : Reader). Faulty y → Next (take y.at s)) (good r) _ _
      (λ g. pick-view (λ (y : Reader). Faulty y → Next (take y.at s)) (eqb (get_or s (next s r.at) 0) 125) _ _
      (λ e n. absurd (n refl))
      (λ e n.
      let b : List ℕ = gap s r.at in
      cut-head (take (next s r.at) s) 125 [] close-out
      (subst Goes (sym (append_assoc (take r.at s) b (125 ∷ [])) ∙ ap (λ (u : List ℕ). u ++ (125 ∷ [])) (sym (gap-front r.at h)))
      (k (b ++ (125 ∷ [])) r.step.message (close r.step.message (b ++ (125 ∷ [])) b refl (gap-blank s r.at))))))
      (λ g n. absurd (n z))

  -- a faulted reader passes through
  pub closed-stays : (r : Reader) → Faulty r → closed s r ≡ r
  unfolding closed
  closed-stays r n = rw (ne_eqb r.expected 0 n)

  pub more_stays : (f : ℕ) (r : Reader) → Faulty r → more_members f s r ≡ r
  unfolding comma_next
  more_stays f r n = idle s r (rw (ne_eqb r.expected 0 n)) f

  member-fault : (at : ℕ) (p : Step) → Faulty (member_at s at p) → (member_at s at p).at ≡ at
  unfolding member_at
  member-fault at p =
      pick-view (λ (y : Reader). Faulty y → y.at ≡ at) (is_number (most_of 1) (word_at s at)) _ _ (λ e n. absurd (n refl)) (λ e n. refl)

  -- the comma that is next, and the blanks after it
  comma-front : (r : Reader) → r.at ≤ length s → comma_next s r ≡ true
      → (next s (next s r.at + 1) ≤ length s) × (take (next s (next s r.at + 1)) s ≡ take r.at s ++ (gap s r.at ++ (44 ∷ gap s (next s r.at + 1))))
  unfolding comma_next
  comma-front r h c =
      let e = (both (good r) (eqb (get_or s (next s r.at) 0) 44) c).1 in
      let a : ℕ = next s r.at in
      let i : a < length s = byte-within s a 44 (omega arith) e in
      let n : next s (a + 1) ≤ length s = next-within s (a + 1) (omega arith) in (
        n,
        front r.at (next s (a + 1)) (gap s r.at ++ (44 ∷ gap s (a + 1)))
            (gap-cut s r.at ∙ ap (λ (l : List ℕ). gap s r.at ++ l) (byte_cut s a 44 (omega arith) e ∙ ap (λ (l : List ℕ). 44 ∷ l) (gap-cut s (a + 1)))
            ∙ sym (append_assoc (gap s r.at) (44 ∷ gap s (a + 1)) (drop (next s (a + 1)) s))) h n,
      )

  -- after a comma no take
  comma-goes : (r : Reader) → r.at ≤ length s → comma_next s r ≡ true → Rest r → Next (take (next s (next s r.at + 1)) s)
  comma-goes r h c k =
      let b : List ℕ = gap s r.at in
      let d : List ℕ = gap s (next s r.at + 1) in
      let l : List ℕ = 48 ∷ 125 ∷ [] in
      let g : ℕ = r.step.message in
      let m : More (with_member g 0) (125 ∷ []) (with_member g 0) = close (with_member g 0) (125 ∷ []) [] refl no-blank in
      let v : List ℕ = b ++ (44 ∷ (d ++ l)) in
      let u : More g v (with_member g 0) = comma g (with_member g 0) 0 v b d (48 ∷ []) (125 ∷ []) refl (gap-blank s r.at) (gap-blank s (next s r.at + 1)) zero-digits (omega arith) m in
      let e : take r.at s ++ v ≡ take (next s (next s r.at + 1)) s ++ l =
      ap (λ (x : List ℕ). take r.at s ++ x) (sym (append_assoc b (44 ∷ d) l)) ∙ sym (append_assoc (take r.at s) (b ++ (44 ∷ d)) l)
      ∙ ap (λ (x : List ℕ). x ++ l) (sym (comma-front r h c).1) in
      let f : take (next s (next s r.at + 1)) s ≡ (take r.at s ++ b) ++ (44 ∷ d) = (comma-front r h c).1 ∙ sym (append_assoc (take r.at s) b (44 ∷ d)) in
      cut-last (take (next s (next s r.at + 1)) s) l
      (subst (λ (x : List ℕ). in_word (last_or 32 x) ≡ false) (sym f) (last_out (take r.at s ++ b) 44 d comma-out (gap-blank s (next s r.at + 1))))
      (subst Goes e (k v (with_member g 0) u))

  -- after a comma and a take
  comma-rest : (r : Reader) → r.at ≤ length s → comma_next s r ≡ true → Rest r
      → (m : Reader) → m ≡ member_at s (next s (next s r.at + 1)) r.step → m.expected ≡ 0 → Rest m
  unfolding with_field
  comma-rest r h c k m q z v g u =
      let n : ℕ = next s (next s r.at + 1) in
      let a = member-sound s n r.step (ap (λ (y : Reader). y.expected) (sym q) ∙ z) in
      let w : List ℕ = word_at s n in
      let x : m ≡ reached (n + length w) (with_field message_field (with_member r.step.message a.transactor) r.step) = q ∙ a.is in
      let b : List ℕ = gap s r.at in
      let d : List ℕ = gap s (next s r.at + 1) in
      let i : m.step.message ≡ with_member r.step.message a.transactor = ap (λ (y : Reader). y.step.message) x in
      let l : List ℕ = b ++ (44 ∷ (d ++ (w ++ v))) in
      let o : More r.step.message l g = comma r.step.message g a.transactor l b d w v refl (gap-blank s r.at) (gap-blank s (next s r.at + 1)) a.digits a.most (subst (λ (j : ℕ). More j v g) i u) in
      let f : take m.at s ≡ take n s ++ w =
      ap (λ (y : Reader). take y.at s) x ∙ front n (n + length w) w (word_cut s n) (comma-front r h c).0 (word-within s n (comma-front r h c).0) in
      let e : take r.at s ++ l ≡ take m.at s ++ v =
      ap (λ (y : List ℕ). take r.at s ++ y) (sym (append_assoc b (44 ∷ d) (w ++ v))) ∙ sym (append_assoc (take r.at s) (b ++ (44 ∷ d)) (w ++ v))
      ∙ ap (λ (y : List ℕ). y ++ (w ++ v)) (sym (comma-front r h c).1) ∙ sym (append_assoc (take n s) w v) ∙ ap (λ (y : List ℕ). y ++ v) (sym f) in
      subst Goes e (k l g o)

  more-goes : (f : ℕ) (r : Reader) → r.at ≤ length s → r.expected ≡ 0 → Rest r → Faulty (closed s (more_members f s r)) → Next (take (closed s (more_members f s r)).at s)
  more-goes zero r h z k n =
      subst (λ (y : Reader). Faulty (closed s y) → Next (take (closed s y).at s)) (sym (more-zero s r)) (closed-goes r h z k) n
  more-goes (suc f) r h z k n = go (comma_next s r) refl (more-goes f)
    where
      m : Reader
      m = member_at s (next s (next s r.at + 1)) r.step

      at-member : (c : comma_next s r ≡ true) → ((r : Reader) → r.at ≤ length s → r.expected ≡ 0 → Rest r → Faulty (closed s (more_members f s r)) → Next (take (closed s (more_members f s r)).at s))
          → (b : Bool) → eqb m.expected 0 ≡ b → Faulty (closed s (more_members f s m)) → Next (take (closed s (more_members f s m)).at s)
      at-member c ih true e y =
          let a : m.expected ≡ 0 = eqb-true m.expected 0 e in
          ih m (member-within s (next s (next s r.at + 1)) r.step (comma-front r h c).0) a (comma-rest r h c k m refl a) y
      at-member c ih false e y =
          let a : Faulty m = eqb-false m.expected 0 e in
          let q : closed s (more_members f s m) ≡ m = ap (closed s) (more_stays f m a) ∙ closed-stays m a in
          let u : (closed s (more_members f s m)).at ≡ next s (next s r.at + 1) = ap (λ (x : Reader). x.at) q ∙ member-fault (next s (next s r.at + 1)) r.step a in
          subst (λ (x : ℕ). Next (take x s)) (sym u) (comma-goes r h c k)

      go : (t : Bool) → comma_next s r ≡ t → ((r : Reader) → r.at ≤ length s → r.expected ≡ 0 → Rest r → Faulty (closed s (more_members f s r)) → Next (take (closed s (more_members f s r)).at s))
          → Next (take (closed s (more_members (suc f) s r)).at s)
      go true c ih =
          let e : more_members (suc f) s r ≡ more_members f s m = more-suc s f r ∙ ap (more_members f s) (one-comma s r c) in
          subst (λ (y : Reader). Faulty (closed s y) → Next (take (closed s y).at s)) (sym e) (at-member c ih (eqb m.expected 0) refl) n
      go false c ih =
          subst (λ (y : Reader). Faulty (closed s y) → Next (take (closed s y).at s)) (sym (idle s r c (suc f))) (closed-goes r h z k) n

  -- after the opening brace
  abbrev Opened : ℕ → Type 0
  Opened at = (w : List ℕ) (g : ℕ) → ((b : List ℕ) → Blanks b → Group (123 ∷ (b ++ w)) g) → Goes (take at s ++ w)

  members-goes : (at : ℕ) (p : Step) → p.message ≡ 0 → at ≤ length s → in_word (last_or 32 (take at s)) ≡ false → Opened at → Faulty (members_at s at p) → Next (take (members_at s at p).at s)
  unfolding members_at with_field
  members-goes at p z h o k =
      pick-view (λ (y : Reader). Faulty y → Next (take y.at s)) (eqb (get_or s at 0) 125) _ _
      (λ e n. absurd (n refl))
      (λ e n. go (eqb (member_at s at p).expected 0) refl n)
    where
      f : Reader
      f = member_at s at p

      go : (b : Bool) → eqb f.expected 0 ≡ b → Faulty (closed s (more_members (length s) s f)) → Next (take (closed s (more_members (length s) s f)).at s)
      go true e n =
          let c : f.expected ≡ 0 = eqb-true f.expected 0 e in
          let m = member-sound s at p c in
          let w : List ℕ = word_at s at in
          let a : take f.at s ≡ take at s ++ w = ap (λ (y : Reader). take y.at s) m.is ∙ front at (at + length w) w (word_cut s at) h (word-within s at h) in
          let i : f.step.message ≡ with_member 0 m.transactor = ap (λ (y : Reader). y.step.message) m.is ∙ ap (λ (j : ℕ). with_member j m.transactor) z in
          more-goes (length s) f (member-within s at p h) c
          (λ v g u. subst Goes (sym (append_assoc (take at s) w v) ∙ ap (λ (y : List ℕ). y ++ v) (sym a))
          (k (w ++ v) g (λ b x. transactors g m.transactor (123 ∷ (b ++ (w ++ v))) b w v refl x m.digits m.most (subst (λ (j : ℕ). More j v g) i u)))) n
      go false e n =
          let a : Faulty f = eqb-false f.expected 0 e in
          let q : closed s (more_members (length s) s f) ≡ f = ap (closed s) (more_stays (length s) f a) ∙ closed-stays f a in
          let u : (closed s (more_members (length s) s f)).at ≡ at = ap (λ (x : Reader). x.at) q ∙ member-fault at p a in
          subst (λ (x : ℕ). Next (take x s)) (sym u)
          (cut-last (take at s) (48 ∷ 125 ∷ []) o
          (k (48 ∷ 125 ∷ []) (with_member 0 0) (λ b x. transactors (with_member 0 0) 0 (123 ∷ (b ++ (48 ∷ 125 ∷ []))) b (48 ∷ []) (125 ∷ []) refl x zero-digits (omega arith) (close (with_member 0 0) (125 ∷ []) [] refl no-blank))))

  group_at-goes : (at : ℕ) (p : Step) → at ≤ length s → ((w : List ℕ) (g : ℕ) → Group w g → Goes (take at s ++ w)) → Faulty (group_at s at p) → Next (take (group_at s at p).at s)
  unfolding group_at with_field
  group_at-goes at p h k =
      pick-view (λ (y : Reader). Faulty y → Next (take y.at s)) (eqb (get_or s at 0) 123) _ _
      (λ e n.
      let a : at < length s = byte-within s at 123 (omega arith) e in
      let b : List ℕ = gap s (at + 1) in
      let i : ℕ = next s (at + 1) in
      let c : i ≤ length s = next-within s (at + 1) (omega arith) in
      let f : take i s ≡ take at s ++ (123 ∷ b) = front at i (123 ∷ b) (byte_cut s at 123 (omega arith) e ∙ ap (λ (l : List ℕ). 123 ∷ l) (gap-cut s (at + 1))) h c in
      members-goes i (with_field message_field 0 p) refl c (subst (λ (x : List ℕ). in_word (last_or 32 x) ≡ false) (sym f) (last_out (take at s) 123 b open-out (gap-blank s (at + 1))))
      (λ w g u. subst Goes (sym (append_assoc (take at s) (123 ∷ b) w) ∙ ap (λ (y : List ℕ). y ++ w) (sym f)) (k (123 ∷ (b ++ w)) g (u b (gap-blank s (at + 1))))) n)
      (λ e n. cut-head (take at s) 123 (125 ∷ []) open-out (k (123 ∷ 125 ∷ []) 0 (empty (123 ∷ 125 ∷ []) [] refl no-blank)))

  -- ---- items

  abbrev Left : Reader → List ℕ → Type 0
  Left r cs = (w : List ℕ) (p : Step) → Items r.step cs w p → Goes (take r.at s ++ w)

  module _ (r : Reader) (c : ℕ) (cs : List ℕ) (i : is_item c ≡ true) (a : all is_item cs ≡ true) (h : r.at ≤ length s) (z : r.expected ≡ 0) (k : Left r (c ∷ cs)) where
    -- the item's own place
    place-goes : Next (take (next s r.at) s)
    place-goes =
        let b : List ℕ = gap s r.at in
        let q = plain r.step c (item-view c i) in
        let l = plains q.step cs a in
        let x : List ℕ = nought c ++ l.words in
        let v = plains-first r.step c cs b (gap-blank s r.at) q l in
        cut-head (take (next s r.at) s) 32 x space-out
        (subst Goes (ap (λ (y : List ℕ). take r.at s ++ y) (append_assoc b (32 ∷ []) x) ∙ sym (append_assoc (take r.at s) b (32 ∷ x)) ∙ ap (λ (y : List ℕ). y ++ (32 ∷ x)) (sym (gap-front r.at h)))
        (k ((b ++ (32 ∷ [])) ++ x) l.step v))

    group-goes : c ≡ group_field → (w : List ℕ) (g : ℕ) → Group w g → Goes (take (next s r.at) s ++ w)
    group-goes e w g u =
        let b : List ℕ = gap s r.at in
        let q : Step = with_field message_field g r.step in
        let l = plains q cs a in
        let x : List ℕ = b ++ (w ++ l.words) in
        let v : Items r.step (c ∷ cs) x l.step =
        item r.step q l.step c cs x b w l.words refl (gap-blank s r.at) (group-apart b w g u) (subst (λ (j : ℕ). Item r.step j w q) (sym e) (group g w q u refl)) l.are in
        shorter (take (next s r.at) s ++ w) l.words
        (subst Goes (sym (append_assoc (take r.at s) b (w ++ l.words)) ∙ ap (λ (y : List ℕ). y ++ (w ++ l.words)) (sym (gap-front r.at h)) ∙ sym (append_assoc (take (next s r.at) s) w l.words))
        (k x l.step v))

    word-goes : Faulty (word_item c s (next s r.at) r.step) → Next (take (word_item c s (next s r.at) r.step).at s)
    unfolding word_item
    word-goes = pick-view (λ (y : Reader). Faulty y → Next (take y.at s)) (fits c (word_at s (next s r.at))) _ _ (λ e n. absurd (n refl)) (λ e n. place-goes)

    item-goes : Faulty (item_of s r c) → Next (take (item_of s r c).at s)
    unfolding item_of
    item-goes =
        pick-view (λ (y : Reader). Faulty y → Next (take y.at s)) (good r) _ _
        (λ g. pick-view (λ (y : Reader). Faulty y → Next (take y.at s)) (eqb c group_field) _ _
        (λ e n. group_at-goes (next s r.at) r.step (next-within s r.at h) (group-goes (eqb-true c group_field e)) n)
        (λ e n. word-goes n))
        (λ g n. absurd (n z))

  pub items-stays : (cs : List ℕ) (r : Reader) → Faulty r → items s cs r ≡ r
  unfolding items item_of
  items-stays [] r n = refl
  items-stays (c ∷ cs) r n = ap (items s cs) (ap (λ (b : Bool). pick b (pick (eqb c group_field) (group_at s (next s r.at) r.step) (word_item c s (next s r.at) r.step)) r) (ne_eqb r.expected 0 n)) ∙ items-stays cs r n

  -- after an item without fault
  left-next : (r : Reader) (c : ℕ) (cs : List ℕ) → is_item c ≡ true → r.at ≤ length s → stops in_word (drop r.at s) ≡ true → (item_of s r c).expected ≡ 0 → Left r (c ∷ cs) → Left (item_of s r c) cs
  left-next r c cs i h t e k w p u =
      let q = item-sound s r t c i e in
      let x : List ℕ = q.gaps ++ (q.words ++ w) in
      let f : take (item_of s r c).at s ≡ take r.at s ++ (q.gaps ++ q.words) =
      front r.at (item_of s r c).at (q.gaps ++ q.words) (q.place ∙ sym (append_assoc q.gaps q.words (drop (item_of s r c).at s))) h (item-within s r c h) in
      let d : take r.at s ++ x ≡ take (item_of s r c).at s ++ w =
      ap (λ (y : List ℕ). take r.at s ++ y) (sym (append_assoc q.gaps q.words w)) ∙ sym (append_assoc (take r.at s) (q.gaps ++ q.words) w) ∙ ap (λ (y : List ℕ). y ++ w) (sym f) in
      subst Goes d (k x p (item r.step (item_of s r c).step p c cs x q.gaps q.words w refl q.blank q.apart q.item u))

  items-goes : (cs : List ℕ) (r : Reader) → all is_item cs ≡ true → group_last cs ≡ true → r.at ≤ length s → stops in_word (drop r.at s) ≡ true → r.expected ≡ 0 → Left r cs
      → Faulty (items s cs r) → Next (take (items s cs r).at s)
  unfolding items all group_last
  items-goes [] r a v h t z k n = absurd (n z)
  items-goes (c ∷ []) r a v h t z k n = item-goes r c [] (both (is_item c) true a).0 refl h z k n
  items-goes (c ∷ d ∷ cs) r a v h t z k n = go (eqb (item_of s r c).expected 0) refl (items-goes (d ∷ cs)) n
    where
      m : Reader
      m = item_of s r c

      go : (b : Bool) → eqb m.expected 0 ≡ b → ((r : Reader) → all is_item (d ∷ cs) ≡ true → group_last (d ∷ cs) ≡ true → r.at ≤ length s → stops in_word (drop r.at s) ≡ true → r.expected ≡ 0 → Left r (d ∷ cs)
          → Faulty (items s (d ∷ cs) r) → Next (take (items s (d ∷ cs) r).at s)) → Faulty (items s (d ∷ cs) m) → Next (take (items s (d ∷ cs) m).at s)
      go true e ih y =
          let b = both (is_item c) (is_item d and all is_item cs) a in
          let u = both (not (eqb c group_field)) (group_last (d ∷ cs)) v in
          let x : m.expected ≡ 0 = eqb-true m.expected 0 e in
          let q = item-sound s r t c b.0 x in
          ih m b.1 u.1 (item-within s r c h) (q.ends (eqb-false c group_field (not-true (eqb c group_field) u.0))) x (left-next r c (d ∷ cs) b.0 h t x k) y
      go false e ih y =
          let x : Faulty m = eqb-false m.expected 0 e in
          let b = both (is_item c) (is_item d and all is_item cs) a in
          subst (λ (j : Reader). Next (take j.at s)) (sym (items-stays (d ∷ cs) m x)) (item-goes r c (d ∷ cs) b.0 b.1 h z k x)

  -- ---- the line

  -- blanks go on with a kind
  pub kind-goes : Next (take (next s 0) s)
  kind-goes =
      let b : List ℕ = gap s 0 in
      let l = plains (empty_step 0) (template_of 0) (row 0 (omega arith)).fields in
      let f : take (next s 0) s ≡ b = gap-front 0 (omega arith) in
      record {
        rest = name_of 0 ++ (l.words ++ []);
        step = l.step;
        says = subst (λ (y : List ℕ). Says (y ++ (name_of 0 ++ (l.words ++ []))) l.step) (sym f)
            (line 0 (b ++ (name_of 0 ++ (l.words ++ []))) b l.words [] l.step (omega arith) refl (gap-blank s 0) l.are no-blank);
        whole = parted-last (take (next s 0) s) (name_of 0 ++ (l.words ++ [])) (subst (λ (y : List ℕ). in_word (last_or 32 y) ≡ false) (sym f) (last-blanks 32 b space-out (gap-blank s 0)));
      }

  ended-goes : (r : Reader) → r.at ≤ length s → r.expected ≡ 0 → ((e : List ℕ) → Blanks e → Goes (take r.at s ++ e)) → Faulty (ended s r) → Next (take (ended s r).at s)
  unfolding ended
  ended-goes r h z k =
      pick-view (λ (y : Reader). Faulty y → Next (take y.at s)) (good r and ltb (next s r.at) (length s)) _ _
      (λ g n. cut-head (take (next s r.at) s) 32 [] space-out
      (subst Goes (sym (append_assoc (take r.at s) (gap s r.at) (32 ∷ [])) ∙ ap (λ (y : List ℕ). y ++ (32 ∷ [])) (sym (gap-front r.at h)))
      (k (gap s r.at ++ (32 ∷ [])) (blanks-more (gap s r.at) (32 ∷ []) (gap-blank s r.at) space-blank))))
      (λ g n. absurd (n z))

  pub ended-stays : (r : Reader) → Faulty r → ended s r ≡ r
  unfolding ended
  ended-stays r n = rw (ne_eqb r.expected 0 n)

  module _ (b : row_named (word_at s (next s 0)) < 14) where
    abbrev k : ℕ
    k = row_named (word_at s (next s 0))

    abbrev r : Reader
    r = reached (next s 0 + length (word_at s (next s 0))) (empty_step k)

    inside : next s 0 ≤ length s
    inside = next-within s 0 (omega arith)

    -- the name, with the blanks before it
    name-front : take (next s 0 + length (word_at s (next s 0))) s ≡ gap s 0 ++ name_of k
    name-front =
        front (next s 0) (next s 0 + length (word_at s (next s 0))) (word_at s (next s 0)) (word_cut s (next s 0)) inside (word-within s (next s 0) inside)
        ∙ ap (λ (y : List ℕ). y ++ word_at s (next s 0)) (gap-front 0 (omega arith)) ∙ ap (λ (y : List ℕ). gap s 0 ++ y) (sym (name-of-row (word_at s (next s 0)) b))

    -- items and blanks after it
    line-left : (w e : List ℕ) (p : Step) → Items (empty_step k) (template_of k) w p → Blanks e → Goes (take r.at s ++ (w ++ e))
    line-left w e p u a =
        record {
          rest = [];
          step = p;
          says = subst (λ (y : List ℕ). Says y p)
              (sym (append-nil (take (next s 0 + length (word_at s (next s 0))) s ++ (w ++ e))))
              (line k (take (next s 0 + length (word_at s (next s 0))) s ++ (w ++ e)) (gap s 0) w e p b (ap (λ (y : List ℕ). y ++ (w ++ e)) name-front ∙ append_assoc (gap s 0) (name_of k) (w ++ e)) (gap-blank s 0) u a);
        }

    line-fields : all is_item (template_of k) ≡ true
    line-fields = (row k b).fields

    line-last : group_last (template_of k) ≡ true
    line-last = every-at (λ j. group_last (template_of j)) 14 k rows_last b

    known-goes : Faulty (ended s (items s (template_of k) r)) → Next (take (ended s (items s (template_of k) r)).at s)
    known-goes n = go (eqb x.expected 0) refl
      where
        x : Reader
        x = items s (template_of k) r

        start : r.at ≤ length s
        start = word-within s (next s 0) inside

        go : (t : Bool) → eqb x.expected 0 ≡ t → Next (take (ended s x).at s)
        go true e =
            let z : x.expected ≡ 0 = eqb-true x.expected 0 e in
            let i = items-sound s (template_of k) r line-fields line-last (word-stops s (next s 0)) z in
            let w : x.at ≤ length s = items-within s (template_of k) r start in
            let f : take x.at s ≡ take r.at s ++ i.words = front r.at x.at i.words i.place start w in
            ended-goes x w z
            (λ c a. subst Goes (sym (append_assoc (take r.at s) i.words c) ∙ ap (λ (y : List ℕ). y ++ c) (sym f)) (line-left i.words c x.step i.items a)) n
        go false e =
            let z : Faulty x = eqb-false x.expected 0 e in
            subst (λ (y : Reader). Next (take y.at s)) (sym (ended-stays x z))
            (items-goes (template_of k) r line-fields line-last start (word-stops s (next s 0)) refl
            (λ w p u. subst Goes (ap (λ (y : List ℕ). take r.at s ++ y) (append-nil w)) (line-left w [] p u no-blank)) z)

  -- What stands before a fault goes on to a line that says a step.
  pub line-goes : Faulty (line_at s (next s 0)) → Next (take (line_at s (next s 0)).at s)
  unfolding line_at
  line-goes =
      pick-view (λ (y : Reader). Faulty y → Next (take y.at s)) (ltb (row_named (word_at s (next s 0))) 14) _ _
      (λ e n. known-goes (ltb-true (row_named (word_at s (next s 0))) 14 e) n)
      (λ e n. kind-goes)
