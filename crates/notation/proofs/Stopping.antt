-- No line that says a step goes on past a fault: a line that is the same up to the fault has the same fault.
use Prim.Native.Nat.{ℕ, zero, suc, ◌+◌, ◌-◌, ◌≤◌, ◌<◌}
use mathlib.Core.Bool.{Bool, true, false}
use mathlib.Core.Path.{◌≡◌, refl, sym, ap, ◌∙◌, subst}
use mathlib.Core.List.{List, [], ◌∷◌}
use native.Mathlib.Omega.{arith}
use borrow.Author.Tests.{ltb-true, lt-ltb, leb-true, eqb-true, eqb-false, eq-eqb, ne_eqb}
use lib.Dec.{eqb, ltb, leb}
use lib.ListN.{length, take, drop, get_or, length-take}
use lib.Seq.{take-take, get_or-take}
use Rattle.octets.specs.Bytes.{pick, ◌and◌}
use Rattle.octets.proofs.Tests.{pick-view}
use Rattle.octets.proofs.Zero.{both}
use Rattle.rules.specs.declared.Step.{Step}
use Rattle.notation.specs.Notation.{transactor_field, message_field, group_field, template_of}
use Rattle.notation.specs.Reading.{Reader, blank, in_word, not_hash, run, all, a_kind, comma_or_brace, line_end, next, word_at, is_number, most_of, fits, of_decimal, with_field, with_item, with_member, good, reached, missing, word_item, member_at, comma_next, one_more, more_members, closed, members_at, group_at, item as item_of, items, ended, row_named, empty_step, line_at, said}
use Rattle.notation.specs.Grammar.{Blanks, Says}
use Rattle.notation.specs.Faults.{parted, Next, Lacking, a_word, Column, FirstByte}
use Rattle.notation.proofs.Within.{run-most, next-from, byte-within}
use Rattle.notation.proofs.Groups.{idle}
use Rattle.notation.proofs.Items.{is_item}
use Rattle.notation.proofs.Rows.{row}
use Rattle.notation.proofs.Accepted.{accepted}
use Rattle.notation.proofs.Sound.{gap-blank, one-comma, more-suc, more-zero}
use Rattle.notation.proofs.Columns.{Faulty, closed-stays, more_stays, items-stays, ended-stays}

-- no line m without comment that says a step begins as s does and has at place at what s has there
pub record Stops (s : List ℕ) (at e : ℕ) : Type 0 where
  pub none : (m : List ℕ) (p : Step) → Says m p → take (suc at) m ≡ take (suc at) s → (a_word e ≡ true → word_at m at ≡ word_at s at) → ⊥

-- ---- two lists that begin alike

nil-cons : (n c : ℕ) (y : List ℕ) → ◌≡◌ {A = List ℕ} [] (c ∷ take n y) → ⊥
nil-cons n c y e = omega (arith, ap length e)

module _ (f : ℕ → Bool) where
  -- a run that ends before the end of what is the same
  run-same : (n : ℕ) (x y : List ℕ) → take (suc n) x ≡ take (suc n) y → run f y ≤ n → run f x ≡ run f y
  unfolding run
  run-same n [] [] e h = refl
  run-same n [] (c ∷ y) e h = absurd (nil-cons n c y e)
  run-same n (d ∷ x) [] e h = absurd (nil-cons n d x (sym e))
  run-same zero (d ∷ x) (c ∷ y) e h =
      ap (λ (k : ℕ). pick (f k) (suc (run f x)) 0) (ap (λ (l : List ℕ). get_or l 0 0) e) ∙ go (f c) h
    where
      go : (t : Bool) → pick t (suc (run f y)) 0 ≤ 0 → pick t (suc (run f x)) 0 ≡ pick t (suc (run f y)) 0
      go true h = absurd (omega arith)
      go false h = refl
  run-same (suc n) (d ∷ x) (c ∷ y) e h =
      ap (λ (k : ℕ). pick (f k) (suc (run f x)) 0) (ap (λ (l : List ℕ). get_or l 0 0) e) ∙ go (f c) h (run-same n x y (ap (drop 1) e))
    where
      go : (t : Bool) → pick t (suc (run f y)) 0 ≤ suc n → (run f y ≤ n → run f x ≡ run f y) → pick t (suc (run f x)) 0 ≡ pick t (suc (run f y)) 0
      go true h ih = ap suc (ih (omega arith))
      go false h ih = refl

drop-same : (i n b : ℕ) (x y : List ℕ) → i + n ≤ b → take b x ≡ take b y → take n (drop i x) ≡ take n (drop i y)
drop-same zero n b x y h e = sym (take-take n b x (omega arith)) ∙ ap (take n) e ∙ take-take n b y (omega arith)
drop-same (suc i) n zero x y h e = absurd (omega arith)
drop-same (suc i) n (suc b) [] [] h e = refl
drop-same (suc i) n (suc b) [] (c ∷ y) h e = absurd (nil-cons b c y e)
drop-same (suc i) n (suc b) (d ∷ x) [] h e = absurd (nil-cons b d x (sym e))
drop-same (suc i) n (suc b) (d ∷ x) (c ∷ y) h e = drop-same i n b x y (omega arith) (ap (drop 1) e)

-- ---- a reader does not go back

module _ (s : List ℕ) where
  member-from : (at : ℕ) (p : Step) → at ≤ (member_at s at p).at
  unfolding member_at
  member-from at p = pick-view (λ (y : Reader). at ≤ y.at) (is_number (most_of transactor_field) (word_at s at)) _ _ (λ e. omega arith) (λ e. omega arith)

  one_from : (r : Reader) → r.at ≤ (one_more s r).at
  unfolding one_more
  one_from r =
      pick-view (λ (y : Reader). r.at ≤ y.at) (comma_next s r) _ _
      (λ e. omega (arith, next-from s r.at, next-from s (next s r.at + 1), member-from (next s (next s r.at + 1)) r.step)) (λ e. omega arith)

  more-from : (n : ℕ) (r : Reader) → r.at ≤ (more_members n s r).at
  unfolding more_members
  more-from zero r = omega arith
  more-from (suc n) r = omega (arith, one_from r, more-from n (one_more s r))

  -- a closing brace is looked for behind blanks
  closed-next : (r : Reader) → r.expected ≡ 0 → next s r.at ≤ (closed s r).at
  unfolding closed
  closed-next r z =
      pick-view (λ (y : Reader). next s r.at ≤ y.at) (good r) _ _
      (λ g. pick-view (λ (y : Reader). next s r.at ≤ y.at) (eqb (get_or s (next s r.at) 0) 125) _ _ (λ e. omega arith) (λ e. omega arith))
      (λ g. absurd (eqb-false r.expected 0 g z))

  closed-from : (r : Reader) → r.at ≤ (closed s r).at
  unfolding closed
  closed-from r =
      pick-view (λ (y : Reader). r.at ≤ y.at) (good r) _ _
      (λ g. pick-view (λ (y : Reader). r.at ≤ y.at) (eqb (get_or s (next s r.at) 0) 125) _ _ (λ e. omega (arith, next-from s r.at)) (λ e. omega (arith, next-from s r.at)))
      (λ g. omega arith)

  members-from : (at : ℕ) (p : Step) → at ≤ (members_at s at p).at
  unfolding members_at
  members-from at p =
      pick-view (λ (y : Reader). at ≤ y.at) (eqb (get_or s at 0) 125) _ _ (λ e. omega arith)
      (λ e. omega (arith, member-from at p, more-from (length s) (member_at s at p), closed-from (more_members (length s) s (member_at s at p))))

  group-from : (at : ℕ) (p : Step) → at ≤ (group_at s at p).at
  unfolding group_at
  group-from at p =
      pick-view (λ (y : Reader). at ≤ y.at) (eqb (get_or s at 0) 123) _ _
      (λ e. omega (arith, next-from s (at + 1), members-from (next s (at + 1)) (with_field message_field 0 p))) (λ e. omega arith)

  word-from : (c at : ℕ) (p : Step) → at ≤ (word_item c s at p).at
  unfolding word_item
  word-from c at p = pick-view (λ (y : Reader). at ≤ y.at) (fits c (word_at s at)) _ _ (λ e. omega arith) (λ e. omega arith)

  item-next : (r : Reader) (c : ℕ) → r.expected ≡ 0 → next s r.at ≤ (item_of s r c).at
  unfolding item_of
  item-next r c z =
      pick-view (λ (y : Reader). next s r.at ≤ y.at) (good r) _ _
      (λ g. pick-view (λ (y : Reader). next s r.at ≤ y.at) (eqb c group_field) _ _ (λ e. group-from (next s r.at) r.step) (λ e. word-from c (next s r.at) r.step))
      (λ g. absurd (eqb-false r.expected 0 g z))

  item_from : (r : Reader) (c : ℕ) → r.at ≤ (item_of s r c).at
  unfolding item_of
  item_from r c =
      pick-view (λ (y : Reader). r.at ≤ y.at) (good r) _ _
      (λ g. pick-view (λ (y : Reader). r.at ≤ y.at) (eqb c group_field) _ _
      (λ e. omega (arith, next-from s r.at, group-from (next s r.at) r.step)) (λ e. omega (arith, next-from s r.at, word-from c (next s r.at) r.step)))
      (λ g. omega arith)

  items-from : (cs : List ℕ) (r : Reader) → r.at ≤ (items s cs r).at
  unfolding items
  items-from [] r = omega arith
  items-from (c ∷ cs) r = omega (arith, item_from r c, items-from cs (item_of s r c))

  ended-from : (r : Reader) → r.at ≤ (ended s r).at
  unfolding ended
  ended-from r = pick-view (λ (y : Reader). r.at ≤ y.at) (good r and ltb (next s r.at) (length s)) _ _ (λ e. next-from s r.at) (λ e. omega arith)

  line-from : (at : ℕ) → at ≤ (line_at s at).at
  unfolding line_at
  line-from at =
      pick-view (λ (y : Reader). at ≤ y.at) (ltb (row_named (word_at s at)) 14) _ _
      (λ e. omega (
        arith,
        items-from (template_of (row_named (word_at s at))) (reached (at + length (word_at s at)) (empty_step (row_named (word_at s at)))),
        ended-from (items s (template_of (row_named (word_at s at))) (reached (at + length (word_at s at)) (empty_step (row_named (word_at s at))))),
      ))
      (λ e. omega arith)

-- ---- two lines that are the same up to and with place b

module _ (s m : List ℕ) (b : ℕ) (h : take (suc b) m ≡ take (suc b) s) where
  rest-same : (i : ℕ) → i ≤ b → take (suc (b - i)) (drop i m) ≡ take (suc (b - i)) (drop i s)
  rest-same i k = drop-same i (suc (b - i)) (suc b) m s (omega arith) h

  next-same : (i : ℕ) → next s i ≤ b → next m i ≡ next s i
  unfolding next
  next-same i k = ap (λ (n : ℕ). i + n) (run-same blank (b - i) (drop i m) (drop i s) (rest-same i (omega arith)) (omega arith))

  pub word_same : (i : ℕ) → i + length (word_at s i) ≤ b → word_at m i ≡ word_at s i
  unfolding word_at
  word_same i k =
      let n : ℕ = run in_word (drop i s) in
      let a : n ≤ b - i = omega (arith, run-most in_word (drop i s), length-take (run in_word (drop i s)) (drop i s)) in
      let q = rest-same i (omega arith) in
      ap (λ (j : ℕ). take j (drop i m)) (run-same in_word (b - i) (drop i m) (drop i s) q a)
      ∙ sym (take-take n (suc (b - i)) (drop i m) (omega arith)) ∙ ap (take n) q ∙ take-take n (suc (b - i)) (drop i s) (omega arith)

  byte-same : (i : ℕ) → i ≤ b → get_or m i 0 ≡ get_or s i 0
  byte-same i k = sym (get_or-take (suc b) m i 0 (omega arith)) ∙ ap (λ (l : List ℕ). get_or l i 0) h ∙ get_or-take (suc b) s i 0 (omega arith)

  there-same : (i : ℕ) → i ≤ b → i < length s → i < length m
  there-same i k l = omega (arith, length-take (suc b) m, length-take (suc b) s, ap length h)

  -- where a word was expected at y's fault, both lines have the same
  abbrev Known : Reader → Type 0
  Known y = Faulty s y → a_word y.expected ≡ true → word_at m y.at ≡ word_at s y.at

  -- a fault that stays is known from the start
  known-stays : (x y : Reader) → (Faulty s x → y ≡ x) → Known y → Known x
  known-stays x y e k n = subst Known (e n) k n

  -- ---- words and takes

  word_read : (c at : ℕ) (p : Step) → 0 < c → a_word c ≡ true → (word_item c s at p).at ≤ b → Known (word_item c s at p) → word_at m at ≡ word_at s at
  unfolding word_item
  word_read c at p z v =
      pick-view (λ (y : Reader). y.at ≤ b → Known y → word_at m at ≡ word_at s at) (fits c (word_at s at)) _ _ (λ e l k. word_same at l) (λ e l k. k (λ (q : c ≡ 0). omega arith) v)

  word-item : (c at : ℕ) (p : Step) → 0 < c → a_word c ≡ true → (word_item c s at p).at ≤ b → Known (word_item c s at p) → word_item c m at p ≡ word_item c s at p
  unfolding word_item
  word-item c at p z v l k =
      ap (λ (w : List ℕ). pick (fits c w) (reached (at + length w) (with_item c w p)) (missing at p c)) (word_read c at p z v l k)

  transactor-word : a_word transactor_field ≡ true
  unfolding a_word
  transactor-word = refl

  member-read : (at : ℕ) (p : Step) → (member_at s at p).at ≤ b → Known (member_at s at p) → word_at m at ≡ word_at s at
  unfolding member_at
  member-read at p =
      pick-view (λ (y : Reader). y.at ≤ b → Known y → word_at m at ≡ word_at s at) (is_number (most_of transactor_field) (word_at s at)) _ _
      (λ e l k. word_same at l) (λ e l k. k (λ (q : transactor_field ≡ 0). omega arith) transactor-word)

  member-same : (at : ℕ) (p : Step) → (member_at s at p).at ≤ b → Known (member_at s at p) → member_at m at p ≡ member_at s at p
  unfolding member_at
  member-same at p l k =
      ap (λ (w : List ℕ). pick (is_number (most_of transactor_field) w) (reached (at + length w) (with_field message_field (with_member p.message (of_decimal 0 w)) p)) (missing at p transactor_field))
      (member-read at p l k)

  -- ---- volumes

  comma-same : (r : Reader) → next s r.at ≤ b → comma_next m r ≡ comma_next s r
  unfolding comma_next
  comma-same r l =
      ap (λ (n : ℕ). good r and eqb (get_or m n 0) 44) (next-same r.at l) ∙ ap (λ (c : ℕ). good r and eqb c 44) (byte-same (next s r.at) l)

  closed-good : (r : Reader) → next s r.at ≤ b → closed m r ≡ closed s r
  unfolding closed
  closed-good r l =
      ap (λ (n : ℕ). pick (good r) (pick (eqb (get_or m n 0) 125) (reached (n + 1) r.step) (missing n r.step comma_or_brace)) r) (next-same r.at l)
      ∙ ap (λ (c : ℕ). pick (good r) (pick (eqb c 125) (reached (next s r.at + 1) r.step) (missing (next s r.at) r.step comma_or_brace)) r) (byte-same (next s r.at) l)

  -- no comma more
  last-same : (g : ℕ) (r : Reader) → r.expected ≡ 0 → comma_next s r ≡ false → (closed s r).at ≤ b → closed m (more_members g m r) ≡ closed s r
  last-same g r z c l =
      let a : next s r.at ≤ b = omega (arith, closed-next s r z) in
      ap (closed m) (idle m r (comma-same r a ∙ c) g) ∙ closed-good r a

  comma-there : (l : List ℕ) (r : Reader) → comma_next l r ≡ true → r.at < length l
  unfolding comma_next
  comma-there l r c = omega (arith, next-from l r.at, byte-within l (next l r.at) 44 (omega arith) (both (good r) (eqb (get_or l (next l r.at) 0) 44) c).1)

  -- after a comma, the same take
  member-next : (r : Reader) → (member_at s (next s (next s r.at + 1)) r.step).at ≤ b → Known (member_at s (next s (next s r.at + 1)) r.step)
      → member_at m (next m (next m r.at + 1)) r.step ≡ member_at s (next s (next s r.at + 1)) r.step
  member-next r l k =
      let n : ℕ = next s (next s r.at + 1) in
      let a : n ≤ b = omega (arith, member-from s n r.step) in
      ap (λ (i : ℕ). member_at m (next m (i + 1)) r.step) (next-same r.at (omega (arith, next-from s (next s r.at + 1))))
      ∙ ap (λ (i : ℕ). member_at m i r.step) (next-same (next s r.at + 1) a)
      ∙ member-same n r.step l k

  abbrev More : ℕ → Type 0
  More f = (g : ℕ) (r : Reader) → r.expected ≡ 0 → length s ≤ r.at + f → length m ≤ r.at + g → (closed s (more_members f s r)).at ≤ b → Known (closed s (more_members f s r))
      → closed m (more_members g m r) ≡ closed s (more_members f s r)

  group-stays : (l : List ℕ) (f : ℕ) (x : Reader) → Faulty l x → closed l (more_members f l x) ≡ x
  group-stays l f x n = ap (closed l) (more_stays l f x n) ∙ closed-stays l x n

  -- from the take x on, with or without fault
  more-on : (f g : ℕ) (x : Reader) → More f → length s ≤ x.at + f → length m ≤ x.at + g → (closed s (more_members f s x)).at ≤ b → Known (closed s (more_members f s x))
      → closed m (more_members g m x) ≡ closed s (more_members f s x)
  more-on f g x ih u v l k = go (eqb x.expected 0) refl
    where
      go : (t : Bool) → eqb x.expected 0 ≡ t → closed m (more_members g m x) ≡ closed s (more_members f s x)
      go true e = ih g x (eqb-true x.expected 0 e) u v l k
      go false e = let n = eqb-false x.expected 0 e in group-stays m g x n ∙ sym (group-stays s f x n)

  -- the take after a comma is known
  transactor-known : (f : ℕ) (x : Reader) → (closed s (more_members f s x)).at ≤ b → Known (closed s (more_members f s x)) → (x.at ≤ b) × Known x
  transactor-known f x l k =
      (omega (arith, more-from s f x, closed-from s (more_members f s x)), known-stays x (closed s (more_members f s x)) (group-stays s f x) k)

  comma-more : (f g : ℕ) (r : Reader) → More f → comma_next s r ≡ true → length s ≤ r.at + suc f → length m ≤ r.at + g
      → (closed s (more_members f s (member_at s (next s (next s r.at + 1)) r.step))).at ≤ b → Known (closed s (more_members f s (member_at s (next s (next s r.at + 1)) r.step)))
      → closed m (more_members g m r) ≡ closed s (more_members f s (member_at s (next s (next s r.at + 1)) r.step))
  comma-more f g r ih c u v l k = go g v
    where
      x : Reader
      x = member_at s (next s (next s r.at + 1)) r.step

      y : Reader
      y = closed s (more_members f s x)

      from : next s r.at + 1 ≤ x.at
      from = omega (arith, next-from s (next s r.at + 1), member-from s (next s (next s r.at + 1)) r.step)

      same : comma_next m r ≡ true
      same = comma-same r (let j : x.at ≤ b = (transactor-known f x l k).0 in omega (arith, from)) ∙ c

      go : (g : ℕ) → length m ≤ r.at + g → closed m (more_members g m r) ≡ y
      go zero v = absurd (omega (arith, comma-there m r same))
      go (suc g) v =
          let j = transactor-known f x l k in
          let a = next-from s r.at in
          ap (closed m) (more-suc m g r ∙ ap (more_members g m) (one-comma m r same ∙ member-next r j.0 j.1))
          ∙ more-on f g x ih (omega (arith, from)) (omega (arith, from)) l k

  more_same : (f : ℕ) → More f
  more_same zero g r z u v l k = go (comma_next s r) refl
    where
      go : (t : Bool) → comma_next s r ≡ t → closed m (more_members g m r) ≡ closed s (more_members zero s r)
      go true c = absurd (omega (arith, comma-there s r c))
      go false c =
          let q : closed s (more_members zero s r) ≡ closed s r = ap (closed s) (more-zero s r) in
          last-same g r z c (subst (λ (y : Reader). y.at ≤ b) q l) ∙ sym q
  more_same (suc f) g r z u v l k = go (comma_next s r) refl (more_same f)
    where
      go : (t : Bool) → comma_next s r ≡ t → More f → closed m (more_members g m r) ≡ closed s (more_members (suc f) s r)
      go true c ih =
          let q : closed s (more_members (suc f) s r) ≡ closed s (more_members f s (member_at s (next s (next s r.at + 1)) r.step)) = ap (closed s) (more-suc s f r ∙ ap (more_members f s) (one-comma s r c)) in
          comma-more f g r ih c u v (subst (λ (y : Reader). y.at ≤ b) q l) (subst Known q k) ∙ sym q
      go false c ih =
          let q : closed s (more_members (suc f) s r) ≡ closed s r = ap (closed s) (idle s r c (suc f)) in
          last-same g r z c (subst (λ (y : Reader). y.at ≤ b) q l) ∙ sym q

  first-same : (at : ℕ) (p : Step) → (closed s (more_members (length s) s (member_at s at p))).at ≤ b → Known (closed s (more_members (length s) s (member_at s at p)))
      → closed m (more_members (length m) m (member_at m at p)) ≡ closed s (more_members (length s) s (member_at s at p))
  first-same at p l k =
      let j = transactor-known (length s) (member_at s at p) l k in
      ap (λ (x : Reader). closed m (more_members (length m) m x)) (member-same at p j.0 j.1)
      ∙ more-on (length s) (length m) (member_at s at p) (more_same (length s)) (omega arith) (omega arith) l k

  members-same : (at : ℕ) (p : Step) → at ≤ b → (members_at s at p).at ≤ b → Known (members_at s at p) → members_at m at p ≡ members_at s at p
  unfolding members_at
  members-same at p a =
      pick-view (λ (y : Reader). y.at ≤ b → Known y → pick (eqb (get_or m at 0) 125) (reached (at + 1) p) (closed m (more_members (length m) m (member_at m at p))) ≡ y) (eqb (get_or s at 0) 125) _ _
      (λ e l k. ap (λ (t : Bool). pick t (reached (at + 1) p) (closed m (more_members (length m) m (member_at m at p)))) (ap (λ (c : ℕ). eqb c 125) (byte-same at a) ∙ e))
      (λ e l k. ap (λ (t : Bool). pick t (reached (at + 1) p) (closed m (more_members (length m) m (member_at m at p)))) (ap (λ (c : ℕ). eqb c 125) (byte-same at a) ∙ e) ∙ first-same at p l k)

  -- after the brace
  brace-same : (at : ℕ) (p : Step) → (members_at s (next s (at + 1)) p).at ≤ b → Known (members_at s (next s (at + 1)) p) → members_at m (next m (at + 1)) p ≡ members_at s (next s (at + 1)) p
  brace-same at p l k =
      let a : next s (at + 1) ≤ b = omega (arith, members-from s (next s (at + 1)) p) in
      ap (λ (n : ℕ). members_at m n p) (next-same (at + 1) a) ∙ members-same (next s (at + 1)) p a l k

  group-same : (at : ℕ) (p : Step) → at ≤ b → (group_at s at p).at ≤ b → Known (group_at s at p) → group_at m at p ≡ group_at s at p
  unfolding group_at
  group-same at p a =
      pick-view (λ (y : Reader). y.at ≤ b → Known y → pick (eqb (get_or m at 0) 123) (members_at m (next m (at + 1)) (with_field message_field 0 p)) (missing at p group_field) ≡ y) (eqb (get_or s at 0) 123) _ _
      (λ e l k. ap (λ (t : Bool). pick t (members_at m (next m (at + 1)) (with_field message_field 0 p)) (missing at p group_field)) (ap (λ (c : ℕ). eqb c 123) (byte-same at a) ∙ e) ∙ brace-same at (with_field message_field 0 p) l k)
      (λ e l k. ap (λ (t : Bool). pick t (members_at m (next m (at + 1)) (with_field message_field 0 p)) (missing at p group_field)) (ap (λ (c : ℕ). eqb c 123) (byte-same at a) ∙ e))

  -- ---- items

  item-word : (c : ℕ) → is_item c ≡ true → (c ≡ group_field → ⊥) → (0 < c) × (a_word c ≡ true)
  unfolding is_item a_word
  item-word c i v =
      let h = both (leb 1 c) (leb c 8) i in
      let p : 1 ≤ c = leb-true 1 c h.0 in
      let q : c ≤ 8 = leb-true c 8 h.1 in
      (omega arith, rw (ne_eqb c 5 v, ne_eqb c 10 (λ (e : c ≡ 10). omega arith), ne_eqb c 11 (λ (e : c ≡ 11). omega arith)))

  -- item c at its place
  place_same : (c at : ℕ) (p : Step) → is_item c ≡ true → at ≤ b
      → (pick (eqb c group_field) (group_at s at p) (word_item c s at p)).at ≤ b → Known (pick (eqb c group_field) (group_at s at p) (word_item c s at p))
      → pick (eqb c group_field) (group_at m at p) (word_item c m at p) ≡ pick (eqb c group_field) (group_at s at p) (word_item c s at p)
  place_same c at p i a = go (eqb c group_field) refl
    where
      go : (t : Bool) → eqb c group_field ≡ t → (pick t (group_at s at p) (word_item c s at p)).at ≤ b → Known (pick t (group_at s at p) (word_item c s at p))
          → pick t (group_at m at p) (word_item c m at p) ≡ pick t (group_at s at p) (word_item c s at p)
      go true e l k = group-same at p a l k
      go false e l k = let v = item-word c i (eqb-false c group_field e) in word-item c at p v.0 v.1 l k

  item-good : (r : Reader) (c : ℕ) → is_item c ≡ true → r.expected ≡ 0 → next s r.at ≤ b → (item_of s r c).at ≤ b → Known (item_of s r c) → item_of m r c ≡ item_of s r c
  unfolding item_of
  item-good r c i z a =
      pick-view (λ (y : Reader). y.at ≤ b → Known y → pick (good r) (pick (eqb c group_field) (group_at m (next m r.at) r.step) (word_item c m (next m r.at) r.step)) r ≡ y) (good r) _ _
      (λ g l k.
      ap (λ (t : Bool). pick t (pick (eqb c group_field) (group_at m (next m r.at) r.step) (word_item c m (next m r.at) r.step)) r) g
      ∙ ap (λ (n : ℕ). pick (eqb c group_field) (group_at m n r.step) (word_item c m n r.step)) (next-same r.at a)
      ∙ place_same c (next s r.at) r.step i a l k)
      (λ g l k. absurd (eqb-false r.expected 0 g z))

  item-stays : (l : List ℕ) (r : Reader) (c : ℕ) → Faulty l r → item_of l r c ≡ r
  unfolding item_of
  item-stays l r c n = rw (ne_eqb r.expected 0 n)

  item-same : (r : Reader) (c : ℕ) → is_item c ≡ true → (item_of s r c).at ≤ b → Known (item_of s r c) → item_of m r c ≡ item_of s r c
  item-same r c i l k = go (eqb r.expected 0) refl
    where
      go : (t : Bool) → eqb r.expected 0 ≡ t → item_of m r c ≡ item_of s r c
      go true e = let z = eqb-true r.expected 0 e in item-good r c i z (omega (arith, item-next s r c z)) l k
      go false e = let n = eqb-false r.expected 0 e in item-stays m r c n ∙ sym (item-stays s r c n)

  items-same : (cs : List ℕ) (r : Reader) → all is_item cs ≡ true → (items s cs r).at ≤ b → Known (items s cs r) → items m cs r ≡ items s cs r
  unfolding items all
  items-same [] r a l k = refl
  items-same (c ∷ cs) r a l k =
      let i = both (is_item c) (all is_item cs) a in
      ap (items m cs) (item-same r c i.0 (omega (arith, items-from s cs (item_of s r c))) (known-stays (item_of s r c) (items s cs (item_of s r c)) (items-stays s cs (item_of s r c)) k))
      ∙ items-same cs (item_of s r c) i.1 l k

  -- ---- the line

  ended-good : (r : Reader) → r.expected ≡ 0 → (ended s r).at ≤ b → Faulty s (ended s r) → ended m r ≡ ended s r
  unfolding ended
  ended-good r z =
      pick-view (λ (y : Reader). y.at ≤ b → Faulty s y → pick (good r and ltb (next m r.at) (length m)) (missing (next m r.at) r.step line_end) r ≡ y)
      (good r and ltb (next s r.at) (length s)) _ _
      (λ g l n.
      let i : next s r.at < length s = ltb-true (next s r.at) (length s) (both (good r) (ltb (next s r.at) (length s)) g).1 in
      ap (λ (j : ℕ). pick (good r and ltb j (length m)) (missing j r.step line_end) r) (next-same r.at l)
      ∙ rw (eq-eqb r.expected 0 z, lt-ltb (next s r.at) (length m) (there-same (next s r.at) l i)))
      (λ g l n. absurd (n z))

  ended_same : (r : Reader) → (ended s r).at ≤ b → Faulty s (ended s r) → ended m r ≡ ended s r
  ended_same r l n = go (eqb r.expected 0) refl
    where
      go : (t : Bool) → eqb r.expected 0 ≡ t → ended m r ≡ ended s r
      go true e = ended-good r (eqb-true r.expected 0 e) l n
      go false e = let z = eqb-false r.expected 0 e in ended-stays m r z ∙ sym (ended-stays s r z)

  -- after the word w at place at
  abbrev after : List ℕ → ℕ → List ℕ → Reader
  after l at w = ended l (items l (template_of (row_named w)) (reached (at + length w) (empty_step (row_named w))))

  after_same : (at : ℕ) (w : List ℕ) → row_named w < 14 → (after s at w).at ≤ b → Known (after s at w) → Faulty s (after s at w) → after m at w ≡ after s at w
  after_same at w v l k n =
      let r : Reader = reached (at + length w) (empty_step (row_named w)) in
      ap (ended m) (items-same (template_of (row_named w)) r (row (row_named w) v).fields (omega (arith, ended-from s (items s (template_of (row_named w)) (reached (at + length w) (empty_step (row_named w))))))
      (known-stays (items s (template_of (row_named w)) r) (after s at w) (ended-stays s (items s (template_of (row_named w)) r)) k))
      ∙ ended_same (items s (template_of (row_named w)) r) l n

  abbrev whole : List ℕ → ℕ → List ℕ → Reader
  whole l at w = pick (ltb (row_named w) 14) (after l at w) (missing at (empty_step 0) a_kind)

  kind-word : a_word a_kind ≡ true
  unfolding a_word
  kind-word = refl

  line_same : (at : ℕ) → (line_at s at).at ≤ b → Known (line_at s at) → Faulty s (line_at s at) → line_at m at ≡ line_at s at
  unfolding line_at
  line_same at =
      pick-view (λ (y : Reader). y.at ≤ b → Known y → Faulty s y → whole m at (word_at m at) ≡ y) (ltb (row_named (word_at s at)) 14) _ _
      (λ e l k n.
      let r : Reader = reached (at + length (word_at s at)) (empty_step (row_named (word_at s at))) in
      let i = items-from s (template_of (row_named (word_at s at))) r in
      let j = ended-from s (items s (template_of (row_named (word_at s at))) r) in
      ap (whole m at) (word_same at (omega arith)) ∙ ap (λ (t : Bool). pick t (after m at (word_at s at)) (missing at (empty_step 0) a_kind)) e
      ∙ after_same at (word_at s at) (ltb-true (row_named (word_at s at)) 14 e) l k n)
      (λ e l k n.
      ap (whole m at) (k n kind-word) ∙ ap (λ (t : Bool). pick t (after m at (word_at s at)) (missing at (empty_step 0) a_kind)) e)

  -- the same fault
  fault-same : (line_at s (next s 0)).at ≤ b → Known (line_at s (next s 0)) → Faulty s (line_at s (next s 0)) → line_at m (next m 0) ≡ line_at s (next s 0)
  fault-same l k n = ap (line_at m) (next-same 0 (omega (arith, line-from s (next s 0)))) ∙ line_same (next s 0) l k n

-- No line that says a step goes on past a fault.
pub line-stops : (s : List ℕ) → Faulty s (line_at s (next s 0)) → Stops s (line_at s (next s 0)).at (line_at s (next s 0)).expected
line-stops s n = record {
  none = λ m p d h w.
      let e : line_at m (next m 0) ≡ line_at s (next s 0) = fault-same s m (line_at s (next s 0)).at h (omega arith) (λ (x : Faulty s (line_at s (next s 0))). w) n in
      n (ap (λ (y : Reader). y.expected) (sym e) ∙ (accepted m p d).good);
}

-- ---- whole lines: a comment changes nothing

pub said_same : (n : ℕ) (m l : List ℕ) → take n m ≡ take n l → take n (said m) ≡ take n (said l)
unfolding said run
said_same zero m l e = refl
said_same (suc n) [] [] e = refl
said_same (suc n) [] (c ∷ l) e = absurd (nil-cons n c l e)
said_same (suc n) (d ∷ m) [] e = absurd (nil-cons n d m (sym e))
said_same (suc n) (d ∷ m) (c ∷ l) e =
    ap (λ (k : ℕ). take (suc n) (take (pick (not_hash k) (suc (run not_hash m)) 0) (k ∷ m))) (ap (λ (x : List ℕ). get_or x 0 0) e)
    ∙ go (not_hash c) (said_same n m l (ap (drop 1) e))
  where
    go : (t : Bool) → take n (take (run not_hash m) m) ≡ take n (take (run not_hash l) l)
        → take (suc n) (take (pick t (suc (run not_hash m)) 0) (c ∷ m)) ≡ take (suc n) (take (pick t (suc (run not_hash l)) 0) (c ∷ l))
    go true q = ap (λ (x : List ℕ). c ∷ x) q
    go false q = refl

module _ (l : List ℕ) (at : ℕ) (h : at ≤ length (said l)) where
  within-said : at ≤ run not_hash l
  unfolding said
  within-said = omega (arith, length-take (run not_hash l) l)

  pub said-front : take at (said l) ≡ take at l
  unfolding said
  said-front = take-take at (run not_hash l) l within-said

  pub line-column : (e : ℕ) → parted (take at (said l)) (drop at (said l)) ≡ true → Next (take at (said l)) → Stops (said l) at e → Lacking (said l) at e → Column l at e
  line-column e w n s k = record {
    within = h;
    whole = w;
    goes = subst Next said-front n;
    stops = λ m p d q w. s.none (said m) p d (said_same (suc at) m l q) w;
    lacks = k;
  }

  pub line_first : FirstByte (said l) at → FirstByte l at
  unfolding said
  line_first f = record {
    blanks = subst Blanks said-front f.blanks;
    there = omega (arith, f.there, length-take (run not_hash l) l);
    byte = subst (λ (c : ℕ). blank c ≡ false) (get_or-take (run not_hash l) l at 0 (omega (arith, f.there, length-take (run not_hash l) l))) f.byte;
  }

-- ---- the first byte of a step

next-def : (s : List ℕ) → next s 0 ≡ run blank s
unfolding next
next-def s = omega arith

run-there : (l : List ℕ) → run blank l < length l → blank (get_or l (run blank l) 0) ≡ false
unfolding run
run-there [] h = absurd (omega arith)
run-there (c ∷ l) h = go (blank c) refl (run-there l) h
  where
    go : (t : Bool) → blank c ≡ t → (run blank l < length l → blank (get_or l (run blank l) 0) ≡ false) → pick t (suc (run blank l)) 0 < suc (length l)
        → blank (get_or (c ∷ l) (pick t (suc (run blank l)) 0) 0) ≡ false
    go true e ih h = ih (omega arith)
    go false e ih h = e

pub first_byte : (s : List ℕ) → next s 0 < length s → FirstByte s (next s 0)
first_byte s h =
    let e = next-def s in
    subst (FirstByte s) (sym e) (record { blanks = gap-blank s 0; there = omega arith; byte = run-there s (omega arith) })
