-- What a fault says was expected is one of the twelve; the number and the enum's case give each other.
use Prim.Native.Nat.{ℕ, zero, suc, ◌+◌, ◌≤◌, ◌<◌}
use mathlib.Core.Bool.{Bool, true, false}
use mathlib.Core.Path.{◌≡◌, refl}
use mathlib.Core.List.{List, [], ◌∷◌}
use native.Mathlib.Omega.{arith}
use borrow.Author.Tests.{leb-true, ltb-true, eqb-true, eqb-false}
use lib.Dec.{eqb, ltb, leb}
use lib.ListN.{length, get_or}
use Rattle.octets.specs.Bytes.{pick, ◌and◌, every}
use Rattle.octets.proofs.Tests.{pick-view}
use Rattle.octets.proofs.Zero.{both, every-at}
use Rattle.rules.specs.declared.Step.{Step}
use Rattle.rules.specs.Step.{step_bytes}
use Rattle.notation.specs.Notation.{transactor_field, message_field, group_field, template_of}
use Rattle.notation.specs.Reading.{Reader, room, next, word_at, is_number, most_of, fits, with_field, good, nothing, reached, word_item, member_at, comma_next, one_more, more_members, closed, members_at, group_at, item, items, ended, row_named, empty_step, line_at, all, lines_of, said, Progress, with_step, line_read, lines_read, start, progress, steps, fault, outcome, read}
use Rattle.notation.specs.Parsing.{Expected, Transactor, Addressee, Message, Value, Group, WordTo, WordText, SixteenDigits, Kind, CommaOrBrace, LineEnd, Room, number_of, expected_of}
use Rattle.notation.proofs.Items.{is_item}
use Rattle.notation.proofs.Rows.{row}

-- ---- a line never lacks room

abbrev Known : Reader → Type 0
Known r = r.expected < 12

module _ (s : List ℕ) where
  member-known : (at : ℕ) (p : Step) → Known (member_at s at p)
  unfolding member_at
  member-known at p = pick-view Known (is_number (most_of transactor_field) (word_at s at)) _ _ (λ e. omega arith) (λ e. omega arith)

  one_known : (r : Reader) → Known r → Known (one_more s r)
  unfolding one_more
  one_known r h = pick-view Known (comma_next s r) _ _ (λ e. member-known (next s (next s r.at + 1)) r.step) (λ e. h)

  more-known : (n : ℕ) (r : Reader) → Known r → Known (more_members n s r)
  unfolding more_members
  more-known zero r h = h
  more-known (suc n) r h = more-known n (one_more s r) (one_known r h)

  closed-known : (r : Reader) → Known r → Known (closed s r)
  unfolding closed
  closed-known r h = pick-view Known (good r) _ _ (λ g. pick-view Known (eqb (get_or s (next s r.at) 0) 125) _ _ (λ e. omega arith) (λ e. omega arith)) (λ g. h)

  members-known : (at : ℕ) (p : Step) → Known (members_at s at p)
  unfolding members_at
  members-known at p = pick-view Known (eqb (get_or s at 0) 125) _ _ (λ e. omega arith)
      (λ e. closed-known (more_members (length s) s (member_at s at p)) (more-known (length s) (member_at s at p) (member-known at p)))

  group-known : (at : ℕ) (p : Step) → Known (group_at s at p)
  unfolding group_at
  group-known at p = pick-view Known (eqb (get_or s at 0) 123) _ _ (λ e. members-known (next s (at + 1)) (with_field message_field 0 p)) (λ e. omega arith)

  word-known : (c at : ℕ) (p : Step) → c < 12 → Known (word_item c s at p)
  unfolding word_item
  word-known c at p h = pick-view Known (fits c (word_at s at)) _ _ (λ e. omega arith) (λ e. h)

  item-known : (r : Reader) (c : ℕ) → is_item c ≡ true → Known r → Known (item s r c)
  unfolding item is_item
  item-known r c i h = pick-view Known (good r) _ _
      (λ g. pick-view Known (eqb c group_field) _ _ (λ e. group-known (next s r.at) r.step)
      (λ e. word-known c (next s r.at) r.step (omega (arith, leb-true c 8 (both (leb 1 c) (leb c 8) i).1))))
      (λ g. h)

  items-known : (cs : List ℕ) (r : Reader) → all is_item cs ≡ true → Known r → Known (items s cs r)
  unfolding items all
  items-known [] r a h = h
  items-known (c ∷ cs) r a h = let b = both (is_item c) (all is_item cs) a in items-known cs (item s r c) b.1 (item-known r c b.0 h)

  ended-known : (r : Reader) → Known r → Known (ended s r)
  unfolding ended
  ended-known r h = pick-view Known (good r and ltb (next s r.at) (length s)) _ _ (λ g. omega arith) (λ g. h)

  line_known : (at : ℕ) → Known (line_at s at)
  unfolding line_at
  line_known at = pick-view Known (ltb (row_named (word_at s at)) 14) _ _
      (λ e. ended-known (items s (template_of (row_named (word_at s at))) (reached (at + length (word_at s at)) (empty_step (row_named (word_at s at)))))
      (items-known (template_of (row_named (word_at s at))) (reached (at + length (word_at s at)) (empty_step (row_named (word_at s at)))) (row (row_named (word_at s at)) (ltb-true (row_named (word_at s at)) 14 e)).fields (omega arith)))
      (λ e. omega arith)

  pub line-roomy : (at : ℕ) → (line_at s at).expected ≡ room → ⊥
  line-roomy at e = omega (arith, line_known at)

-- ---- nor does a text lack anything else

abbrev Named : Progress → Type 0
Named x = x.expected ≤ 12

module _ (most : ℕ) where
  line-named : (s : List ℕ) (x : Progress) → Named (line_read most s x)
  unfolding line_read with_step
  line-named s x =
      pick-view Named (ltb (next s 0) (length s)) _ _
      (λ e. pick-view Named (good (line_at s (next s 0))) _ _
      (λ g. pick-view Named (leb (length x.list + step_bytes) most) _ _ (λ f. omega arith) (λ f. omega arith))
      (λ g. omega (arith, line_known s (next s 0))))
      (λ e. omega arith)

  lines-named : (ls : List (List ℕ)) (x : Progress) → Named x → Named (lines_read most ls x)
  unfolding lines_read
  lines-named [] x h = h
  lines-named (l ∷ ls) x h =
      lines-named ls (pick (eqb x.expected nothing) (line_read most (said l) x) x)
      (pick-view Named (eqb x.expected nothing) _ _ (λ e. line-named (said l) x) (λ e. h))

  of-fault : (y : Progress) (n c e : ℕ) → Named y → outcome y ≡ fault n c e → (0 < e) × (e ≤ 12)
  unfolding outcome
  of-fault y n c e h = go (eqb y.expected nothing) refl
    where
      go : (b : Bool) → eqb y.expected nothing ≡ b → pick b (steps y.list) (fault y.line y.column y.expected) ≡ fault n c e → (0 < e) × (e ≤ 12)
      go true z f = let k : ◌≡◌ {A = ℕ} 0 1 = cc in absurd (omega arith)
      go false z f =
          let d : y.expected ≡ e = cc in
          let k : y.expected ≡ 0 → ⊥ = eqb-false y.expected 0 z in
          (omega arith, omega arith)

  -- A fault names one of the twelve things that can be expected.
  pub fault-names : (t : List ℕ) (n c e : ℕ) → read most t ≡ fault n c e → (0 < e) × (e ≤ 12)
  unfolding read progress
  fault-names t n c e = of-fault (lines_read most (lines_of t) start) n c e (lines-named (lines_of t) start (omega arith))

-- ---- numbers and cases

pub number-some : (e : Expected) → 0 < number_of e
number-some Transactor = omega arith
number-some Addressee = omega arith
number-some Message = omega arith
number-some Value = omega arith
number-some Group = omega arith
number-some WordTo = omega arith
number-some WordText = omega arith
number-some SixteenDigits = omega arith
number-some Kind = omega arith
number-some CommaOrBrace = omega arith
number-some LineEnd = omega arith
number-some Room = omega arith

pub case-of-number : (e : Expected) → expected_of (number_of e) ≡ e
unfolding expected_of
case-of-number Transactor = refl
case-of-number Addressee = refl
case-of-number Message = refl
case-of-number Value = refl
case-of-number Group = refl
case-of-number WordTo = refl
case-of-number WordText = refl
case-of-number SixteenDigits = refl
case-of-number Kind = refl
case-of-number CommaOrBrace = refl
case-of-number LineEnd = refl
case-of-number Room = refl

number_good : ℕ → Bool
number_good n = eqb (number_of (expected_of (suc n))) (suc n)

numbers-good : every 12 number_good ≡ true
unfolding number_good every expected_of
numbers-good = refl

pub number-of-case : (n : ℕ) → 0 < n → n ≤ 12 → number_of (expected_of n) ≡ n
unfolding number_good
number-of-case zero h b = absurd (omega arith)
number-of-case (suc n) h b = eqb-true (number_of (expected_of (suc n))) (suc n) (every-at number_good 12 n numbers-good (omega arith))
