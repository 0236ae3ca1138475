-- The reader's tests, one by one, as its functions take them.
use Rattle.std.proofs.Common.{ℕ, zero, suc, ◌+◌, ◌-◌, ◌≤◌, ◌<◌, Bool, true, false, ◌≡◌, refl, sym, ap, ◌∙◌, subst, List, [], ◌∷◌, length, take, drop, get_or, map, arith, Result, Option, Some, None, MatchOption}
use native.Mathlib.Numerals.{add-one}
use borrow.Author.Tests.{lt-ltb, le-ltb, eq-eqb, ne_eqb}
use lib.ListN.{drop_of_length-le}
use lib.Seq.{drop-cons}
use Rattle.marks.specs.Incarnation.{same_list}
use Rattle.rules.specs.declared.Step.{Step}
use Rattle.rules.specs.Step.{unpack_step}
use Rattle.notation.specs.Notation.{field_number, item_number, template_of, bytes}
use Rattle.notation.specs.declared.Field.{Field}
use Rattle.notation.specs.declared.Field.TheVariants.{Transactor, Other, Message, Value}
use Rattle.notation.proofs.Expecting.{number-some}
use Rattle.notation.specs.declared.Item.{Item}
use Rattle.notation.specs.declared.Item.TheVariants.{Number, Members, To, Text, Digits}
use Rattle.notation.specs.declared.Place.{Place}
use Rattle.notation.specs.declared.Lack.{Lack}
use Rattle.notation.specs.Parsing.{number_of, Answers}
use Rattle.notation.specs.Reading.{Reader, in_word, run, next, is_number, of_decimal, of_hex, most_of, fits, with_field, with_item, reached, missing, good, word_item, with_member, member_at, comma_next, one_more, more_members, closed, members_at, group_at, item, items, ended, row_named, empty_step, line_at}
use Rattle.scan.specs.Internal.Words.{is_whole}
use Rattle.reader.specs.Internal.Words.{SaidBy}
use Rattle.std.specs.Bool.{then_some}
use Rattle.std.proofs.lemmas.Slice.Eq.{bytes_eq-Decides}
use Rattle.std.proofs.lemmas.Bool.Decides.{same_from_decides}
use Rattle.std.proofs.Common.{bytes_eq}
use Rattle.marks.proofs.Tests.{same_list-test}
use Rattle.scan.proofs.Walking.{word-part, word-length}
use Rattle.notation.proofs.Within.{next-within, byte-within, member-within}

-- ---- a lack passes through what follows

abbrev pub LackedBy : Lack → Reader → Type 0
LackedBy e r = (r.at ≡ e.at) × (r.expected ≡ number_of e.expected) × (r.step ≡ e.step)

pub lacking : (r : Reader) (at c : ℕ) (p : Step) → missing at p c ≡ r → (r.at ≡ at) × (r.expected ≡ c) × (r.step ≡ p)
lacking r at c p e = (ap (λ (x : Reader). x.at) (sym e), ap (λ (x : Reader). x.expected) (sym e), ap (λ (x : Reader). x.step) (sym e))

-- whoever reads on with it answers the same
pub bad : (e : Lack) (r : Reader) → LackedBy e r → good r ≡ false
bad e r h = ne_eqb r.expected 0 (λ z. absurd (omega (arith, number-some e.expected, h.1)))

pub passed : (e : Lack) (r q : Reader) → LackedBy e r → q ≡ r → LackedBy e q
passed e r q h f = (ap (λ (x : Reader). x.at) f ∙ h.0, ap (λ (x : Reader). x.expected) f ∙ h.1, ap (λ (x : Reader). x.step) f ∙ h.2)

-- ---- words

pub number-word : (f : Field) (w : List ℕ) (p : Step) → (fits (field_number f) w ≡ is_number (most_of (field_number f)) w) × (with_item (field_number f) w p ≡ with_field (field_number f) (of_decimal 0 w) p)
unfolding fits with_item
number-word Transactor w p = (refl, refl)
number-word Other w p = (refl, refl)
number-word Message w p = (refl, refl)
number-word Value w p = (refl, refl)

pub digits-word : (w : List ℕ) (p : Step) → (fits 8 w ≡ is_whole w) × (with_item 8 w p ≡ unpack_step (of_hex w))
unfolding fits with_item is_whole
digits-word w p = (refl, refl)

pub to-word : (w : List ℕ) (p : Step) → (fits 6 w ≡ same_list w (bytes "to")) × (with_item 6 w p ≡ p)
unfolding fits with_item
to-word w p = (refl, refl)

pub text-word : (w : List ℕ) (p : Step) → (fits 7 w ≡ same_list w (bytes "text")) × (with_item 7 w p ≡ p)
unfolding fits with_item
text-word w p = (refl, refl)

same-bytes : (a b : List ℕ) → same_list a b ≡ bytes_eq a b
same-bytes a b = same_from_decides (same_list a b) (bytes_eq a b) (same_list-test a b) (bytes_eq-Decides a b)

pub said-word : (t : Bool) (c : ℕ) (w v : List ℕ) (p : Step) (r : Option Step) → t ≡ bytes_eq w v → r ≡ then_some t p → fits c w ≡ same_list w v → with_item c w p ≡ p → SaidBy c w p r
said-word t c w v p r e f g h = go t (g ∙ same-bytes w v ∙ sym e) f
  where
    go : (t : Bool) → fits c w ≡ t → r ≡ then_some t p → SaidBy c w p r
    go true k f = rw f (k, sym h)
    go false k f = rw f k

pub said-digits : (w : List ℕ) (p : Step) (r : Option Step) → MatchOption r (is_whole w ≡ false) (λ q. (is_whole w ≡ true) × (q ≡ unpack_step (of_hex w))) → SaidBy 8 w p r
said-digits w p None h = (digits-word w p).0 ∙ h
said-digits w p (Some q) h = ((digits-word w p).0 ∙ h.0, h.1 ∙ sym (digits-word w p).1)

module _ (s : List ℕ) (at end : ℕ) (h : at ≤ length s) (e : end ≡ at + run in_word (drop at s)) (c : ℕ) (p : Step) where
  pub word-no : fits c (take (end - at) (drop at s)) ≡ false → missing at p c ≡ word_item c s at p
  unfolding word_item
  word-no f = let g = rw (word-part s at end h e) at f in rw g

  pub word-yes : (q : Step) → fits c (take (end - at) (drop at s)) ≡ true → q ≡ with_item c (take (end - at) (drop at s)) p → word_item c s at p ≡ reached end q
  unfolding word_item
  word-yes q f g =
      let k = rw (word-part s at end h e) at f in
      let l = rw (word-part s at end h e) at g in
      rw (k, l, ← word-length s at end h e)

-- ---- volumes

module _ (s : List ℕ) (at end : ℕ) (h : at ≤ length s) (e : end ≡ at + run in_word (drop at s)) (p : Step) where
  pub member-no : is_number 15 (take (end - at) (drop at s)) ≡ false → missing at p 1 ≡ member_at s at p
  unfolding member_at most_of
  member-no f = let g = rw (word-part s at end h e) at f in rw g

  pub member-yes : (t g : ℕ) → is_number 15 (take (end - at) (drop at s)) ≡ true → t ≡ of_decimal 0 (take (end - at) (drop at s)) → g ≡ with_member p.message t
      → member_at s at p ≡ reached end (record { kind = p.kind; transactor = p.transactor; other = p.other; zero = p.zero; message = g; value = p.value })
  unfolding member_at most_of with_field
  member-yes t g f d m =
      let k = rw (word-part s at end h e) at f in
      let l = rw (word-part s at end h e) at d in
      rw (k, m, l, ← word-length s at end h e)

module _ (s : List ℕ) (r : Reader) (b : good r ≡ false) where
  pub comma-bad : comma_next s r ≡ false
  unfolding comma_next
  comma-bad = rw b

  pub closed-bad : closed s r ≡ r
  unfolding closed
  closed-bad = rw b

  pub ended-bad : ended s r ≡ r
  unfolding ended
  ended-bad = rw b

  pub item-bad : (c : ℕ) → item s r c ≡ r
  unfolding item
  item-bad c = rw b

pub items-bad : (s cs : List ℕ) (r : Reader) → good r ≡ false → items s cs r ≡ r
unfolding items
items-bad s [] r b = refl
items-bad s (c ∷ cs) r b = rw (item-bad s r b c) (items-bad s cs r b)

pub more-stop : (n : ℕ) (s : List ℕ) (r : Reader) → comma_next s r ≡ false → more_members n s r ≡ r
unfolding more_members one_more
more-stop zero s r c = refl
more-stop (suc n) s r c = rw c (more-stop n s r c)

module _ (s : List ℕ) (at : ℕ) (p : Step) (k : ℕ) (f : k ≡ next s at) where
  module _ (b : ℕ) (g : b ≡ get_or s k 0) where
    pub comma-no : (b ≡ 44 → ⊥) → comma_next s (reached at p) ≡ false
    unfolding comma_next
    comma-no h = rw (← f, ← g, ne_eqb b 44 h)

    pub comma-yes : b ≡ 44 → comma_next s (reached at p) ≡ true
    unfolding comma_next
    comma-yes h = rw (← f, ← g, eq-eqb b 44 h)

    pub comma-inside : b ≡ 44 → k < length s
    comma-inside h = byte-within s k 44 (omega arith) (eq-eqb (get_or s k 0) 44 (sym g ∙ h))

    pub member-inside : b ≡ 44 → (i : ℕ) → i ≡ next s (k + 1) → i ≤ length s
    member-inside h i e = let c = comma-inside h in omega (arith, next-within s (k + 1) (omega arith))

    pub one-is : b ≡ 44 → (i : ℕ) → i ≡ next s (k + 1) → one_more s (reached at p) ≡ member_at s i p
    unfolding one_more
    one-is h i e = rw (comma-yes h, ← f, ← e)

    pub closed-yes : b ≡ 125 → closed s (reached at p) ≡ reached (k + 1) p
    unfolding closed
    closed-yes h = rw (← f, ← g, eq-eqb b 125 h)

    pub closed-no : (b ≡ 125 → ⊥) → missing k p 10 ≡ closed s (reached at p)
    unfolding closed
    closed-no h = rw (← f, ← g, ne_eqb b 125 h)

  pub ended-more : k < length s → missing k p 11 ≡ ended s (reached at p)
  unfolding ended
  ended-more h = rw (← f, lt-ltb k (length s) h)

  pub ended-none : length s ≤ k → ended s (reached at p) ≡ reached at p
  unfolding ended
  ended-none h = rw (← f, le-ltb k (length s) h)

  pub item-group : item s (reached at p) 5 ≡ group_at s k p
  unfolding item
  item-group = rw f

  pub item-word : (c : ℕ) → (c ≡ 5 → ⊥) → item s (reached at p) c ≡ word_item c s k p
  unfolding item
  item-word c h = rw (f, ne_eqb c 5 h)

-- the loop: with i turns done, as many as are left give the same
module _ (s : List ℕ) (r₀ : Reader) (i : ℕ) (at : ℕ) (p : Step) (h : i < length s) (inv : more_members (length s) s r₀ ≡ more_members (length s - i) s (reached at p)) where
  turn : more_members (length s) s r₀ ≡ more_members (length s - (i + 1)) s (one_more s (reached at p))
  unfolding more_members
  turn = let e : length s - i ≡ suc (length s - (i + 1)) = omega arith in inv ∙ rw e

  module _ (k b j : ℕ) (f : k ≡ next s at) (g : b ≡ get_or s k 0) (c : b ≡ 44) (d : j ≡ next s (k + 1)) where
    pub more-on : (q : Place) → member_at s j p ≡ reached q.at q.step → (q.at ≤ length s) × (more_members (length s) s r₀ ≡ more_members (length s - (i + 1)) s (reached q.at q.step))
    more-on q e = (
      subst (λ (x : Reader). x.at ≤ length s) e (member-within s j p (member-inside s at p k f b g c j d)),
      turn ∙ ap (more_members (length s - (i + 1)) s) (one-is s at p k f b g c j d ∙ e),
    )

    pub more-off : (e : Lack) → LackedBy e (member_at s j p) → LackedBy e (more_members (length s) s r₀)
    more-off e l = passed e (member_at s j p) (more_members (length s) s r₀) l
        (turn ∙ ap (more_members (length s - (i + 1)) s) (one-is s at p k f b g c j d) ∙ more-stop (length s - (i + 1)) s (member_at s j p) (comma-bad s (member_at s j p) (bad e (member_at s j p) l)))

pub more-start : (s : List ℕ) (r : Reader) → more_members (length s) s r ≡ more_members (length s - 0) s r
more-start s r = let z : length s ≡ length s - 0 = omega arith in ap (λ (n : ℕ). more_members n s r) z

pub more-end : (s : List ℕ) (r : Reader) (i n : ℕ) → n ≤ i → more_members (n - i) s r ≡ r
unfolding more_members
more-end s r i n h = let e : n - i ≡ 0 = omega arith in rw e

module _ (s : List ℕ) (at b : ℕ) (p : Step) (g : b ≡ get_or s at 0) where
  pub members-none : b ≡ 125 → members_at s at p ≡ reached (at + 1) p
  unfolding members_at
  members-none h = rw (← g, eq-eqb b 125 h)

  module _ (h : b ≡ 125 → ⊥) where
    pub members-some : members_at s at p ≡ closed s (more_members (length s) s (member_at s at p))
    unfolding members_at
    members-some = rw (← g, ne_eqb b 125 h)

    pub members-first : (e : Lack) → LackedBy e (member_at s at p) → LackedBy e (members_at s at p)
    members-first e l =
        let z = bad e (member_at s at p) l in
        passed e (member_at s at p) (members_at s at p) l
        (members-some ∙ ap (closed s) (more-stop (length s) s (member_at s at p) (comma-bad s (member_at s at p) z)) ∙ closed-bad s (member_at s at p) z)

    module _ (q : Place) (d : member_at s at p ≡ reached q.at q.step) where
      more : members_at s at p ≡ closed s (more_members (length s) s (reached q.at q.step))
      more = members-some ∙ ap (λ (x : Reader). closed s (more_members (length s) s x)) d

      pub members-more : (e : Lack) → LackedBy e (more_members (length s) s (reached q.at q.step)) → LackedBy e (members_at s at p)
      members-more e l =
          let x = more_members (length s) s (reached q.at q.step) in
          passed e x (members_at s at p) l (more ∙ closed-bad s x (bad e x l))

      pub members-closed : (u : Place) → more_members (length s) s (reached q.at q.step) ≡ reached u.at u.step → members_at s at p ≡ closed s (reached u.at u.step)
      members-closed u e = more ∙ ap (closed s) e

  pub group-no : (b ≡ 123 → ⊥) → missing at p 5 ≡ group_at s at p
  unfolding group_at
  group-no h = rw (← g, ne_eqb b 123 h)

  pub group-yes : b ≡ 123 → (k : ℕ) → k ≡ next s (at + 1)
      → group_at s at p ≡ members_at s k (record { kind = p.kind; transactor = p.transactor; other = p.other; zero = p.zero; message = 0; value = p.value })
  unfolding group_at with_field
  group-yes h k f = rw (← g, eq-eqb b 123 h, ← f)

pub group-inside : (s : List ℕ) (at b : ℕ) (p : Step) → b ≡ get_or s at 0 → b ≡ 123 → (k : ℕ) → k ≡ next s (at + 1) → k ≤ length s
group-inside s at b p g h k f =
    let i : at < length s = byte-within s at 123 (omega arith) (eq-eqb (get_or s at 0) 123 (sym g ∙ h)) in
    omega (arith, next-within s (at + 1) (omega arith))

-- the same answer to an equal question
pub same-answer : (a : Result Place Lack) (r q : Reader) → Answers a q → r ≡ q → Answers a r
same-answer a r q h e = subst (Answers a) (sym e) h

-- where an answer stands
pub stands : (s : List ℕ) (q : Place) (r : Reader) → r ≡ reached q.at q.step → r.at ≤ length s → q.at ≤ length s
stands s q r e h = subst (λ (x : Reader). x.at ≤ length s) e h

-- ---- the items of a row

pub not-members : (i : Item) → (i ≡ Members → ⊥) → item_number i ≡ 5 → ⊥
not-members (Number Transactor) n e = absurd (omega arith)
not-members (Number Other) n e = absurd (omega arith)
not-members (Number Message) n e = absurd (omega arith)
not-members (Number Value) n e = absurd (omega arith)
not-members Members n e = n refl
not-members To n e = absurd (omega arith)
not-members Text n e = absurd (omega arith)
not-members Digits n e = absurd (omega arith)

-- the loop: what is left of the template from i on gives the same
module _ (s : List ℕ) (is : List Item) (i : ℕ) (at : ℕ) (p : Step) (h : i < length is) (w d : Item) (e : w ≡ get_or is i d) where
  next-item : items s (map item_number (drop i is)) (reached at p) ≡ items s (map item_number (drop (i + 1) is)) (item s (reached at p) (item_number w))
  unfolding items
  next-item = rw (drop-cons is i d h, ← e, add-one)

  pub items-turn : (q : Place) → item s (reached at p) (item_number w) ≡ reached q.at q.step
      → items s (map item_number (drop i is)) (reached at p) ≡ items s (map item_number (drop (i + 1) is)) (reached q.at q.step)
  items-turn q f = next-item ∙ ap (items s (map item_number (drop (i + 1) is))) f

  pub items-off : (r : Reader) → r ≡ items s (map item_number (drop i is)) (reached at p) → (l : Lack) → LackedBy l (item s (reached at p) (item_number w)) → LackedBy l r
  items-off r f l k =
      let x = item s (reached at p) (item_number w) in
      passed l x r k (f ∙ next-item ∙ items-bad s (map item_number (drop (i + 1) is)) x (bad l x k))

pub items-end : (s : List ℕ) (is : List Item) (i : ℕ) (r : Reader) → length is ≤ i → items s (map item_number (drop i is)) r ≡ r
unfolding items
items-end s is i r h = rw (drop_of_length-le is {i = i} h)

-- ---- the line

module _ (s : List ℕ) (at end : ℕ) (h : at ≤ length s) (e : end ≡ at + run in_word (drop at s)) where
  pub line-none : row_named (take (end - at) (drop at s)) ≡ 14 → missing at (empty_step 0) 9 ≡ line_at s at
  unfolding line_at
  line-none f =
      let g = rw (word-part s at end h e) at f in
      rw g

  module _ (k : ℕ) (b : k < 14) (f : row_named (take (end - at) (drop at s)) ≡ k) where
    named : line_at s at ≡ ended s (items s (template_of k) (reached end (empty_step k)))
    unfolding line_at
    named =
        let g = rw (word-part s at end h e) at f in
        rw (g, lt-ltb k 14 b, ← word-length s at end h e)

    pub line-some : (q : Place) → items s (template_of k) (reached end (empty_step k)) ≡ reached q.at q.step → line_at s at ≡ ended s (reached q.at q.step)
    line-some q g = named ∙ ap (ended s) g

    pub line-off : (l : Lack) → LackedBy l (items s (template_of k) (reached end (empty_step k))) → LackedBy l (line_at s at)
    line-off l g =
        let x = items s (template_of k) (reached end (empty_step k)) in
        passed l x (line_at s at) g (named ∙ ended-bad s x (bad l x g))
