-- What stands at a fault's column is not what was expected there.
use Prim.Native.Nat.{ℕ, zero, suc, ◌+◌, ◌≤◌, ◌<◌}
use mathlib.Core.Bool.{Bool, true, false}
use mathlib.Core.Path.{◌≡◌, refl, sym, ap, ◌∙◌, subst}
use mathlib.Core.List.{List, [], ◌∷◌}
use native.Mathlib.Omega.{arith}
use borrow.Author.Tests.{ltb-true, ltb-false, leb-true, le-leb, eqb-true, eqb-false, eq-eqb}
use lib.Dec.{eqb, ltb, leb}
use lib.ListN.{length, get_or, get_or-eq_default}
use Rattle.octets.specs.Bytes.{◌and◌}
use Rattle.octets.proofs.Tests.{pick-view, never, and-off}
use Rattle.octets.proofs.Zero.{both}
use Rattle.marks.specs.Incarnation.{same_list}
use Rattle.rules.specs.declared.Step.{Step}
use Rattle.notation.specs.Notation.{transactor_field, message_field, group_field, name_of, template_of}
use Rattle.notation.specs.Reading.{Reader, next, word_at, is_number, most_of, fits, with_field, good, reached, word_item, member_at, comma_next, more_members, closed, members_at, group_at, item as item_of, items, all, ended, row_named, empty_step, line_at}
use Rattle.notation.specs.Grammar.{Item, field, group, to, text, whole}
use Rattle.notation.specs.Faults.{Lacking, no_item, no_group, no_comma, no_kind, no_end}
use Rattle.notation.proofs.Within.{next-from}
use Rattle.notation.proofs.Groups.{idle}
use Rattle.notation.proofs.Items.{is_item}
use Rattle.notation.proofs.Rows.{row}
use Rattle.notation.proofs.Accepted.{digits_number}
use Rattle.notation.proofs.Sound.{member-sound, one-comma, more-suc, more-zero}
use Rattle.notation.proofs.Columns.{Faulty, closed-stays, more_stays, items-stays, ended-stays}

-- a word that is an item fits it
item-fits : (q r : Step) (c : ℕ) (w : List ℕ) → Item q c w r → (c ≡ group_field → ⊥) → fits c w ≡ true
unfolding fits same_list
item-fits q r c w (field _ n _ _ i j d m f) v = rw (le-leb c 4 j, digits_number w n (most_of c) d m)
item-fits q r c w (group g _ _ u f) v = absurd (v refl)
item-fits q r c w (to _ f) v = rw f
item-fits q r c w (text _ f) v = rw f
item-fits q r c w (whole _ _ l x f) v = rw (l, x)

no-item : (s : List ℕ) (at c : ℕ) → is_item c ≡ true → (c ≡ group_field → ⊥) → fits c (word_at s at) ≡ false → Lacking s at c
unfolding is_item
no-item s at c k v f = let b = both (leb 1 c) (leb c 8) k in no_item c (leb-true 1 c b.0) (leb-true c 8 b.1) v (λ q r i. never (sym (item-fits q r c (word_at s at) i v) ∙ f))

module _ (s : List ℕ) where
  abbrev Lacks : Reader → Type 0
  Lacks y = Faulty s y → Lacking s y.at y.expected

  word-lacks : (c at : ℕ) (p : Step) → is_item c ≡ true → (c ≡ group_field → ⊥) → Lacks (word_item c s at p)
  unfolding word_item
  word-lacks c at p k v = pick-view Lacks (fits c (word_at s at)) _ _ (λ e n. absurd (n refl)) (λ e n. no-item s at c k v e)

  fits-transactor : (w : List ℕ) → fits transactor_field w ≡ is_number (most_of transactor_field) w
  unfolding fits
  fits-transactor w = refl

  member-lacks : (at : ℕ) (p : Step) → Lacks (member_at s at p)
  unfolding member_at is_item
  member-lacks at p =
      pick-view Lacks (is_number (most_of transactor_field) (word_at s at)) _ _ (λ e n. absurd (n refl))
      (λ e n. no-item s at transactor_field refl (λ (q : transactor_field ≡ group_field). omega arith) (fits-transactor (word_at s at) ∙ e))

  closed-lacks : (r : Reader) → r.expected ≡ 0 → (get_or s (next s r.at) 0 ≡ 44 → ⊥) → Lacks (closed s r)
  unfolding closed
  closed-lacks r z c =
      pick-view Lacks (good r) _ _
      (λ g. pick-view Lacks (eqb (get_or s (next s r.at) 0) 125) _ _ (λ e n. absurd (n refl)) (λ e n. no_comma c (eqb-false (get_or s (next s r.at) 0) 125 e)))
      (λ g n. absurd (n z))

  no-comma : (r : Reader) → r.expected ≡ 0 → comma_next s r ≡ false → get_or s (next s r.at) 0 ≡ 44 → ⊥
  unfolding comma_next
  no-comma r z c = eqb-false (get_or s (next s r.at) 0) 44 (and-off (good r) (eqb (get_or s (next s r.at) 0) 44) c (eq-eqb r.expected 0 z))

  past_end : (at c : ℕ) → 0 < c → length s ≤ at → get_or s at 0 ≡ c → ⊥
  past_end at c h l e = omega (arith, get_or-eq_default s 0 {n = at} l)

  -- a comma and a take move on
  member-on : (r m : Reader) → m ≡ member_at s (next s (next s r.at + 1)) r.step → m.expected ≡ 0 → r.at + 1 ≤ m.at
  member-on r m q z =
      let n : ℕ = next s (next s r.at + 1) in
      let a = member-sound s n r.step (ap (λ (y : Reader). y.expected) (sym q) ∙ z) in
      let e : m.at ≡ n + length (word_at s n) = ap (λ (y : Reader). y.at) (q ∙ a.is) in
      omega (arith, next-from s r.at, next-from s (next s r.at + 1))

  more-lacks : (f : ℕ) (r : Reader) → r.expected ≡ 0 → length s ≤ r.at + f → Lacks (closed s (more_members f s r))
  more-lacks zero r z l =
      subst (λ (y : Reader). Lacks (closed s y)) (sym (more-zero s r)) (closed-lacks r z (past_end (next s r.at) 44 (omega arith) (omega (arith, next-from s r.at))))
  more-lacks (suc f) r z l = go (comma_next s r) refl (more-lacks f)
    where
      m : Reader
      m = member_at s (next s (next s r.at + 1)) r.step

      at-member : ((r : Reader) → r.expected ≡ 0 → length s ≤ r.at + f → Lacks (closed s (more_members f s r))) → (b : Bool) → eqb m.expected 0 ≡ b → Lacks (closed s (more_members f s m))
      at-member ih true e =
          let a : m.expected ≡ 0 = eqb-true m.expected 0 e in
          ih m a (omega (arith, member-on r m refl a))
      at-member ih false e =
          let a : Faulty s m = eqb-false m.expected 0 e in
          subst Lacks (sym (ap (closed s) (more_stays s f m a) ∙ closed-stays s m a)) (member-lacks (next s (next s r.at + 1)) r.step)

      go : (t : Bool) → comma_next s r ≡ t → ((r : Reader) → r.expected ≡ 0 → length s ≤ r.at + f → Lacks (closed s (more_members f s r))) → Lacks (closed s (more_members (suc f) s r))
      go true c ih = subst (λ (y : Reader). Lacks (closed s y)) (sym (more-suc s f r ∙ ap (more_members f s) (one-comma s r c))) (at-member ih (eqb m.expected 0) refl)
      go false c ih = subst (λ (y : Reader). Lacks (closed s y)) (sym (idle s r c (suc f))) (closed-lacks r z (no-comma r z c))

  members-lacks : (at : ℕ) (p : Step) → Lacks (members_at s at p)
  unfolding members_at
  members-lacks at p = pick-view Lacks (eqb (get_or s at 0) 125) _ _ (λ e n. absurd (n refl)) (λ e. go (eqb (member_at s at p).expected 0) refl)
    where
      go : (b : Bool) → eqb (member_at s at p).expected 0 ≡ b → Lacks (closed s (more_members (length s) s (member_at s at p)))
      go true e = more-lacks (length s) (member_at s at p) (eqb-true (member_at s at p).expected 0 e) (omega arith)
      go false e =
          let a : Faulty s (member_at s at p) = eqb-false (member_at s at p).expected 0 e in
          subst Lacks (sym (ap (closed s) (more_stays s (length s) (member_at s at p) a) ∙ closed-stays s (member_at s at p) a)) (member-lacks at p)

  group-lacks : (at : ℕ) (p : Step) → Lacks (group_at s at p)
  unfolding group_at
  group-lacks at p = pick-view Lacks (eqb (get_or s at 0) 123) _ _ (λ e. members-lacks (next s (at + 1)) (with_field message_field 0 p)) (λ e n. no_group (eqb-false (get_or s at 0) 123 e))

  item-lacks : (r : Reader) (c : ℕ) → is_item c ≡ true → r.expected ≡ 0 → Lacks (item_of s r c)
  unfolding item_of
  item-lacks r c k z =
      pick-view Lacks (good r) _ _
      (λ g. pick-view Lacks (eqb c group_field) _ _ (λ e. group-lacks (next s r.at) r.step) (λ e. word-lacks c (next s r.at) r.step k (eqb-false c group_field e)))
      (λ g n. absurd (n z))

  items-lacks : (cs : List ℕ) (r : Reader) → all is_item cs ≡ true → r.expected ≡ 0 → Lacks (items s cs r)
  unfolding items all
  items-lacks [] r k z n = absurd (n z)
  items-lacks (c ∷ cs) r k z n = let h = both (is_item c) (all is_item cs) k in go h.0 (eqb (item_of s r c).expected 0) refl (λ x. items-lacks cs x h.1) n
    where
      go : is_item c ≡ true → (b : Bool) → eqb (item_of s r c).expected 0 ≡ b → ((r : Reader) → r.expected ≡ 0 → Lacks (items s cs r)) → Lacks (items s cs (item_of s r c))
      go k true e ih = ih (item_of s r c) (eqb-true (item_of s r c).expected 0 e)
      go k false e ih = subst Lacks (sym (items-stays s cs (item_of s r c) (eqb-false (item_of s r c).expected 0 e))) (item-lacks r c k z)

  ended-lacks : (r : Reader) → r.expected ≡ 0 → Lacks (ended s r)
  unfolding ended
  ended-lacks r z =
      pick-view Lacks (good r and ltb (next s r.at) (length s)) _ _
      (λ g n. no_end (ltb-true (next s r.at) (length s) (both (good r) (ltb (next s r.at) (length s)) g).1))
      (λ g n. absurd (n z))

  -- What was expected is not there.
  pub line-lacks : (at : ℕ) → Lacks (line_at s at)
  unfolding line_at
  line-lacks at =
      pick-view Lacks (ltb (row_named (word_at s at)) 14) _ _
      (λ e. go (row (row_named (word_at s at)) (ltb-true (row_named (word_at s at)) 14 e)).fields (eqb x.expected 0) refl)
      (λ e n. no_kind (λ (k : ℕ) (b : k < 14) (q : name_of k ≡ word_at s at).
      let f : row_named (word_at s at) ≡ k = ap row_named (sym q) ∙ (row k b).found in
      omega (arith, ltb-false (row_named (word_at s at)) 14 e)))
    where
      x : Reader
      x = items s (template_of (row_named (word_at s at))) (reached (at + length (word_at s at)) (empty_step (row_named (word_at s at))))

      go : all is_item (template_of (row_named (word_at s at))) ≡ true → (b : Bool) → eqb x.expected 0 ≡ b → Lacks (ended s x)
      go k true e = ended-lacks x (eqb-true x.expected 0 e)
      go k false e = subst Lacks (sym (ended-stays s x (eqb-false x.expected 0 e))) (items-lacks (template_of (row_named (word_at s at))) (reached (at + length (word_at s at)) (empty_step (row_named (word_at s at)))) k refl)
