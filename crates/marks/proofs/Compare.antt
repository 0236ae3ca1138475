-- The tests on the lives of two histories, from the places of their lists: what the code compares.
use Prim.Native.Nat.{ℕ, suc, ◌≤◌, ◌<◌}
use mathlib.Core.Bool.{Bool, true, false}
use mathlib.Core.Path.{◌≡◌, refl, sym, ◌∙◌}
use mathlib.Core.List.{List, [], ◌∷◌, ◌++◌}
use native.Mathlib.Omega.{arith}
use lib.Dec.{eqb}
use lib.ListN.{length, take, get_or, length-append, length-take}
use lib.Seq.{length-take-le, take-take, take-suc, get_or-take}
use borrow.Author.Tests.{lt-ltb, le-ltb, eq-eqb, ne_eqb}
use Rattle.octets.specs.Bytes.{pick, ◌and◌}
use Rattle.octets.proofs.Tests.{and-true, and-false}
use Rattle.marks.specs.declared.History.{History}
use Rattle.marks.specs.Incarnation.{same_list, begins_with, strict_prefix, checkpointed_in, same_incarnation}
use Rattle.marks.specs.declared.Relation.TheVariants.{Same, LeftCheckpointed, LeftSuperseded, RightSuperseded, Unrelated}
use Rattle.marks.specs.History.{incarnation_of}
use Rattle.marks.specs.Relation.{by_numbers, by_next_entry, relation_of}
use Rattle.marks.proofs.Tests.{same_length}

pick-none : (t : Bool) → pick t Unrelated Unrelated ≡ Unrelated
pick-none true = refl
pick-none false = refl

and_assoc : (s t u : Bool) → s and t and u ≡ (s and t) and u
and_assoc true t u = refl
and_assoc false t u = refl

same-snoc : (xs ys : List ℕ) (x y : ℕ) → length xs ≡ length ys → same_list (xs ++ (x ∷ [])) (ys ++ (y ∷ [])) ≡ same_list xs ys and eqb x y
unfolding same_list
same-snoc [] [] x y h = and-true (eqb x y)
same-snoc [] (v ∷ ys) x y h = absurd (omega arith)
same-snoc (u ∷ xs) [] x y h = absurd (omega arith)
same-snoc (u ∷ xs) (v ∷ ys) x y h = rw (same-snoc xs ys x y (omega arith)) (and_assoc (eqb u v) (same_list xs ys) (eqb x y))

-- the first places of b's list, as many as a uses, are those of a
abbrev pub agree : History → History → Bool
agree a b = same_list (take a.count a.checkpoints) (take a.count b.checkpoints)

module _ (l : ℕ) (a b : History) (pa : length a.checkpoints ≡ l) (pb : length b.checkpoints ≡ l) (ca : a.count ≤ l) (cb : b.count ≤ l) where
  la : length (incarnation_of a).checkpoints ≡ a.count
  la = length-take-le a.count a.checkpoints (omega arith)

  lb : length (incarnation_of b).checkpoints ≡ b.count
  lb = length-take-le b.count b.checkpoints (omega arith)

  -- lists of other lengths are not the same
  apart : (a.count ≡ b.count → ⊥) → same_list (incarnation_of a).checkpoints (incarnation_of b).checkpoints ≡ false
  apart h = same_length (incarnation_of a).checkpoints (incarnation_of b).checkpoints (λ e. h (sym la ∙ e ∙ lb))

  begins-test : a.count ≤ b.count → begins_with (incarnation_of b).checkpoints (incarnation_of a).checkpoints ≡ agree a b
  unfolding begins_with
  begins-test h = rw (la, take-take a.count b.count b.checkpoints h)

  -- ---- checkpointed (signed)

  one_more : length ((incarnation_of a).checkpoints ++ (a.incarnation ∷ [])) ≡ suc a.count
  one_more = rw (length-append, la) (omega arith)

  pub checkpointed-short : b.count ≤ a.count → false ≡ checkpointed_in (incarnation_of a) (incarnation_of b)
  unfolding checkpointed_in begins_with
  checkpointed-short h = sym (same_length
      ((incarnation_of a).checkpoints ++ (a.incarnation ∷ []))
      (take (length ((incarnation_of a).checkpoints ++ (a.incarnation ∷ []))) (incarnation_of b).checkpoints)
      (rw (length-take, one_more, lb) (λ e. omega arith)))

  checkpointed-longer : a.count < b.count
      → checkpointed_in (incarnation_of a) (incarnation_of b) ≡ agree a b and eqb a.incarnation (get_or b.checkpoints a.count 0)
  unfolding checkpointed_in begins_with
  checkpointed-longer h =
      let k : a.count < length b.checkpoints = omega arith in
      let m : length (take a.count b.checkpoints) ≡ a.count = length-take-le a.count b.checkpoints (omega arith) in
      rw (one_more, take-take (suc a.count) b.count b.checkpoints h, take-suc b.checkpoints a.count 0 k)
      (same-snoc (incarnation_of a).checkpoints (take a.count b.checkpoints) a.incarnation (get_or b.checkpoints a.count 0) (la ∙ sym m))

  module _ (h : a.count < b.count) where
    pub checkpointed-off : (a.incarnation ≡ get_or b.checkpoints a.count 0 → ⊥) → false ≡ checkpointed_in (incarnation_of a) (incarnation_of b)
    checkpointed-off k = sym (checkpointed-longer h ∙ rw (ne_eqb a.incarnation (get_or b.checkpoints a.count 0) k) (and-false (agree a b)))

    pub checkpointed-entry : a.incarnation ≡ get_or b.checkpoints a.count 0 → agree a b ≡ checkpointed_in (incarnation_of a) (incarnation_of b)
    checkpointed-entry k = sym (checkpointed-longer h ∙ rw (eq-eqb a.incarnation (get_or b.checkpoints a.count 0) k) (and-true (agree a b)))

  -- ---- one life

  pub same_count : (a.count ≡ b.count → ⊥) → false ≡ same_incarnation (incarnation_of a) (incarnation_of b)
  unfolding same_incarnation
  same_count h = rw (apart h)

  pub same_number : (a.incarnation ≡ b.incarnation → ⊥) → false ≡ same_incarnation (incarnation_of a) (incarnation_of b)
  unfolding same_incarnation
  same_number h = rw (ne_eqb a.incarnation b.incarnation h) (sym (and-false (same_list (incarnation_of a).checkpoints (incarnation_of b).checkpoints)))

  pub same_rest : a.count ≡ b.count → a.incarnation ≡ b.incarnation → agree a b ≡ same_incarnation (incarnation_of a) (incarnation_of b)
  unfolding same_incarnation
  same_rest e f = rw (eq-eqb a.incarnation b.incarnation f, e) (sym (and-true (same_list (take b.count a.checkpoints) (incarnation_of b).checkpoints)))

  -- ---- the comparison

  module _ (h : a.count < b.count) where
    relation-longer : relation_of (incarnation_of a) (incarnation_of b)
        ≡ pick (agree a b) (by_next_entry a.incarnation (get_or b.checkpoints a.count 0)) Unrelated
    unfolding relation_of strict_prefix
    relation-longer = rw (
      apart (λ e. omega arith),
      begins-test (omega arith),
      la,
      lb,
      lt-ltb a.count b.count h,
      le-ltb b.count a.count (omega arith),
      get_or-take b.count b.checkpoints a.count 0 h,
    )

    pub relation-off : get_or b.checkpoints a.count 0 < a.incarnation → Unrelated ≡ relation_of (incarnation_of a) (incarnation_of b)
    unfolding by_next_entry
    relation-off k = sym (relation-longer ∙ rw (lt-ltb (get_or b.checkpoints a.count 0) a.incarnation k) (pick-none (agree a b)))

    pub relation-apart : agree a b ≡ false → Unrelated ≡ relation_of (incarnation_of a) (incarnation_of b)
    relation-apart e = sym (relation-longer ∙ rw e)

    pub relation-checkpointed : agree a b ≡ true → a.incarnation ≡ get_or b.checkpoints a.count 0 → LeftCheckpointed ≡ relation_of (incarnation_of a) (incarnation_of b)
    unfolding by_next_entry
    relation-checkpointed e k = sym (relation-longer ∙ rw (
      e,
      le-ltb (get_or b.checkpoints a.count 0) a.incarnation (omega arith),
      eq-eqb a.incarnation (get_or b.checkpoints a.count 0) k,
    ))

    pub relation-superseded : agree a b ≡ true → a.incarnation ≤ get_or b.checkpoints a.count 0 → (a.incarnation ≡ get_or b.checkpoints a.count 0 → ⊥)
        → LeftSuperseded ≡ relation_of (incarnation_of a) (incarnation_of b)
    unfolding by_next_entry
    relation-superseded e k n = sym (relation-longer ∙ rw (
      e,
      le-ltb (get_or b.checkpoints a.count 0) a.incarnation k,
      ne_eqb a.incarnation (get_or b.checkpoints a.count 0) n,
    ))

  module _ (h : a.count ≡ b.count) where
    relation-even : relation_of (incarnation_of a) (incarnation_of b) ≡ pick (agree a b) (by_numbers a.incarnation b.incarnation) Unrelated
    unfolding relation_of strict_prefix
    relation-even = rw (la, lb, le-ltb a.count b.count (omega arith), le-ltb b.count a.count (omega arith), h)

    pub relation-apart-even : agree a b ≡ false → Unrelated ≡ relation_of (incarnation_of a) (incarnation_of b)
    relation-apart-even e = sym (relation-even ∙ rw e)

    pub relation-left : agree a b ≡ true → a.incarnation < b.incarnation → LeftSuperseded ≡ relation_of (incarnation_of a) (incarnation_of b)
    unfolding by_numbers
    relation-left e k = sym (relation-even ∙ rw (e, lt-ltb a.incarnation b.incarnation k))

    pub relation-right : agree a b ≡ true → b.incarnation < a.incarnation → RightSuperseded ≡ relation_of (incarnation_of a) (incarnation_of b)
    unfolding by_numbers
    relation-right e k = sym (relation-even ∙ rw (e, le-ltb a.incarnation b.incarnation (omega arith), lt-ltb b.incarnation a.incarnation k))

    pub relation-same : agree a b ≡ true → a.incarnation ≡ b.incarnation → Same ≡ relation_of (incarnation_of a) (incarnation_of b)
    unfolding by_numbers
    relation-same e k = sym (relation-even ∙ rw (
      e,
      le-ltb a.incarnation b.incarnation (omega arith),
      le-ltb b.incarnation a.incarnation (omega arith),
    ))
