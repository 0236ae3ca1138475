-- The comparison of two lives: each answer is the relation of document 01 that it names, and there is no other.
use Prim.Native.Nat.{ℕ, suc, ◌≤◌, ◌<◌}
use mathlib.Core.Bool.{Bool, true, false, false≢true}
use mathlib.Core.Path.{◌≡◌, refl, ap, sym, ◌∙◌}
use mathlib.Core.List.{List, [], ◌∷◌, ◌++◌}
use mathlib.Core.Logic.{◌⊎◌, inl, inr, ◌↔◌, ⊎_elim}
use native.Mathlib.Omega.{arith}
use lib.Dec.{eqb, ltb}
use lib.ListN.{length, drop, get_or, length-append}
use borrow.Author.Tests.{ltb-true, ltb-false, eqb-true, eqb-false}
use Rattle.octets.specs.Bytes.{pick}
use Rattle.octets.proofs.Zero.{both}
use Rattle.marks.specs.declared.Relation.{Relation}
use Rattle.marks.specs.declared.Relation.TheVariants.{Same, LeftCheckpointed, RightCheckpointed, LeftSuperseded, RightSuperseded, Unrelated}
use Rattle.marks.specs.Incarnation.{Incarnation, same_list, begins_with, strict_prefix, superseded_by, checkpointed_in, same_incarnation, Superseded, lower, passed, Checkpointed, begins}
use Rattle.marks.specs.Relation.{turned, by_numbers, by_next_entry, next_entry, relation_of, relation_number, is_same, is_left_checkpointed, is_left_superseded, is_unrelated, Related, same, left-checkpointed, right-checkpointed, left-superseded, right-superseded, unrelated}
use Rattle.marks.specs.Order.{Along, Precedes}
use Rattle.marks.proofs.Trail.{clash, there, places}
use Rattle.marks.proofs.Order.{checkpointed-precedes, superseded-precedes, precedes-eq, precedes-size, precedes-antisym, comparable, superseded-not-checkpointed, superseded-ne, checkpointed-ne}
use Rattle.marks.proofs.Tests.{not_test, same_list-test, strict-to, strict_of, superseded-test, checkpointed-test, same_test}

-- ---- a number has one answer

numbered : ℕ → Relation
numbered n = get_or (Same ∷ LeftCheckpointed ∷ RightCheckpointed ∷ LeftSuperseded ∷ RightSuperseded ∷ Unrelated ∷ []) n Same

numbered-again : (r : Relation) → numbered (relation_number r) ≡ r
unfolding numbered
numbered-again Same = refl
numbered-again LeftCheckpointed = refl
numbered-again RightCheckpointed = refl
numbered-again LeftSuperseded = refl
numbered-again RightSuperseded = refl
numbered-again Unrelated = refl

pub same_answer : (r q : Relation) → relation_number r ≡ relation_number q → r ≡ q
same_answer r q e = sym (numbered-again r) ∙ ap numbered e ∙ numbered-again q

-- ---- what each answer means

pub turned-related : {a b : Incarnation} {r : Relation} → Related a b r → Related b a (turned r)
turned-related (same e) = same (sym e)
turned-related (left-checkpointed k) = right-checkpointed k
turned-related (right-checkpointed k) = left-checkpointed k
turned-related (left-superseded s) = right-superseded s
turned-related (right-superseded s) = left-superseded s
turned-related (unrelated f g) = unrelated g f

-- ---- the comparison answers so

numbers-related : (a b : Incarnation) → a.checkpoints ≡ b.checkpoints → Related a b (by_numbers a.number b.number)
unfolding by_numbers
numbers-related a b e = go (ltb a.number b.number) (ltb b.number a.number) refl refl
  where
    go : (t u : Bool) → ltb a.number b.number ≡ t → ltb b.number a.number ≡ u → Related a b (pick t LeftSuperseded (pick u RightSuperseded Same))
    go true u p q = left-superseded (lower e (ltb-true a.number b.number p))
    go false true p q = right-superseded (lower (sym e) (ltb-true b.number a.number q))
    go false false p q =
        let n : a.number ≡ b.number = omega (arith, ltb-false a.number b.number p, ltb-false b.number a.number q) in
        same (λ i. record { checkpoints = e i; number = n i })

-- b's list is a's, y, and a rest
module _ (a b : Incarnation) (y : ℕ) (r : List ℕ) (e : b.checkpoints ≡ a.checkpoints ++ y ∷ r) where
  -- the longer does not precede the shorter
  longer-not : Precedes b a → ⊥
  longer-not h = go (precedes-size h)
    where
      size : length b.checkpoints ≡ length (a.checkpoints ++ y ∷ r)
      size = ap length e

      go : (length b.checkpoints < length a.checkpoints) ⊎ ((b.checkpoints ≡ a.checkpoints) × (b.number ≤ a.number)) → ⊥
      go (inl k) = omega (arith, size, length-append a.checkpoints (y ∷ r))
      go (inr k) = omega (arith, size, ap length k.0, length-append a.checkpoints (y ∷ r))

  -- nor the shorter the longer, if its n is greater than the next entry
  shorter-not : y < a.number → Precedes a b → ⊥
  shorter-not h = rw e (clash (λ n m. omega arith) (λ n m. omega arith) passes)
    where
      passes : Along (λ n m. ⊥) (λ n m. m < n) a.checkpoints a.number (a.checkpoints ++ y ∷ r) b.number
      passes = there a.checkpoints y r h

  entry-related : Related a b (by_next_entry a.number y)
  unfolding by_next_entry
  entry-related = go (ltb y a.number) (eqb a.number y) refl refl
    where
      go : (t u : Bool) → ltb y a.number ≡ t → eqb a.number y ≡ u → Related a b (pick t Unrelated (pick u LeftCheckpointed LeftSuperseded))
      go true u p q = unrelated (shorter-not (ltb-true y a.number p)) longer-not
      go false true p q =
          let n : y ≡ a.number = sym (eqb-true a.number y q) in
          left-checkpointed (begins r (e ∙ ap (λ (z : ℕ). a.checkpoints ++ z ∷ r) n))
      go false false p q =
          let n : (a.number ≡ y → ⊥) = eqb-false a.number y q in
          let k : a.number < y = omega (arith, ltb-false y a.number p, n) in
          left-superseded (passed y r e k)

-- a life precedes only those whose list begins with its own
apart : (a b : Incarnation) → same_list a.checkpoints b.checkpoints ≡ false → strict_prefix a.checkpoints b.checkpoints ≡ false → Precedes a b → ⊥
apart a b e f h = go (places h)
  where
    go : ((a.checkpoints ≡ b.checkpoints) × (a.number ≤ b.number)) ⊎ ((y : ℕ) × (r : List ℕ) × (b.checkpoints ≡ a.checkpoints ++ y ∷ r) × (a.number ≤ y)) → ⊥
    go (inl k) = (not_test (same_list a.checkpoints b.checkpoints) (same_list-test a.checkpoints b.checkpoints)).0 e k.0
    go (inr k) = false≢true (sym f ∙ ap (strict_prefix a.checkpoints) k.2 ∙ strict_of a.checkpoints k.0 k.1)

same-sym : (xs ys : List ℕ) → same_list xs ys ≡ false → same_list ys xs ≡ false
same-sym xs ys e = (not_test (same_list ys xs) (same_list-test ys xs)).1 (λ k. (not_test (same_list xs ys) (same_list-test xs ys)).0 e (sym k))

pub relation-related : (a b : Incarnation) → Related a b (relation_of a b)
unfolding relation_of
relation-related a b = go (same_list p q) (strict_prefix p q) (strict_prefix q p) refl refl refl
  where
    p : List ℕ
    p = a.checkpoints

    q : List ℕ
    q = b.checkpoints

    go : (t u v : Bool) → same_list p q ≡ t → strict_prefix p q ≡ u → strict_prefix q p ≡ v
        → Related a b (pick t (by_numbers a.number b.number)
        (pick u (by_next_entry a.number (next_entry a b)) (pick v (turned (by_next_entry b.number (next_entry b a))) Unrelated)))
    go true u v e f g = numbers-related a b ((same_list-test p q).0 e)
    go false true v e f g = entry-related a b (next_entry a b) (drop (suc (length p)) q) (strict-to p q f)
    go false false true e f g = turned-related (entry-related b a (next_entry b a) (drop (suc (length q)) p) (strict-to q p g))
    go false false false e f g = unrelated (apart a b e f) (apart b a (same-sym p q e) g)

-- ---- each test on lives is a reading of it

-- a life that is before another is not after it
not_after : {a b : Incarnation} → Superseded a b → Precedes b a → ⊥
not_after s h = superseded-ne s (precedes-antisym (superseded-precedes s) h)

not-after-checkpointed : {a b : Incarnation} → Checkpointed a b → Precedes b a → ⊥
not-after-checkpointed k h = checkpointed-ne k (precedes-antisym (checkpointed-precedes k) h)

-- a test that fails, and what it stands for excluded
off : {P : Type 0} → (P → ⊥) → (false ≡ true) ↔ P
off f = (λ e. absurd (false≢true e), λ p. absurd (f p))

on : {P : Type 0} → P → (true ≡ true) ↔ P
on p = (λ e. p, λ q. refl)

reads_same : {a b : Incarnation} {r : Relation} → Related a b r → (is_same r ≡ true) ↔ (a ≡ b)
reads_same (same e) = on e
reads_same (left-checkpointed k) = off (checkpointed-ne k)
reads_same (right-checkpointed k) = off (λ e. checkpointed-ne k (sym e))
reads_same (left-superseded s) = off (superseded-ne s)
reads_same (right-superseded s) = off (λ e. superseded-ne s (sym e))
reads_same (unrelated f g) = off (λ e. f (precedes-eq e))

reads-checkpointed : {a b : Incarnation} {r : Relation} → Related a b r → (is_left_checkpointed r ≡ true) ↔ Checkpointed a b
reads-checkpointed (same e) = off (λ k. checkpointed-ne k e)
reads-checkpointed (left-checkpointed k) = on k
reads-checkpointed (right-checkpointed k) = off (λ h. not-after-checkpointed k (checkpointed-precedes h))
reads-checkpointed (left-superseded s) = off (superseded-not-checkpointed s)
reads-checkpointed (right-superseded s) = off (λ h. not_after s (checkpointed-precedes h))
reads-checkpointed (unrelated f g) = off (λ h. f (checkpointed-precedes h))

reads-superseded : {a b : Incarnation} {r : Relation} → Related a b r → (is_left_superseded r ≡ true) ↔ Superseded a b
reads-superseded (same e) = off (λ s. superseded-ne s e)
reads-superseded (left-checkpointed k) = off (λ s. superseded-not-checkpointed s k)
reads-superseded (right-checkpointed k) = off (λ s. not_after s (checkpointed-precedes k))
reads-superseded (left-superseded s) = on s
reads-superseded (right-superseded s) = off (λ h. not_after s (superseded-precedes h))
reads-superseded (unrelated f g) = off (λ s. f (superseded-precedes s))

reads-unrelated : {a b : Incarnation} {r : Relation} → Related a b r → (is_unrelated r ≡ false) ↔ (Precedes a b ⊎ Precedes b a)
reads-unrelated (same e) = (λ k. inl (precedes-eq e), λ h. refl)
reads-unrelated (left-checkpointed k) = (λ e. inl (checkpointed-precedes k), λ h. refl)
reads-unrelated (right-checkpointed k) = (λ e. inr (checkpointed-precedes k), λ h. refl)
reads-unrelated (left-superseded s) = (λ e. inl (superseded-precedes s), λ h. refl)
reads-unrelated (right-superseded s) = (λ e. inr (superseded-precedes s), λ h. refl)
reads-unrelated (unrelated f g) = (λ e. absurd (false≢true (sym e)), λ h. absurd (⊎_elim f g h))

-- two tests that stand for the same are the same
same_tests : {P : Type 0} (t u : Bool) → (t ≡ true) ↔ P → (u ≡ true) ↔ P → t ≡ u
same_tests true u h k = sym (k.1 (h.0 refl))
same_tests false u h k = sym ((not_test u k).1 (λ p. false≢true (h.1 p)))

module _ (a b : Incarnation) where
  pub same_reads : same_incarnation a b ≡ is_same (relation_of a b)
  same_reads = same_tests (same_incarnation a b) (is_same (relation_of a b)) (same_test a b) (reads_same (relation-related a b))

  pub checkpointed-reads : checkpointed_in a b ≡ is_left_checkpointed (relation_of a b)
  checkpointed-reads = same_tests (checkpointed_in a b) (is_left_checkpointed (relation_of a b)) (checkpointed-test a b) (reads-checkpointed (relation-related a b))

  pub superseded-reads : superseded_by a b ≡ is_left_superseded (relation_of a b)
  superseded-reads = same_tests (superseded_by a b) (is_left_superseded (relation_of a b)) (superseded-test a b) (reads-superseded (relation-related a b))

  -- related: one precedes the other
  pub related-precedes : (is_unrelated (relation_of a b) ≡ false) ↔ (Precedes a b ⊎ Precedes b a)
  related-precedes = reads-unrelated (relation-related a b)

-- two lives that precede a third are related
pub related-before : {a b c : Incarnation} → Precedes a c → Precedes b c → is_unrelated (relation_of a b) ≡ false
related-before {a} {b} h k = (related-precedes a b).1 (comparable h k)

-- ---- it turns round with its arguments

turned-twice : (r : Relation) → turned (turned r) ≡ r
turned-twice Same = refl
turned-twice LeftCheckpointed = refl
turned-twice RightCheckpointed = refl
turned-twice LeftSuperseded = refl
turned-twice RightSuperseded = refl
turned-twice Unrelated = refl

turned-numbers : (n m : ℕ) → by_numbers m n ≡ turned (by_numbers n m)
unfolding by_numbers
turned-numbers n m = go (ltb n m) (ltb m n) refl refl
  where
    go : (t u : Bool) → ltb n m ≡ t → ltb m n ≡ u → pick u LeftSuperseded (pick t RightSuperseded Same) ≡ turned (pick t LeftSuperseded (pick u RightSuperseded Same))
    go true true e f = absurd (omega (arith, ltb-true n m e, ltb-true m n f))
    go true false e f = refl
    go false true e f = refl
    go false false e f = refl

same-turned : (xs ys : List ℕ) → same_list ys xs ≡ same_list xs ys
same-turned xs ys = same_tests (same_list ys xs) (same_list xs ys) (same_list-test ys xs) ((λ e. sym ((same_list-test xs ys).0 e)), (λ e. (same_list-test xs ys).1 (sym e)))

-- neither of two lists is a strict prefix of the other, or one of them
strict-once : (xs ys : List ℕ) → strict_prefix xs ys ≡ true → strict_prefix ys xs ≡ true → ⊥
unfolding strict_prefix
strict-once xs ys e f =
    let h = ltb-true (length xs) (length ys) (both (ltb (length xs) (length ys)) (begins_with ys xs) e).0 in
    let k = ltb-true (length ys) (length xs) (both (ltb (length ys) (length xs)) (begins_with xs ys) f).0 in
    omega arith

pub relation-turned : (a b : Incarnation) → relation_of b a ≡ turned (relation_of a b)
unfolding relation_of
relation-turned a b =
    rw (same-turned a.checkpoints b.checkpoints, turned-numbers a.number b.number)
    (go (same_list a.checkpoints b.checkpoints) (strict_prefix a.checkpoints b.checkpoints) (strict_prefix b.checkpoints a.checkpoints)
    (by_numbers a.number b.number) (by_next_entry a.number (next_entry a b)) (by_next_entry b.number (next_entry b a))
    (strict-once a.checkpoints b.checkpoints))
  where
    go : (t u v : Bool) (x y z : Relation) → (u ≡ true → v ≡ true → ⊥)
        → pick t (turned x) (pick v z (pick u (turned y) Unrelated)) ≡ turned (pick t x (pick u y (pick v (turned z) Unrelated)))
    go true u v x y z h = refl
    go false true true x y z h = absurd (h refl refl)
    go false true false x y z h = refl
    go false false true x y z h = sym (turned-twice z)
    go false false false x y z h = refl
