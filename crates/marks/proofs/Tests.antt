-- The tests of specs reflect the relations, so the relations are decidable.
use Prim.Native.Nat.{ℕ, suc, ◌+◌, ◌<◌, ◌≤◌}
use mathlib.Core.Bool.{Bool, true, false, false≢true, ◌&&◌}
use mathlib.Core.Path.{◌≡◌, refl, ap, sym, ◌∙◌, subst}
use mathlib.Core.List.{List, [], ◌∷◌, ◌++◌}
use mathlib.Core.Logic.{◌⊎◌, inl, inr, ◌↔◌}
use native.Mathlib.Numerals.{add-one}
use native.Mathlib.Omega.{arith}
use lib.Dec.{eqb, ltb}
use lib.Pointwise.{pointwise}
use lib.ListN.{length, take, drop, get_or, length-append, take-append-drop}
use lib.Seq.{length-take-le, take-suc, take-append_seam, get_or-append_seam, get_or-take, split_at, append_snoc}
use borrow.Author.Tests.{ltb-true, lt-ltb, eqb-true, eq-eqb}
use Rattle.marks.proofs.Order.{checkpointed-ne}
use Rattle.std.proofs.lemmas.Grind.{same_number_lists}
use Rattle.octets.specs.Bytes.{◌and◌, every}
use Rattle.octets.proofs.Zero.{both, every-at, every-all}
use Rattle.octets.proofs.Tests.{same_test as tests_same, and-of, or-to, or-of}
use Rattle.marks.specs.Incarnation.{Incarnation, same_list, begins_with, strict_prefix, superseded_by, checkpointed_in, same_incarnation, Superseded, lower, passed, Checkpointed, begins}

-- ---- tests and what they stand for

-- a test that stands for P decides it
pub dec_test : {P : Type 0} (t : Bool) → (t ≡ true) ↔ P → Dec P
dec_test true h = yes (h.0 refl)
dec_test false h = no (λ p. false≢true (h.1 p))

-- and where it fails P does not hold
pub not_test : {P : Type 0} (t : Bool) → (t ≡ true) ↔ P → (t ≡ false) ↔ (P → ⊥)
not_test true h = (λ e. absurd (false≢true (sym e)), λ k. absurd (k (h.0 refl)))
not_test false h = (λ e p. false≢true (h.1 p), λ k. refl)

-- ---- equal lists

same_refl : (xs : List ℕ) → same_list xs xs ≡ true
unfolding same_list
same_refl [] = refl
same_refl (x ∷ xs) = and-of (eqb x x) (same_list xs xs) (eq-eqb x x refl) (same_refl xs)

same-to : (xs ys : List ℕ) → same_list xs ys ≡ true → xs ≡ ys
unfolding same_list
same-to [] [] e = refl
same-to [] (y ∷ ys) e = absurd (false≢true e)
same-to (x ∷ xs) [] e = absurd (false≢true e)
same-to (x ∷ xs) (y ∷ ys) e =
    let h = both (eqb x y) (same_list xs ys) e in
    let p : x ≡ y = eqb-true x y h.0 in
    let q : xs ≡ ys = same-to xs ys h.1 in
    cc

pub same_list-test : (xs ys : List ℕ) → (same_list xs ys ≡ true) ↔ (xs ≡ ys)
same_list-test xs ys = (same-to xs ys, λ e. rw e (same_refl ys))

-- `==` of two slices is the test
pub pointwise_same : (xs ys : List ℕ) → pointwise eqb xs ys ≡ same_list xs ys
unfolding same_list
pointwise_same [] [] = refl
pointwise_same [] (y ∷ ys) = refl
pointwise_same (x ∷ xs) [] = refl
pointwise_same (x ∷ xs) (y ∷ ys) = go (eqb x y) (pointwise_same xs ys)
  where
    go : (t : Bool) → pointwise eqb xs ys ≡ same_list xs ys → t && pointwise eqb xs ys ≡ t and same_list xs ys
    go true e = e
    go false e = refl

pub same_length : (xs ys : List ℕ) → (length xs ≡ length ys → ⊥) → same_list xs ys ≡ false
same_length xs ys k = (not_test (same_list xs ys) (same_list-test xs ys)).1 (λ e. k (ap length e))

-- two lists compared entry by entry
module _ (xs ys : List ℕ) where
  pub same_none : same_list (take 0 xs) (take 0 ys) ≡ true
  same_none = same_refl []

  pub same_next : (i : ℕ) → i < length xs → i < length ys → get_or xs i 0 ≡ get_or ys i 0
      → same_list (take i xs) (take i ys) ≡ true → same_list (take (i + 1) xs) (take (i + 1) ys) ≡ true
  same_next i h k e s = (same_list-test (take (i + 1) xs) (take (i + 1) ys)).1
      (rw (add-one, take-suc xs i 0 h, take-suc ys i 0 k, same-to (take i xs) (take i ys) s, e))

  pub same-off : (n i : ℕ) → i < n → (get_or xs i 0 ≡ get_or ys i 0 → ⊥) → same_list (take n xs) (take n ys) ≡ false
  same-off n i h k = (not_test (same_list (take n xs) (take n ys)) (same_list-test (take n xs) (take n ys))).1
      (λ e. k (sym (get_or-take n xs i 0 h) ∙ ap (λ l. get_or l i 0) e ∙ get_or-take n ys i 0 h))

  pub same-all : (i n : ℕ) → same_list (take i xs) (take i ys) ≡ true → i ≡ n → same_list (take n xs) (take n ys) ≡ true
  same-all i n e h = subst (λ (k : ℕ). same_list (take k xs) (take k ys) ≡ true) h e

  -- the first n entries, each compared
  pub entries_same : (n : ℕ) → n ≤ length xs → n ≤ length ys → every n (λ i. eqb (get_or xs i 0) (get_or ys i 0)) ≡ same_list (take n xs) (take n ys)
  entries_same n h k = tests_same (every n (λ i. eqb (get_or xs i 0) (get_or ys i 0))) (same_list (take n xs) (take n ys)) to of
    where
      to : every n (λ i. eqb (get_or xs i 0) (get_or ys i 0)) ≡ true → same_list (take n xs) (take n ys) ≡ true
      to e =
          let long : length (take n xs) ≡ n = length-take-le n xs h in
          let l : take n xs ≡ take n ys = same_number_lists (take n xs) (take n ys) (long ∙ sym (length-take-le n ys k))
          (λ i p. let q : i < n = omega arith in
          get_or-take n xs i 0 q ∙ eqb-true _ _ (every-at (λ i. eqb (get_or xs i 0) (get_or ys i 0)) n i e q) ∙ sym (get_or-take n ys i 0 q)) in
          (same_list-test (take n xs) (take n ys)).1 l

      of : same_list (take n xs) (take n ys) ≡ true → every n (λ i. eqb (get_or xs i 0) (get_or ys i 0)) ≡ true
      of e = every-all (λ i. eqb (get_or xs i 0) (get_or ys i 0)) n (λ i p. eq-eqb _ _
          (sym (get_or-take n xs i 0 p) ∙ ap (λ (l : List ℕ). get_or l i 0) (same-to (take n xs) (take n ys) e) ∙ get_or-take n ys i 0 p))

-- ---- prefixes

begins-to : (xs ys : List ℕ) → begins_with ys xs ≡ true → ys ≡ xs ++ drop (length xs) ys
unfolding begins_with
begins-to xs ys e = sym (take-append-drop (length xs) ys) ∙ ap (λ l. l ++ drop (length xs) ys) (sym (same-to xs (take (length xs) ys) e))

begins-of : (xs r : List ℕ) → begins_with (xs ++ r) xs ≡ true
unfolding begins_with
begins-of xs r = (same_list-test xs (take (length xs) (xs ++ r))).1 (sym (take-append_seam xs r))

pub strict-to : (xs ys : List ℕ) → strict_prefix xs ys ≡ true → ys ≡ xs ++ get_or ys (length xs) 0 ∷ drop (suc (length xs)) ys
unfolding strict_prefix begins_with
strict-to xs ys e =
    let h = both (ltb (length xs) (length ys)) (begins_with ys xs) e in
    split_at ys (length xs) 0 (ltb-true (length xs) (length ys) h.0)
    ∙ ap (λ l. l ++ get_or ys (length xs) 0 ∷ drop (suc (length xs)) ys) (sym (same-to xs (take (length xs) ys) h.1))

pub strict_of : (xs : List ℕ) (y : ℕ) (r : List ℕ) → strict_prefix xs (xs ++ y ∷ r) ≡ true
unfolding strict_prefix
strict_of xs y r = and-of (ltb (length xs) (length (xs ++ y ∷ r))) (begins_with (xs ++ y ∷ r) xs)
    (lt-ltb (length xs) (length (xs ++ y ∷ r)) (omega (arith, length-append xs (y ∷ r)))) (begins-of xs (y ∷ r))

-- ---- the tests on lives

pub superseded-test : (a b : Incarnation) → (superseded_by a b ≡ true) ↔ Superseded a b
unfolding superseded_by
superseded-test a b = (λ e. to (or-to equal later e), λ s. or-of equal later (of s))
  where
    equal : Bool
    equal = same_list a.checkpoints b.checkpoints and ltb a.number b.number

    later : Bool
    later = strict_prefix a.checkpoints b.checkpoints and ltb a.number (get_or b.checkpoints (length a.checkpoints) 0)

    to : (equal ≡ true) ⊎ (later ≡ true) → Superseded a b
    to (inl e) =
        let h = both (same_list a.checkpoints b.checkpoints) (ltb a.number b.number) e in
        lower (same-to a.checkpoints b.checkpoints h.0) (ltb-true a.number b.number h.1)
    to (inr e) =
        let y = get_or b.checkpoints (length a.checkpoints) 0 in
        let h = both (strict_prefix a.checkpoints b.checkpoints) (ltb a.number y) e in
        passed y (drop (suc (length a.checkpoints)) b.checkpoints) (strict-to a.checkpoints b.checkpoints h.0) (ltb-true a.number y h.1)

    of : Superseded a b → (equal ≡ true) ⊎ (later ≡ true)
    of (lower e h) = inl (rw (e, same_refl b.checkpoints, lt-ltb a.number b.number h))
    of (passed y r e h) = inr (rw (e, strict_of a.checkpoints y r, get_or-append_seam a.checkpoints y r 0, lt-ltb a.number y h))

pub checkpointed-test : (a b : Incarnation) → (checkpointed_in a b ≡ true) ↔ Checkpointed a b
unfolding checkpointed_in
checkpointed-test a b = (to, of)
  where
    first : List ℕ
    first = a.checkpoints ++ (a.number ∷ [])

    to : begins_with b.checkpoints first ≡ true → Checkpointed a b
    to e =
        let r = drop (length first) b.checkpoints in
        begins r (begins-to first b.checkpoints e ∙ append_snoc a.checkpoints a.number r)

    of : Checkpointed a b → begins_with b.checkpoints first ≡ true
    of (begins r e) = rw (e, ← append_snoc a.checkpoints a.number r) (begins-of first r)

pub same_test : (a b : Incarnation) → (same_incarnation a b ≡ true) ↔ (a ≡ b)
unfolding same_incarnation
same_test a b = (to, of)
  where
    to : same_list a.checkpoints b.checkpoints and eqb a.number b.number ≡ true → a ≡ b
    to e =
        let h = both (same_list a.checkpoints b.checkpoints) (eqb a.number b.number) e in
        let p = same-to a.checkpoints b.checkpoints h.0 in
        let q = eqb-true a.number b.number h.1 in
        λ i. record { checkpoints = p i; number = q i }

    of : a ≡ b → same_list a.checkpoints b.checkpoints and eqb a.number b.number ≡ true
    of e = rw (e, same_refl b.checkpoints, eq-eqb b.number b.number refl)

pub dec_checkpointed : (a b : Incarnation) → Dec (Checkpointed a b)
dec_checkpointed a b = dec_test (checkpointed_in a b) (checkpointed-test a b)

-- a life is not both signed and present
pub present-unsigned : (a b : Incarnation) → same_incarnation a b ≡ true → checkpointed_in a b ≡ false
present-unsigned a b e = (not_test (checkpointed_in a b) (checkpointed-test a b)).1 (λ c. checkpointed-ne c ((same_test a b).0 e))
