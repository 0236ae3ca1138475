-- The row of a name is its place in the table.
use Rattle.std.proofs.Common.{◌≡◌, ℕ, ◌+◌, ◌<◌, ◌≤◌, Bool, true, false, not, Some, None, Option, List, [], ◌∷◌, length, map, refl, sym, ◌∙◌, ap, arith, MatchOption, bytes_eq, cond, get_or, nat_lt, take, eqb}
use Rattle.std.specs.List.{position, position_or_len}
use Rattle.std.proofs.lemmas.Bool.{ltb-true, ltb-false}
use Rattle.std.proofs.lemmas.Slice.Eq.{bytes_eq-Decides}
use Rattle.std.proofs.lemmas.Bool.Decides.{same_from_decides, Decides-like}
use Rattle.std.proofs.lemmas.List.{length-map}
use Rattle.std.proofs.lemmas.List.Sums.{prefix_len-le-length}
use native.Mathlib.Numerals.{add-one}
use lib.Seq.{take_all}
use Rattle.octets.specs.Bytes.{pick, every}
use Rattle.marks.specs.Incarnation.{same_list}
use Rattle.marks.proofs.Tests.{same_list-test, same_length, entries_same}
use Rattle.notation.specs.Notation.{names}
use Rattle.notation.specs.Reading.{row_from, row_named}

-- a name of the table is the word
pub same_name : (w n : List ℕ) → same_list w n ≡ bytes_eq n w
same_name w n = same_from_decides (same_list w n) (bytes_eq n w) (same_list-test w n) (Decides-like (bytes_eq n w) sym sym (bytes_eq-Decides n w))

-- a word that is as long as the name, each byte compared
pub name-each : (n w : List ℕ) (t : Bool) → length n ≡ length w → t ≡ every (length w) (λ i. eqb (get_or w i 0) (get_or n i 0)) → t ≡ same_list w n
name-each n w t h e =
    let a : take (length w) n ≡ n = take_all (length w) n (omega arith) in
    let b : take (length w) w ≡ w = take_all (length w) w (omega arith) in
    e ∙ entries_same w n (length w) (omega arith) (omega arith) ∙ rw (a, b)

pub name-other : (n w : List ℕ) → (length n ≡ length w → ⊥) → false ≡ same_list w n
name-other n w h = sym (same_length w n (λ e. h (sym e)))

-- a table of what points to names
module _ {X : Type 0} (now : X → List ℕ) where
  row-place : (w : List ℕ) (bs : List X) (k : ℕ) → row_from w (map now bs) k ≡ k + position_or_len (λ b. bytes_eq (now b) w) bs
  unfolding row_from
  row-place w [] k = omega arith
  row-place w (b ∷ bs) k = rw (same_name w (now b), ← add-one k) (go (bytes_eq (now b) w) (row-place w bs (k + 1)))
    where
      rest : ℕ
      rest = position_or_len (λ b. bytes_eq (now b) w) bs

      go : (t : Bool) → row_from w (map now bs) (k + 1) ≡ (k + 1) + position_or_len (λ b. bytes_eq (now b) w) bs
          → pick t k (row_from w (map now bs) (k + 1)) ≡ k + cond (not t) (1 + position_or_len (λ b. bytes_eq (now b) w) bs) 0
      go true e = omega arith
      go false e = omega arith

  pub row-found : (w : List ℕ) (bs : List X) (r : Option ℕ) → r ≡ position (λ b. bytes_eq (now b) w) bs → map now bs ≡ names → MatchOption r (row_named w ≡ 14) (λ k. (k < 14) × (row_named w ≡ k))
  row-found w bs r e f =
      let p : ℕ = position_or_len (λ b. bytes_eq (now b) w) bs in
      let n : length bs ≡ 14 = sym (length-map bs now) ∙ ap length f in
      let m : row_named w ≡ p = ap (λ l. row_from w l 0) (sym f) ∙ row-place w bs 0 ∙ omega arith in
      go p (nat_lt p (length bs)) refl e n m (prefix_len-le-length (λ b. not (bytes_eq (now b) w)) bs)
    where
      go : (p : ℕ) (t : Bool) → nat_lt p (length bs) ≡ t → r ≡ cond t (Some p) None → length bs ≡ 14 → row_named w ≡ p → p ≤ length bs → MatchOption r (row_named w ≡ 14) (λ k. (k < 14) × (row_named w ≡ k))
      go p true h e n m l = let k = ltb-true p (length bs) h in rw e (omega arith, m)
      go p false h e n m l = let k = ltb-false p (length bs) h in rw e (omega arith)
