-- Two runs of bytes that are alike, byte by byte or as numbers.
use Prim.Native.Nat.{ℕ, ◌+◌, ◌-◌, ◌*◌, ◌≤◌, ◌<◌}
use mathlib.Core.Bool.{Bool, true, false}
use mathlib.Core.Path.{◌≡◌, sym, ap, ◌∙◌}
use mathlib.Core.List.{List, [], ◌∷◌}
use native.Mathlib.Omega.{arith}
use native.Mathlib.Nat.{add-zero}
use lib.Dec.{eqb}
use lib.ListN.{length, get_or}
use borrow.Author.Tests.{eqb-true, eq-eqb}
use Rattle.std.specs.Int.{w64, from_le_bytes, to_le_bytes}
use Rattle.std.proofs.lemmas.Grind.{same_number_lists}
use Rattle.std.proofs.lemmas.Nat.{le_bytes_8}
use Rattle.octets.specs.Bytes.{◌and◌, part, every, alike, Octets}
use Rattle.octets.proofs.Put.{octet, octets-part, length_part, get_d_part}
use Rattle.octets.proofs.Zero.{every-all, every-at, every-same}
use Rattle.octets.proofs.Runs.{every-add}
use Rattle.octets.proofs.Tests.{same_test}

module _ (l : List ℕ) (a b : ℕ) where
  pub alike_at : (n i : ℕ) → alike l a b n ≡ true → i < n → get_or l (a + i) 0 ≡ get_or l (b + i) 0
  unfolding alike
  alike_at n i e h = eqb-true (get_or l (a + i) 0) (get_or l (b + i) 0) (every-at (λ (k : ℕ). eqb (get_or l (a + k) 0) (get_or l (b + k) 0)) n i e h)

  pub alike_all : (n : ℕ) → ((i : ℕ) → i < n → get_or l (a + i) 0 ≡ get_or l (b + i) 0) → alike l a b n ≡ true
  unfolding alike
  alike_all n f = every-all (λ (k : ℕ). eqb (get_or l (a + k) 0) (get_or l (b + k) 0)) n (λ i h. eq-eqb (get_or l (a + i) 0) (get_or l (b + i) 0) (f i h))

-- the same by the places of the bytes
module _ (l : List ℕ) (a b n : ℕ) where
  pub alike-there : alike l a b n ≡ true → (u v : ℕ) → a ≤ u → u < a + n → u + b ≡ v + a → get_or l u 0 ≡ get_or l v 0
  alike-there e u v h k m =
      let p : u ≡ a + (u - a) = omega arith in
      let q : b + (u - a) ≡ v = omega arith in
      ap (λ (i : ℕ). get_or l i 0) p ∙ alike_at l a b n (u - a) e (omega arith) ∙ ap (λ (i : ℕ). get_or l i 0) q

  pub alike-made : ((u v : ℕ) → a ≤ u → u < a + n → u + b ≡ v + a → get_or l u 0 ≡ get_or l v 0) → alike l a b n ≡ true
  alike-made f = alike_all l a b n (λ i h. f (a + i) (b + i) (omega arith) (omega arith) (omega arith))

-- one run after the other
pub alike-add : (l : List ℕ) (a b n m : ℕ) → alike l a b (n + m) ≡ alike l a b n and alike l (a + n) (b + n) m
unfolding alike
alike-add l a b n m = every-add n m f ∙ ap (λ (t : Bool). every n f and t) (every-same (λ (i : ℕ). f (n + i)) (λ (i : ℕ). eqb (get_or l (a + n + i) 0) (get_or l (b + n + i) 0)) m moved)
  where
    f : ℕ → Bool
    f i = eqb (get_or l (a + i) 0) (get_or l (b + i) 0)

    moved : (i : ℕ) → i < m → f (n + i) ≡ eqb (get_or l (a + n + i) 0) (get_or l (b + n + i) 0)
    moved i h =
        let p : a + (n + i) ≡ a + n + i = omega arith in
        let q : b + (n + i) ≡ b + n + i = omega arith in
        ap (λ (k : ℕ). eqb (get_or l k 0) (get_or l (b + (n + i)) 0)) p ∙ ap (λ (k : ℕ). eqb (get_or l (a + n + i) 0) (get_or l k 0)) q

-- ---- as numbers

pub digit : (x y p q : ℕ) → p < 256 → q < 256 → x * 256 + p ≡ y * 256 + q → (x ≡ y) × (p ≡ q)
digit x y p q h k e = (omega arith, omega arith)

-- the 8 bytes from place at on
pub word-is : (at n : ℕ) (l : List ℕ)
    → n
    ≡ from_le_bytes w64 (
    get_or l at 0 ∷ get_or l (at + 1) 0 ∷ get_or l (at + 2) 0 ∷ get_or l (at + 3) 0 ∷ get_or l (at + 4) 0 ∷ get_or l (at + 5) 0 ∷ get_or l (at + 6) 0 ∷ get_or l (at + 7) 0 ∷ []
    )
    → n ≡ from_le_bytes w64 (part at 8 l)
word-is at n l e =
    let g : (i : ℕ) → i < 8 → get_or (part at 8 l) i 0 ≡ get_or l (at + i) 0 = get_d_part at 8 l in
    e
    ∙ rw (
      g 0 (omega arith),
      g 1 (omega arith),
      g 2 (omega arith),
      g 3 (omega arith),
      g 4 (omega arith),
      g 5 (omega arith),
      g 6 (omega arith),
      g 7 (omega arith),
      add-zero at,
    )

module _ (l : List ℕ) (octets : Octets l) where
  word-bytes : (at n : ℕ) → at + 8 ≤ length l → n ≡ from_le_bytes w64 (part at 8 l) → to_le_bytes w64 n ≡ part at 8 l
  word-bytes at n h e = le_bytes_8 (part at 8 l) n (length_part at 8 l h) (octet (part at 8 l) (octets-part at 8 l octets)) e

  pub same-8 : (a b x y : ℕ) → a + 8 ≤ length l → b + 8 ≤ length l → x ≡ from_le_bytes w64 (part a 8 l) → y ≡ from_le_bytes w64 (part b 8 l) → eqb x y ≡ alike l a b 8
  same-8 a b x y p q e f = same_test (eqb x y) (alike l a b 8) to of
    where
      to : eqb x y ≡ true → alike l a b 8 ≡ true
      to t =
          let same : part a 8 l ≡ part b 8 l = sym (word-bytes a x p e) ∙ ap (to_le_bytes w64) (eqb-true x y t) ∙ word-bytes b y q f in
          alike_all l a b 8 (λ i h. sym (get_d_part a 8 l i h) ∙ ap (λ (z : List ℕ). get_or z i 0) same ∙ get_d_part b 8 l i h)

      of : alike l a b 8 ≡ true → eqb x y ≡ true
      of t =
          let long : length (part a 8 l) ≡ 8 = length_part a 8 l p in
          let same : part a 8 l ≡ part b 8 l = same_number_lists _ _ (long ∙ sym (length_part b 8 l q))
          (λ i h. let k : i < 8 = omega arith in get_d_part a 8 l i k ∙ alike_at l a b 8 i t k ∙ sym (get_d_part b 8 l i k)) in
          eq-eqb x y (e ∙ ap (from_le_bytes w64) same ∙ sym f)

-- the second 8 of 16 bytes, after the first
module _ (l : List ℕ) (a b : ℕ) where
  pub alike-first : alike l a b 8 ≡ false → false ≡ alike l a b 16
  alike-first q = sym (alike-add l a b 8 8 ∙ rw q)

  pub alike-second : alike l a b 8 ≡ true → alike l (a + 8) (b + 8) 8 ≡ alike l a b 16
  alike-second q = sym (alike-add l a b 8 8 ∙ rw q)
