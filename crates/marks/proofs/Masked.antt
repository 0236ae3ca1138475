-- The unused bytes of a packed history, by a mask of zeros and then ones.
use Prim.Native.Nat.{ℕ, ◌+◌, ◌-◌, ◌%◌, ◌≤◌, ◌<◌}
use mathlib.Core.Bool.{true}
use mathlib.Core.Path.{◌≡◌, sym, ap, ◌∙◌}
use mathlib.Core.List.{List, ◌++◌}
use mathlib.Core.Logic.{⊎_elim}
use native.Mathlib.Omega.{arith}
use lib.Bits.{bit_and, bit_or, and_mask, and_zero_r, or_zero_r}
use lib.Dec.{eqb}
use lib.ListN.{length, get_or, replicate, length-append, length-replicate, get_or-replicate, get_or-append, replicate-append-replicate}
use lib.Seq.{get_or-append-add}
use Rattle.octets.specs.Bytes.{put, part, zeros, all_zero}
use Rattle.octets.proofs.Put.{put_first}
use Rattle.octets.proofs.Chunks.{sides}
use Rattle.octets.proofs.Zero.{length-zeros, get_or-zeros, zero-none, zero_more}
use Rattle.marks.specs.Packed.{ramp_of}

module _ (n : ℕ) where
  pub ramp-made : (l : List ℕ) → l ≡ put 0 (zeros n) (replicate (n + n) 255) → l ≡ ramp_of n
  unfolding ramp_of
  ramp-made l e =
      e ∙ ap (put 0 (zeros n)) (sym (replicate-append-replicate n n 255))
      ∙ put_first (zeros n) (replicate n 255) (replicate n 255) (length-zeros n ∙ sym (length-replicate n 255))

  pub length-ramp : length (ramp_of n) ≡ n + n
  unfolding ramp_of
  length-ramp = rw (length-append, length-zeros, length-replicate)

  ramp-zero : (i : ℕ) → i < n → get_or (ramp_of n) i 0 ≡ 0
  unfolding ramp_of
  ramp-zero i h = get_or-append (zeros n) (replicate n 255) 0 i (omega (arith, length-zeros n)) ∙ get_or-zeros n i

  ramp-one : (i : ℕ) → i < n → get_or (ramp_of n) (n + i) 0 ≡ 255
  unfolding ramp_of
  ramp-one i h =
      ap (λ (k : ℕ). get_or (zeros n ++ replicate n 255) (k + i) 0) (sym (length-zeros n))
      ∙ get_or-append-add (zeros n) (replicate n 255) i 0
      ∙ get_or-replicate n i 255 0 h

whole : (x : ℕ) → x < 256 → bit_and x 255 ≡ x
whole x h = let e : x % 256 ≡ x = omega arith in and_mask x 8 ∙ e

pub masked-none : (u at : ℕ) (s : List ℕ) → true ≡ all_zero (part (at + u) (0 - u) s)
masked-none u at s = let e : 0 - u ≡ 0 = omega arith in rw e (zero-none (at + u) s)

-- one byte more, of which the first u of n are hidden
pub masked-more : (n u at i any : ℕ) (s r : List ℕ) → r ≡ ramp_of n → u ≤ n → i < n → at + n ≤ length s → get_or s (at + i) 0 < 256
    → eqb any 0 ≡ all_zero (part (at + u) (i - u) s)
    → eqb (bit_or any (bit_and (get_or s (at + i) 0) (get_or r (n - u + i) 0))) 0 ≡ all_zero (part (at + u) (i + 1 - u) s)
masked-more n u at i any s r m p q fits byte e = ⊎_elim
    (λ (h : i < u).
    let z : get_or r (n - u + i) 0 ≡ 0 = ap (λ (l : List ℕ). get_or l (n - u + i) 0) m ∙ ramp-zero n (n - u + i) (omega arith) in
    let f : i + 1 - u ≡ i - u = omega arith in
    rw (z, and_zero_r (get_or s (at + i) 0), or_zero_r any, f) e)
    (λ (h : u ≤ i).
    let j : n - u + i ≡ n + (i - u) = omega arith in
    let o : get_or r (n - u + i) 0 ≡ 255 = ap (λ (l : List ℕ). get_or l (n - u + i) 0) m ∙ ap (λ (k : ℕ). get_or (ramp_of n) k 0) j ∙ ramp-one n (i - u) (omega arith) in
    let f : i + 1 - u ≡ i - u + 1 = omega arith in
    let g : at + i ≡ at + u + (i - u) = omega arith in
    rw (o, whole (get_or s (at + i) 0) byte, f, g) (zero_more (at + u) (i - u) any s e (omega arith)))
    (sides i u)
