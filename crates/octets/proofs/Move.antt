-- What a copy, a fill and a move within a buffer leave, as put.
use Prim.Native.Nat.{ℕ, zero, suc, ◌+◌, ◌≤◌, ◌<◌}
use mathlib.Core.Path.{◌≡◌, refl, ap, ◌∙◌}
use mathlib.Core.List.{List, ◌∷◌, ◌++◌, append_assoc}
use native.Mathlib.Omega.{arith}
use borrow.Rule.Slice.PartMut.{put_mid}
use lib.ListN.{length, get_or, set, drop, replicate}
use lib.Seq.{paste, drop-drop}
use Rattle.octets.specs.Bytes.{put, part, zeros}
use Rattle.octets.proofs.Put.{put-def, part-def, part-suc, length_part, get_or-put-after, put-nil, put-snoc, put-append}
use Rattle.octets.proofs.Zero.{length-zeros}

-- bs in the place of the k bytes from at on
pub placed : (at k : ℕ) (bs l : List ℕ) → length bs ≡ k → put_mid at k l bs ≡ put at bs l
placed at k bs l e = rw (put-def, append_assoc, e, drop-drop)

-- the k bytes from from on, copied to to on
pub moved : (to from k m : ℕ) (l : List ℕ) → m ≡ k → from + k ≤ length l → paste l to (drop from l) m ≡ put to (part from k l) l
moved to from k m l e h = rw (e, put-def, length_part from k l h, part-def)

-- the loop that lowers: nothing is put at first
pub lower-none : (at from : ℕ) (l : List ℕ) → l ≡ put at (part from 0 l) l
lower-none at from l = rw part-def (put-nil at l)

-- a turn puts one byte more, which is not yet written when it is read
pub lower-more : (at gap i : ℕ) (l l' : List ℕ) → l' ≡ put at (part (at + gap) i l) l → at + gap + i < length l
    → set l' (at + i) (get_or l' (at + gap + i) 0) ≡ put at (part (at + gap) (i + 1) l) l
lower-more at gap i l l' e h =
    let n : length (part (at + gap) i l) ≡ i = length_part (at + gap) i l (omega arith) in
    let r : get_or l' (at + gap + i) 0 ≡ get_or l (at + gap + i) 0
    = ap (λ (x : List ℕ). get_or x (at + gap + i) 0) e ∙ get_or-put-after at (part (at + gap) i l) l (at + gap + i) (omega arith) (omega arith) in
    rw (r, part-suc (at + gap) i l h, put-snoc at i (get_or l (at + gap + i) 0) (part (at + gap) i l) l l' e n (omega arith))

pub lower-all : (at gap i n : ℕ) (l l' : List ℕ) → l' ≡ put at (part (at + gap) i l) l → i ≡ n → l' ≡ put at (part (at + gap) n l) l
lower-all at gap i n l l' e h = e ∙ rw h

-- n zeros in the place of the k bytes from at on
pub zeros-replicate : (n : ℕ) → replicate n 0 ≡ zeros n
unfolding zeros
zeros-replicate zero = refl
zeros-replicate (suc n) = ap (λ (l : List ℕ). 0 ∷ l) (zeros-replicate n)

pub cleared : (at k n m : ℕ) (bs l : List ℕ) → bs ≡ replicate m 0 → m ≡ n → k ≡ n → put_mid at k l bs ≡ put at (zeros n) l
cleared at k n m bs l e f g = rw (e, f, g, zeros-replicate n) (placed at n (zeros n) l (length-zeros n))

pub removed : (at gap n : ℕ) (l l' l'' : List ℕ) → at + gap + n ≤ length l → l' ≡ put at (part (at + gap) n l) l → l'' ≡ put (at + n) (zeros gap) l'
    → l'' ≡ put at (part (at + gap) n l ++ zeros gap) l
removed at gap n l l' l'' h e f =
    let k : length (part (at + gap) n l) ≡ n = length_part (at + gap) n l (omega arith) in
    let p : at + n ≡ at + length (part (at + gap) n l) = omega arith in
    f ∙ rw (e, p, put-append at (part (at + gap) n l) (zeros gap) l (omega (arith, length-zeros gap)))
