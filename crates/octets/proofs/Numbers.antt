-- Laws of numbers as bytes.
use Prim.Native.Nat.{ℕ, zero, suc, ◌+◌, ◌*◌, ◌/◌, ◌%◌, ◌<◌}
use mathlib.Core.Path.{◌≡◌, refl, sym, ◌∙◌}
use mathlib.Core.List.{List, [], ◌∷◌, ◌++◌}
use native.Mathlib.Nat.{add-zero, div-add-mod', mod-eq_of_lt}
use native.Mathlib.Numerals.{add-one}
use native.Mathlib.Omega.{arith}
use lib.ListN.{length, take, get_or, set, length-append, get_or-append}
use lib.Seq.{get_or_at, get_or-take, take-suc, take_all, length-take-le}
use Rattle.octets.specs.Bytes.{put, part, zeros, Octets}
use Rattle.octets.specs.Numbers.{be, of_be, bound}
use Rattle.octets.proofs.Put.{get_d_part, part-one, put_one, octet, octets-nil, octets-one, octets-append, octets-take}
use Rattle.octets.proofs.Zero.{get_or-zeros, zeros-suc}

pub bound-pos : (w : ℕ) → 0 < bound w
unfolding bound
bound-pos zero = omega arith
bound-pos (suc w) = let h : 0 < bound w = bound-pos w in omega arith

-- ---- be

pub length-be : (w n : ℕ) → length (be w n) ≡ w
unfolding be
length-be zero n = refl
length-be (suc w) n = rw (length-append, length-be w (n / 256)) (omega arith)

pub octets-be : (w n : ℕ) → Octets (be w n)
unfolding be
octets-be zero n = octets-nil
octets-be (suc w) n = octets-append (be w (n / 256)) (n % 256 ∷ []) (octets-be w (n / 256)) (octets-one (n % 256) (omega arith))

pub be-zero : (w : ℕ) → be w 0 ≡ zeros w
unfolding be zeros
be-zero zero = refl
be-zero (suc w) = rw (be-zero w, zeros-suc, add-one)

pub be-one : (x : ℕ) → x < 256 → be 1 x ≡ x ∷ []
unfolding be
be-one x h = rw (mod-eq_of_lt h)

pub put-be-one : (at x : ℕ) (l : List ℕ) → at < length l → x < 256 → put at (be 1 x) l ≡ set l at x
put-be-one at x l h b = rw (be-one x b) (put_one at x l h)

pub be-byte : (at : ℕ) (l : List ℕ) → at < length l → Octets l → be 1 (get_or l at 0) ≡ part at 1 l
be-byte at l h o = rw (be-one (get_or l at 0) (octet l o at), part-one at l h)

-- ---- of_be

pub of_be-same : (w : ℕ) (a b : List ℕ) → ((i : ℕ) → i < w → get_or a i 0 ≡ get_or b i 0) → of_be w a ≡ of_be w b
unfolding of_be
of_be-same zero a b h = refl
of_be-same (suc w) a b h = rw (of_be-same w a b (λ i p. h i (omega arith)), h w (omega arith))

pub of_be-zeros : (w n : ℕ) → of_be w (zeros n) ≡ 0
unfolding of_be
of_be-zeros zero n = refl
of_be-zeros (suc w) n = rw (of_be-zeros w n, get_or-zeros)

pub of_be-bound : (w : ℕ) (b : List ℕ) → Octets b → of_be w b < bound w
unfolding of_be bound Octets
of_be-bound zero b h = omega arith
of_be-bound (suc w) b h = let k : of_be w b < bound w = of_be-bound w b h in omega (arith, h w)

-- a load adds one byte after the other
pub of_be-first : (at n x : ℕ) (l : List ℕ) → 0 < n → x ≡ get_or l at 0 → x ≡ of_be 1 (part at n l)
unfolding of_be
of_be-first at n x l h e = let g : get_or (part at n l) 0 0 ≡ get_or l (at + 0) 0 = get_d_part at n l 0 h in e ∙ sym (rw (g, add-zero) (omega arith))

pub of_be-more : (at n w r x : ℕ) (l : List ℕ) → w < n → r ≡ of_be w (part at n l) → x ≡ get_or l (at + w) 0 → r * 256 + x ≡ of_be (w + 1) (part at n l)
unfolding of_be
of_be-more at n w r x l h e f = rw (add-one, e, f, get_d_part at n l w h)

pub two_bytes : (at : ℕ) (l : List ℕ) → of_be 2 (part at 2 l) ≡ get_or l at 0 * 256 + get_or l (at + 1) 0
two_bytes at l = sym (of_be-more at 2 1 (get_or l at 0) (get_or l (at + 1) 0) l (omega arith) (of_be-first at 2 (get_or l at 0) l (omega arith) refl) refl)

pub four_bytes : (at : ℕ) (l : List ℕ) → of_be 4 (part at 4 l) ≡ ((get_or l at 0 * 256 + get_or l (at + 1) 0) * 256 + get_or l (at + 2) 0) * 256 + get_or l (at + 3) 0
four_bytes at l =
    let one = of_be-first at 4 (get_or l at 0) l (omega arith) refl in
    let two = of_be-more at 4 1 _ (get_or l (at + 1) 0) l (omega arith) one refl in
    let three = of_be-more at 4 2 _ (get_or l (at + 2) 0) l (omega arith) two refl in
    sym (of_be-more at 4 3 _ (get_or l (at + 3) 0) l (omega arith) three refl)

-- two bytes, read with the first as the lower one and turned round
pub of_be-turned : (at x : ℕ) (l : List ℕ) → get_or l at 0 < 256 → x ≡ get_or l (at + 1) 0 * 256 + get_or l at 0 → x % 256 * 256 + x / 256 ≡ of_be 2 (part at 2 l)
of_be-turned at x l o e =
    let high : x % 256 ≡ get_or l at 0 = omega (arith, e, o) in
    let low : x / 256 ≡ get_or l (at + 1) 0 = omega (arith, e, o) in
    of_be-more at 2 1 (x % 256) (x / 256) l (omega arith) (of_be-first at 2 (x % 256) l (omega arith) high) low

-- ---- there and back

pub of_be-be : (w n : ℕ) → n < bound w → of_be w (be w n) ≡ n
unfolding be of_be bound
of_be-be zero n h = omega arith
of_be-be (suc w) n h =
    let front : of_be w (be w (n / 256) ++ (n % 256 ∷ [])) ≡ of_be w (be w (n / 256)) =
    of_be-same w (be w (n / 256) ++ (n % 256 ∷ [])) (be w (n / 256)) (λ (i : ℕ) (p : i < w). get_or-append (be w (n / 256)) (n % 256 ∷ []) 0 i (rw length-be p)) in
    let last : get_or (be w (n / 256) ++ (n % 256 ∷ [])) w 0 ≡ n % 256 = get_or_at (be w (n / 256)) (n % 256) [] 0 w (length-be w (n / 256)) in
    let back : of_be w (be w (n / 256)) ≡ n / 256 = of_be-be w (n / 256) (omega arith) in
    rw (front, last, back) (div-add-mod' n 256)

pub be-of_be : (w : ℕ) (b : List ℕ) → length b ≡ w → Octets b → be w (of_be w b) ≡ b
unfolding be of_be Octets
be-of_be zero [] e h = refl
be-of_be zero (x ∷ b) e h = absurd (omega arith)
be-of_be (suc w) b e h =
    let front : of_be w b ≡ of_be w (take w b) = of_be-same w b (take w b) (λ (i : ℕ) (p : i < w). sym (get_or-take {A = ℕ} w b i 0 p)) in
    let x : get_or b w 0 < 256 = h w in
    let high : (of_be w b * 256 + get_or b w 0) / 256 ≡ of_be w b = omega arith in
    let low : (of_be w b * 256 + get_or b w 0) % 256 ≡ get_or b w 0 = omega arith in
    let back : be w (of_be w (take w b)) ≡ take w b = be-of_be w (take w b) (length-take-le w b (omega arith)) (octets-take w b h) in
    rw (high, low, front, back, ← take-suc b w 0 (omega arith)) (take_all (suc w) b (omega arith))

-- in 2 and in 4 bytes, the highest first
pub be-two : (n : ℕ) → n / 256 % 256 ∷ n % 256 ∷ [] ≡ be 2 n
unfolding be
be-two n = refl

pub be-four : (n : ℕ) → n / 16777216 % 256 ∷ n / 65536 % 256 ∷ n / 256 % 256 ∷ n % 256 ∷ [] ≡ be 4 n
unfolding be
be-four n =
    let e : n / 16777216 ≡ n / 256 / 256 / 256 = omega arith in
    let f : n / 65536 ≡ n / 256 / 256 = omega arith in
    rw (e, f)
