-- Laws of put and part, and of lists of bytes.
use Prim.Native.Nat.{ℕ, zero, suc, ◌+◌, ◌-◌, ◌≤◌, ◌<◌}
use mathlib.Core.Path.{◌≡◌, refl, sym, ap, ◌∙◌, subst}
use mathlib.Core.List.{List, [], ◌∷◌, ◌++◌, append_assoc, append-nil}
use native.Mathlib.Numerals.{add-one}
use native.Mathlib.Nat.{add_assoc, add-zero, zero-add, suc-add}
use native.Mathlib.Omega.{arith}
use mir.Syntax.{w8}
use mir.Val.{Fits}
use lib.ListN.{length, take, drop, get_or, length-append, length-drop, take-append-drop, set, drop_of_length-le}
use lib.Seq.{take_at, drop_at, take-append-le, drop-append-le, take-append-add, drop-append-add, length-take-le, drop-drop, take-take, take-add, take_all, drop-cons, take-suc, set_split, append_snoc, take-nil, get_or-take, get_or-drop}
use Rattle.octets.specs.Bytes.{put, part, Octets}

pub put-def : (at : ℕ) (bs l : List ℕ) → put at bs l ≡ take at l ++ bs ++ drop (at + length bs) l
unfolding put
put-def at bs l = refl

pub part-def : (at n : ℕ) (l : List ℕ) → part at n l ≡ take n (drop at l)
unfolding part
part-def at n l = refl

pub length_part : (at n : ℕ) (l : List ℕ) → at + n ≤ length l → length (part at n l) ≡ n
length_part at n l h = rw part-def (length-take-le n (drop at l) (rw length-drop (omega arith)))

pub part-front : (i n : ℕ) (l : List ℕ) → i + n ≤ length l → part i n l ≡ drop i (take (i + n) l)
part-front i n l h =
    let e : length (take i l) ≡ i = length-take-le i l (omega arith) in
    rw (part-def, take-add, drop_at (take i l) (take n (drop i l)) i e)

module _ (at : ℕ) (bs l : List ℕ) (fits : at + length bs ≤ length l) where
  head-length : length (take at l) ≡ at
  head-length = length-take-le at l (omega arith)

  front_length : length (take at l ++ bs) ≡ at + length bs
  front_length = simp (length-append, head-length)

  pub length-put : length (put at bs l) ≡ length l
  length-put = rw put-def (simp (length-append, head-length, length-drop) (omega arith))

  -- what stands before, at and after
  pub take_put : take at (put at bs l) ≡ take at l
  take_put = rw (put-def, append_assoc, take_at (take at l) (bs ++ drop (at + length bs) l) at head-length)

  pub front-put : take (at + length bs) (put at bs l) ≡ take at l ++ bs
  front-put = rw (put-def, take_at (take at l ++ bs) (drop (at + length bs) l) (at + length bs) front_length)

  pub drop-put : drop (at + length bs) (put at bs l) ≡ drop (at + length bs) l
  drop-put = rw (put-def, drop_at (take at l ++ bs) (drop (at + length bs) l) (at + length bs) front_length)

  pub drop-put-add : (k : ℕ) → drop (at + length bs + k) (put at bs l) ≡ drop (at + length bs + k) l
  drop-put-add k = sym (drop-drop k (at + length bs) (put at bs l)) ∙ ap (drop k) drop-put ∙ drop-drop k (at + length bs) l

  pub part-put : part at (length bs) (put at bs l) ≡ bs
  part-put = rw (part-def, put-def, append_assoc, drop_at (take at l) (bs ++ drop (at + length bs) l) at head-length, take_at bs (drop (at + length bs) l) (length bs) refl)

  -- a part that lies before, or after
  pub part-put-before : (i n : ℕ) → i + n ≤ at → part i n (put at bs l) ≡ part i n l
  part-put-before i n h =
      let f : i + n ≤ length l = omega arith in
      let f' : i + n ≤ length (put at bs l) = omega (arith, length-put) in
      rw (part-front i n (put at bs l) f', part-front i n l f, ← take-take (i + n) at (put at bs l) h, take_put, take-take (i + n) at l h)

  pub part-put-after : (i n : ℕ) → at + length bs ≤ i → part i n (put at bs l) ≡ part i n l
  part-put-after i n h =
      let e : at + length bs + (i - (at + length bs)) ≡ i = omega arith in
      rw (part-def, part-def, ← e, drop-put-add)

-- in the left or the right of two lists
pub put-left : (at : ℕ) (bs p q : List ℕ) → at + length bs ≤ length p → put at bs (p ++ q) ≡ put at bs p ++ q
put-left at bs p q h =
    let h' : at ≤ length p = omega arith in
    rw (put-def, put-def, take-append-le at p q h', drop-append-le (at + length bs) p q h) (simp append_assoc)

pub put_right : (at : ℕ) (bs p q : List ℕ) → put (length p + at) bs (p ++ q) ≡ p ++ put at bs q
put_right at bs p q = rw (put-def, put-def, take-append-add, add_assoc, drop-append-add) (simp append_assoc)

pub part_left : (at n : ℕ) (p q : List ℕ) → at + n ≤ length p → part at n (p ++ q) ≡ part at n p
part_left at n p q h =
    let h' : at ≤ length p = omega arith in
    let k : n ≤ length (drop at p) = rw length-drop (omega arith) in
    rw (part-def at n (p ++ q), part-def at n p, drop-append-le at p q h', take-append-le n (drop at p) q k)

pub part_right : (at n : ℕ) (p q : List ℕ) → part (length p + at) n (p ++ q) ≡ part at n q
part_right at n p q = rw (part-def (length p + at) n (p ++ q), part-def at n q, drop-append-add)

-- two puts, one after the other
pub put-put : (at : ℕ) (bs cs l : List ℕ) → at + length bs ≤ length l → length cs ≡ length bs → put at cs (put at bs l) ≡ put at cs l
put-put at bs cs l h e = rw (put-def at cs (put at bs l), put-def at cs l, e, take_put at bs l h, drop-put at bs l h)

pub put-append : (at : ℕ) (bs cs l : List ℕ) → at + length bs + length cs ≤ length l → put (at + length bs) cs (put at bs l) ≡ put at (bs ++ cs) l
put-append at bs cs l h =
    let h' : at + length bs ≤ length l = omega arith in
    rw (put-def (at + length bs) cs (put at bs l), put-def at (bs ++ cs) l, front-put at bs l h', drop-put-add at bs l h', length-append) (simp (append_assoc, add_assoc))

-- the same, by the length of the first piece
pub put_then : (at n : ℕ) (bs cs l : List ℕ) → length bs ≡ n → at + n + length cs ≤ length l → put (at + n) cs (put at bs l) ≡ put at (bs ++ cs) l
put_then at n bs cs l e h = ap (λ (k : ℕ). put (at + k) cs (put at bs l)) (sym e) ∙ put-append at bs cs l (omega (arith, e))

-- what stands there is put
pub put-part : (at n : ℕ) (l : List ℕ) → at + n ≤ length l → l ≡ put at (part at n l) l
put-part at n l h = sym (rw (put-def, length_part at n l h, part-def, ← take-add at n l, take-append-drop))

-- c behind the n bytes of b
pub put-behind : (at n : ℕ) (b c l l' : List ℕ) → length b ≡ n → at + n + length c ≤ length l → l' ≡ put at b l → put (at + n) c l' ≡ put at (b ++ c) l
put-behind at n b c l l' e h f = ap (put (at + n) c) f ∙ ap (λ (k : ℕ). put (at + k) c (put at b l)) (sym e) ∙ put-append at b c l (omega arith)

-- all of d is replaced
pub put_whole : (s d : List ℕ) → length s ≡ length d → put 0 s d ≡ s
unfolding put
put_whole s d e =
    let f : drop (0 + length s) d ≡ [] = drop_of_length-le d {i = 0 + length s} (omega arith) in
    rw f (append-nil s)

-- the first, the last or the middle of some lists is replaced
pub put_first : (bs p q : List ℕ) → length bs ≡ length p → put 0 bs (p ++ q) ≡ bs ++ q
put_first bs p q e =
    let h : 0 + length bs ≤ length p = omega arith in
    rw (put-left 0 bs p q h, put_whole bs p e)

pub put_last : (at : ℕ) (bs p q : List ℕ) → length p ≡ at → length bs ≡ length q → put at bs (p ++ q) ≡ p ++ bs
put_last at bs p q e f =
    let g : at ≡ length p + 0 = omega arith in
    rw (g, put_right 0 bs p q, put_whole bs q f)

pub put-mid : (at : ℕ) (bs p q r : List ℕ) → length p ≡ at → length bs ≡ length q → put at bs (p ++ q ++ r) ≡ p ++ bs ++ r
put-mid at bs p q r e f =
    let k : at + length bs ≤ length (p ++ q) = rw length-append (omega arith) in
    rw (put-left at bs (p ++ q) r k, put_last at bs p q e f)

-- ---- parts of parts, and elements of parts

drop-take : (i k : ℕ) (l : List ℕ) → drop i (take (i + k) l) ≡ take k (drop i l)
drop-take zero k l = rw zero-add refl
drop-take (suc i) k [] = rw (suc-add, take-nil)
drop-take (suc i) k (x ∷ xs) = rw suc-add (drop-take i k xs)

pub part-part : (i n at m : ℕ) (l : List ℕ) → i + n ≤ m → part i n (part at m l) ≡ part (at + i) n l
part-part i n at m l h =
    let e : i + (m - i) ≡ m = omega arith in
    rw (part-def i n (part at m l), part-def at m l, part-def (at + i) n l, ← e, drop-take i (m - i) (drop at l), drop-drop i at l)
    (take-take n (m - i) (drop (at + i) l) (omega arith))

pub get_d_part : (at n : ℕ) (l : List ℕ) (i : ℕ) → i < n → get_or (part at n l) i 0 ≡ get_or l (at + i) 0
get_d_part at n l i h = rw (part-def, get_or-take n (drop at l) i 0 h, get_or-drop)

-- within a part
pub put-inside : (at k n : ℕ) (bs l : List ℕ) → at + n ≤ length l → k + length bs ≤ n → put (at + k) bs l ≡ put at (put k bs (part at n l)) l
put-inside at k n bs l fits h =
    let p : List ℕ = take at l in
    let q : List ℕ = part at n l in
    let r : List ℕ = drop (at + n) l in
    let long : length q ≡ n = length_part at n l fits in
    let same : length (put k bs q) ≡ n = length-put k bs q (omega arith) ∙ long in
    let front : length p ≡ at = length-take-le at l (omega arith) in
    let split : l ≡ p ++ (q ++ r) =
    put-part at n l fits ∙ put-def at q l ∙ ap (λ (j : ℕ). take at l ++ q ++ drop (at + j) l) long ∙ append_assoc p q r in
    let whole : put at (put k bs q) l ≡ p ++ (put k bs q ++ r) =
    put-def at (put k bs q) l ∙ ap (λ (j : ℕ). take at l ++ put k bs q ++ drop (at + j) l) same ∙ append_assoc p (put k bs q) r in
    ap (put (at + k) bs) split
    ∙ ap (λ (j : ℕ). put (j + k) bs (p ++ (q ++ r))) (sym front)
    ∙ put_right k bs p (q ++ r)
    ∙ ap (λ (x : List ℕ). p ++ x) (put-left k bs q r (omega arith))
    ∙ sym whole

pub part-add : (at n m : ℕ) (l : List ℕ) → part at (n + m) l ≡ part at n l ++ part (at + n) m l
part-add at n m l = rw (part-def at (n + m) l, part-def at n l, part-def (at + n) m l, take-add n m (drop at l), drop-drop n at l)

pub part-whole : (n : ℕ) (l : List ℕ) → length l ≡ n → part 0 n l ≡ l
part-whole n l e = rw part-def (take_all n l (omega arith))

pub part-one : (at : ℕ) (l : List ℕ) → at < length l → part at 1 l ≡ get_or l at 0 ∷ []
part-one at l h = rw (part-def, drop-cons l at 0 h)

pub part-suc : (at i : ℕ) (l : List ℕ) → at + i < length l → part at (i + 1) l ≡ part at i l ++ (get_or l (at + i) 0 ∷ [])
part-suc at i l h =
    let k : i < length (drop at l) = rw length-drop (omega arith) in
    rw (part-def at (i + 1) l, part-def at i l, add-one, take-suc (drop at l) i 0 k, get_or-drop)

-- ---- single bytes

pub get_or-put-after : (at : ℕ) (bs l : List ℕ) (k : ℕ) → at + length bs ≤ length l → at + length bs ≤ k → get_or (put at bs l) k 0 ≡ get_or l k 0
get_or-put-after at bs l k f h =
    let e : at + length bs + (k - (at + length bs)) ≡ k = omega arith in
    subst (λ (x : ℕ). get_or (put at bs l) x 0 ≡ get_or l x 0) e
    (sym (get_or-drop (at + length bs) (put at bs l) (k - (at + length bs)) 0)
    ∙ ap (λ (x : List ℕ). get_or x (k - (at + length bs)) 0) (drop-put at bs l f)
    ∙ get_or-drop (at + length bs) l (k - (at + length bs)) 0)

pub get_or-put-before : (at : ℕ) (bs l : List ℕ) (k : ℕ) → at + length bs ≤ length l → k < at → get_or (put at bs l) k 0 ≡ get_or l k 0
get_or-put-before at bs l k fits h =
    let z : k + 0 ≡ k = add-zero k in
    rw z at (sym (get_d_part k 1 (put at bs l) 0 (omega arith)) ∙ ap (λ (x : List ℕ). get_or x 0 0) (part-put-before at bs l fits k 1 (omega arith)) ∙ get_d_part k 1 l 0 (omega arith))

pub put-nil : (at : ℕ) (l : List ℕ) → l ≡ put at [] l
put-nil at l = rw (put-def, add-zero, append-nil, take-append-drop)

pub put_one : (at x : ℕ) (l : List ℕ) → at < length l → put at (x ∷ []) l ≡ set l at x
put_one at x l h = sym (set_split l at x h ∙ rw (put-def, add-one, append_snoc))

-- one byte more behind those that a loop has put
pub put-snoc : (at n v : ℕ) (bs l l' : List ℕ) → l' ≡ put at bs l → length bs ≡ n → at + n < length l → set l' (at + n) v ≡ put at (bs ++ (v ∷ [])) l
put-snoc at n v bs l l' e m h =
    let k : at + length bs + length (v ∷ []) ≤ length l = omega arith in
    let f : at + length bs ≤ length l = omega arith in
    rw (e, ← put_one (at + n) v (put at bs l) (omega (arith, length-put at bs l f)), ← m, put-append at bs (v ∷ []) l k)

-- ---- Octets

pub octet : (l : List ℕ) → Octets l → (i : ℕ) → get_or l i 0 < 256
unfolding Octets
octet l h i = h i

-- what a slice of bytes is known to hold
pub octets-of : (l : List ℕ) → ((i : ℕ) → Fits w8 (get_or l i 0)) → Octets l
unfolding Octets
octets-of l h i = (h i).fits

pub octets-nil : Octets []
unfolding Octets
octets-nil i = omega arith

pub octets-one : (x : ℕ) → x < 256 → Octets (x ∷ [])
unfolding Octets
octets-one x h zero = h
octets-one x h (suc i) = omega arith

pub octets-append : (p q : List ℕ) → Octets p → Octets q → Octets (p ++ q)
unfolding Octets
octets-append [] q a b i = b i
octets-append (x ∷ p) q a b zero = a 0
octets-append (x ∷ p) q a b (suc i) = octets-append p q (λ j. a (suc j)) b i

pub octets-take : (n : ℕ) (l : List ℕ) → Octets l → Octets (take n l)
unfolding Octets
octets-take zero l h i = omega arith
octets-take (suc n) [] h i = omega arith
octets-take (suc n) (x ∷ l) h zero = h 0
octets-take (suc n) (x ∷ l) h (suc i) = octets-take n l (λ j. h (suc j)) i

pub octets-drop : (n : ℕ) (l : List ℕ) → Octets l → Octets (drop n l)
unfolding Octets
octets-drop n l h i = rw get_or-drop (h (n + i))

pub octets-part : (at n : ℕ) (l : List ℕ) → Octets l → Octets (part at n l)
octets-part at n l h = rw part-def (octets-take n (drop at l) (octets-drop at l h))
