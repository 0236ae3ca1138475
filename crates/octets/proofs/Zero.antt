-- Laws of zeros, and of what holds everywhere or somewhere.
use Prim.Native.Nat.{ℕ, zero, suc, ◌+◌, ◌-◌, ◌*◌, ◌≤◌, ◌<◌}
use mathlib.Core.Bool.{Bool, true, false, not}
use mathlib.Core.Path.{◌≡◌, refl, sym, ap, ◌∙◌, subst}
use mathlib.Core.List.{List, [], ◌∷◌, ◌++◌}
use native.Mathlib.Nat.{zero-add, suc-add, mul-zero, mul-suc}
use native.Mathlib.Numerals.{add-one}
use native.Mathlib.Omega.{arith}
use lib.Bits.{bit_or, or_add_and, and_le_l, and_le_r}
use lib.Dec.{eqb}
use lib.ListN.{length, get_or, take, drop, length-take, length-drop}
use mathlib.Core.Logic.{⊎_elim}
use Rattle.octets.proofs.Chunks.{cases}
use lib.Seq.{take_at, drop_at, drop-drop, get_or-take, get_or-drop}
use borrow.Author.Tests.{eq-eqb, ne_eqb, eqb-true, eqb-false, not-true, not-false}
use Rattle.octets.specs.Bytes.{pick, ◌and◌, ◌or◌, part, zeros, all_zero, every, any, chunks, tabulate, Octets}
use Rattle.octets.proofs.Tests.{and-true, never, or-to, or-none, or_assoc}
use Rattle.octets.proofs.Put.{part-def, part-suc, length_part}

pub both : (t u : Bool) → t and u ≡ true → (t ≡ true) × (u ≡ true)
both true u e = (refl, e)
both false u e = let b : ◌≡◌ {A = Bool} false true = e in let z : ◌≡◌ {A = ℕ} 0 1 = cc in absurd (omega arith)

pub length-zeros : (n : ℕ) → length (zeros n) ≡ n
unfolding zeros
length-zeros zero = refl
length-zeros (suc n) = ap suc (length-zeros n)

pub zeros-append : (a b : ℕ) → zeros a ++ zeros b ≡ zeros (a + b)
unfolding zeros
zeros-append zero b = rw zero-add
zeros-append (suc a) b = rw (suc-add, zeros-append a b)

pub zeros-suc : (n : ℕ) → zeros n ++ (0 ∷ []) ≡ zeros (n + 1)
unfolding zeros
zeros-suc n = zeros-append n 1

pub get_or-zeros : (n i : ℕ) → get_or (zeros n) i 0 ≡ 0
unfolding zeros
get_or-zeros zero i = refl
get_or-zeros (suc n) zero = refl
get_or-zeros (suc n) (suc i) = get_or-zeros n i

pub part-zeros : (at n m : ℕ) → at + n ≤ m → part at n (zeros m) ≡ zeros n
part-zeros at n m h =
    let e : at + (n + (m - at - n)) ≡ m = omega arith in
    rw (
      part-def,
      ← e,
      ← zeros-append at (n + (m - at - n)),
      ← zeros-append n (m - at - n),
      drop_at (zeros at) (zeros n ++ zeros (m - at - n)) at (length-zeros at),
      take_at (zeros n) (zeros (m - at - n)) n (length-zeros n),
    )

pub octets-zeros : (n : ℕ) → Octets (zeros n)
unfolding Octets
octets-zeros n i = rw get_or-zeros (omega arith)

pub chunks-zeros : (w n : ℕ) → chunks n (λ i. zeros w) ≡ zeros (w * n)
unfolding chunks zeros
chunks-zeros w zero = rw mul-zero
chunks-zeros w (suc n) = rw (chunks-zeros w n, mul-suc, zeros-append)

pub tabulate-zeros : (n : ℕ) → tabulate n (λ i. 0) ≡ zeros n
unfolding tabulate zeros
tabulate-zeros zero = refl
tabulate-zeros (suc n) = rw (tabulate-zeros n, zeros-suc, add-one)

-- ---- the test for zero

pub all_zero-zeros : (n : ℕ) → all_zero (zeros n) ≡ true
unfolding all_zero zeros
all_zero-zeros zero = refl
all_zero-zeros (suc n) = rw (eq-eqb 0 0 refl, all_zero-zeros n)

pub all_zero-append : (p q : List ℕ) → all_zero (p ++ q) ≡ all_zero p and all_zero q
unfolding all_zero
all_zero-append [] q = refl
all_zero-append (x ∷ p) q = go (eqb x 0) (all_zero-append p q)
  where
    go : (t : Bool) → all_zero (p ++ q) ≡ all_zero p and all_zero q → t and all_zero (p ++ q) ≡ (t and all_zero p) and all_zero q
    go true e = e
    go false e = refl

pub all_zero-snoc : (l : List ℕ) (x : ℕ) → all_zero (l ++ (x ∷ [])) ≡ all_zero l and eqb x 0
unfolding all_zero
all_zero-snoc l x = all_zero-append l (x ∷ []) ∙ ap (λ (t : Bool). all_zero l and t) (and-true (eqb x 0))

-- an or is zero exactly if both are
pub or-zero : (a b : ℕ) → eqb (bit_or a b) 0 ≡ eqb a 0 and eqb b 0
or-zero a b = go (eqb a 0) refl (eqb b 0) refl
  where
    off : (bit_or a b ≡ 0 → ⊥) → eqb (bit_or a b) 0 ≡ false
    off = ne_eqb (bit_or a b) 0

    go : (t : Bool) → eqb a 0 ≡ t → (u : Bool) → eqb b 0 ≡ u → eqb (bit_or a b) 0 ≡ t and u
    go true e true f = eq-eqb (bit_or a b) 0 (omega (arith, or_add_and a b, eqb-true a 0 e, eqb-true b 0 f))
    go true e false f = off (λ z. eqb-false b 0 f (omega (arith, or_add_and a b, and_le_l a b, eqb-true a 0 e)))
    go false e u f = off (λ z. eqb-false a 0 e (omega (arith, or_add_and a b, and_le_r a b)))

-- the loop that ors the bytes
pub zero-none : (at : ℕ) (s : List ℕ) → true ≡ all_zero (part at 0 s)
unfolding all_zero part
zero-none at s = refl

pub zero_more : (at i any : ℕ) (s : List ℕ) → eqb any 0 ≡ all_zero (part at i s) → at + i < length s → eqb (bit_or any (get_or s (at + i) 0)) 0 ≡ all_zero (part at (i + 1) s)
zero_more at i any s e h = rw (or-zero any (get_or s (at + i) 0), part-suc at i s h, all_zero-snoc, e)

-- the byte taken from the m that stand from at on
pub zero_next : (at i m any : ℕ) (s : List ℕ) → eqb any 0 ≡ all_zero (part at i s) → i < length (take m (drop at s))
    → eqb (bit_or any (get_or (take m (drop at s)) i 0)) 0 ≡ all_zero (part at (i + 1) s)
zero_next at i m any s e h =
    let long : i < m = omega (arith, length-take m (drop at s)) in
    rw (get_or-take m (drop at s) i 0 long, get_or-drop at s i 0) (zero_more at i any s e (omega (arith, length-take m (drop at s), length-drop at s)))

pub zero-end : (at i n : ℕ) (s : List ℕ) (t : Bool) → t ≡ all_zero (part at i s) → i ≡ n → t ≡ all_zero (part at n s)
zero-end at i n s t e h = e ∙ rw h

pub zeros-is : (l : List ℕ) → all_zero l ≡ true → l ≡ zeros (length l)
unfolding all_zero zeros
zeros-is [] e = refl
zeros-is (x ∷ xs) e = go (eqb x 0) refl (zeros-is xs) e
  where
    go : (t : Bool) → eqb x 0 ≡ t → (all_zero xs ≡ true → xs ≡ zeros (length xs)) → pick t (all_zero xs) false ≡ true → x ∷ xs ≡ 0 ∷ zeros (length xs)
    go true z ih f = let a : x ≡ 0 = eqb-true x 0 z in let b : xs ≡ zeros (length xs) = ih f in cc
    go false z ih f = let b : ◌≡◌ {A = Bool} false true = f in let z : ◌≡◌ {A = ℕ} 0 1 = cc in absurd (omega arith)

pub all_zero-at : (l : List ℕ) (i : ℕ) → all_zero l ≡ true → get_or l i 0 ≡ 0
all_zero-at l i e = ap (λ (z : List ℕ). get_or z i 0) (zeros-is l e) ∙ get_or-zeros (length l) i

pub all_zero-drop : (k : ℕ) (l : List ℕ) → all_zero l ≡ true → all_zero (drop k l) ≡ true
unfolding all_zero
all_zero-drop zero l e = e
all_zero-drop (suc k) [] e = refl
all_zero-drop (suc k) (x ∷ xs) e = all_zero-drop k xs (both (eqb x 0) (all_zero xs) e).1

-- a part of zeros
module _ (at n : ℕ) (l : List ℕ) (fits : at + n ≤ length l) where
  pub all_zero-part : all_zero (part at n l) ≡ true → part at n l ≡ zeros n
  all_zero-part e = zeros-is (part at n l) e ∙ ap zeros (length_part at n l fits)

  -- past the first k bytes
  pub all_zero-past : (k : ℕ) → k ≤ at → all_zero (drop k l) ≡ true → part at n l ≡ zeros n
  all_zero-past k p e =
      let a : k + (at - k) ≡ at = omega arith in
      let m : at - k + n ≤ length (drop k l) = rw length-drop (omega arith) in
      part-def at n l
      ∙ ap (λ (i : ℕ). take n (drop i l)) (sym a)
      ∙ ap (take n) (sym (drop-drop (at - k) k l))
      ∙ sym (part-def (at - k) n (drop k l))
      ∙ ap (part (at - k) n) (zeros-is (drop k l) e)
      ∙ part-zeros (at - k) n (length (drop k l)) m

-- ---- every

pub every-none : (f : ℕ → Bool) → every 0 f ≡ true
unfolding every
every-none f = refl

pub every_more : (f : ℕ → Bool) (i : ℕ) → every i f ≡ true → f i ≡ true → every (i + 1) f ≡ true
unfolding every
every_more f i e p = rw (add-one, e, p)

pub every-all : (f : ℕ → Bool) (n : ℕ) → ((i : ℕ) → i < n → f i ≡ true) → every n f ≡ true
unfolding every
every-all f zero h = refl
every-all f (suc n) h = rw (every-all f n (λ i p. h i (omega arith)), h n (omega arith))

pub every-same : (f g : ℕ → Bool) (n : ℕ) → ((i : ℕ) → i < n → f i ≡ g i) → every n f ≡ every n g
unfolding every
every-same f g zero h = refl
every-same f g (suc n) h = rw (every-same f g n (λ i p. h i (omega arith)), h n (omega arith))

pub every-off : (f : ℕ → Bool) (n i : ℕ) → i < n → f i ≡ false → every n f ≡ false
unfolding every
every-off f zero i h e = absurd (omega arith)
every-off f (suc n) i h e = ⊎_elim (λ p. rw (every-off f n i p e)) (λ p. last (subst (λ (x : ℕ). f x ≡ false) p e) (every n f)) (cases n i h)
  where
    last : f n ≡ false → (t : Bool) → pick t (f n) false ≡ false
    last q true = q
    last q false = refl

pub every-at : (f : ℕ → Bool) (n i : ℕ) → every n f ≡ true → i < n → f i ≡ true
unfolding every
every-at f zero i e h = absurd (omega arith)
every-at f (suc n) i e h = ⊎_elim (λ p. every-at f n i (both (every n f) (f n) e).0 p) (λ p. subst (λ (x : ℕ). f x ≡ true) (sym p) (both (every n f) (f n) e).1) (cases n i h)

-- a loop over the first n, in which f held at the first k
pub record Held (f : ℕ → Bool) (n k : ℕ) : Type 0 where
  pub within : k ≤ n
  pub all : every k f ≡ true

pub held_none : (f : ℕ → Bool) (n : ℕ) → Held f n 0
held_none f n = record { within = omega arith; all = every-none f }

module _ {f : ℕ → Bool} {n k : ℕ} (held : Held f n k) where
  pub held_more : k < n → not (f k) ≡ false → Held f n (k + 1)
  held_more h e = record { within = omega arith; all = every_more f k held.all (not-false (f k) e) }

  pub held-fails : k < n → not (f k) ≡ true → false ≡ every n f
  held-fails h e = sym (every-off f n k h (not-true (f k) e))

  pub held_all : n ≤ k → true ≡ every n f
  held_all h =
      let e : k ≡ n = omega arith in
      sym (subst (λ (i : ℕ). every i f ≡ true) e held.all)

-- ---- any: not everywhere not

any-not : (f : ℕ → Bool) (n : ℕ) → any n f ≡ not (every n (λ i. not (f i)))
unfolding any every
any-not f zero = refl
any-not f (suc n) = rw (any-not f n) (go (every n (λ i. not (f i))) (f n))
  where
    go : (t u : Bool) → not t or u ≡ not (t and not u)
    go true true = refl
    go true false = refl
    go false u = refl

pub any_none : (f : ℕ → Bool) → any 0 f ≡ false
unfolding any
any_none f = refl

pub any-more : (f : ℕ → Bool) (i : ℕ) → any i f ≡ false → f i ≡ false → any (i + 1) f ≡ false
unfolding any
any-more f i e p = rw (add-one, e, p)

pub any-on : (f : ℕ → Bool) (n i : ℕ) → i < n → f i ≡ true → any n f ≡ true
any-on f n i h e = any-not f n ∙ ap not (every-off (λ i. not (f i)) n i h (ap not e))

pub any-off : (f : ℕ → Bool) (n : ℕ) → ((i : ℕ) → i < n → f i ≡ false) → any n f ≡ false
any-off f n h = any-not f n ∙ ap not (every-all (λ i. not (f i)) n (λ i p. ap not (h i p)))

pub any_at : (f : ℕ → Bool) (n i : ℕ) → any n f ≡ false → i < n → f i ≡ false
any_at f n i e h = not-true (f i) (every-at (λ i. not (f i)) n i (not-false (every n (λ i. not (f i))) (sym (any-not f n) ∙ e)) h)

pub any_some : (f : ℕ → Bool) (n : ℕ) → any n f ≡ true → (i : ℕ) × (f i ≡ true)
unfolding any
any_some f zero e = never (sym e)
any_some f (suc n) e = ⊎_elim (λ p. any_some f n p) (λ p. (n, p)) (or-to (any n f) (f n) e)

pub any_same : (f g : ℕ → Bool) (n : ℕ) → ((i : ℕ) → i < n → f i ≡ g i) → any n f ≡ any n g
unfolding any
any_same f g zero h = refl
any_same f g (suc n) h = rw (any_same f g n (λ i p. h i (omega arith)), h n (omega arith))

-- by the first of the n + 1
pub any-first : (f : ℕ → Bool) (n : ℕ) → any (suc n) f ≡ f 0 or any n (λ i. f (suc i))
unfolding any
any-first f zero = sym (or-none (f 0))
any-first f (suc n) = rw (any-first f n) (or_assoc (f 0) (any n (λ i. f (suc i))) (f (suc n)))
