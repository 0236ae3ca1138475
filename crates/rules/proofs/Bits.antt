-- The bits of a volume: the volume that has them, and one more take named.
use Prim.Native.Nat.{ℕ, zero, suc, ◌+◌, ◌-◌, ◌*◌, ◌/◌, ◌%◌, ◌^◌, ◌≤◌, ◌<◌, min, max}
use mathlib.Core.Bool.{Bool, true, false, not}
use mathlib.Core.Path.{◌≡◌, refl, sym, ap, ◌∙◌, subst}
use mathlib.Core.Logic.{⊎_elim}
use native.Mathlib.Nat.{zero-add, one-mul, pow-zero, pow-succ', zero-div, div-one, div-eq_of_lt, mod-eq_of_lt, div-div-eq-div-mul, div-le_self}
use native.Mathlib.Omega.{arith}
use lib.Dec.{eqb, leb, eqb-suc-suc}
use lib.Bits.{bit_and, bit_or, bit_xor, differ, and_shr, or_shr, xor_shr, and_step, or_step, xor_step, and_le_l}
use lib.Pow.{pow_pos, pow_mono, shr-shr}
use borrow.Author.Tests.{eq-eqb, ne_eqb, eqb-true, eqb-false, le-leb, lt-leb}
use Rattle.octets.specs.Bytes.{◌and◌, ◌or◌, every}
use Rattle.octets.proofs.Chunks.{sides}
use Rattle.octets.proofs.Tests.{never, or-none, and-off, implying, same_test}
use Rattle.octets.proofs.Zero.{both, every-all, every-at, any_at, any-off}
use Rattle.rules.specs.Refusals.{group_bits, named, any_named}
use Rattle.rules.specs.Internal.Closure.{Names, inside}

-- ---- the first bit, and the others

pub named-first : (g : ℕ) → named g 0 ≡ eqb (g % 2) 1
unfolding named
named-first g = rw (pow-zero, div-one)

pub named-half : (g t : ℕ) → named g (suc t) ≡ named (g / 2) t
unfolding named
named-half g t = rw (pow-succ' 2 t, ← div-div-eq-div-mul g 2 (2 ^ t))

even : (g : ℕ) → named g 0 ≡ false → g % 2 ≡ 0
even g e = let n = eqb-false (g % 2) 1 (sym (named-first g) ∙ e) in omega arith

-- ---- the same bits, the same volume

pub named-same : (n v w : ℕ) → v < 2 ^ n → w < 2 ^ n → ((u : ℕ) → u < n → named v u ≡ named w u) → v ≡ w
named-same zero v w a b e = omega arith
named-same (suc n) v w a b e =
    let p : 2 ^ suc n ≡ 2 * 2 ^ n = pow-succ' 2 n in
    let half : v / 2 ≡ w / 2 = named-same n (v / 2) (w / 2) (omega arith) (omega arith) (λ u h. sym (named-half v u) ∙ e (suc u) (omega arith) ∙ named-half w u) in
    let rest : v % 2 ≡ w % 2 = parity (named w 0) (e 0 (omega arith)) refl in
    omega arith
  where
    parity : (b : Bool) → named v 0 ≡ b → named w 0 ≡ b → v % 2 ≡ w % 2
    parity true i j = eqb-true (v % 2) 1 (sym (named-first v) ∙ i) ∙ sym (eqb-true (w % 2) 1 (sym (named-first w) ∙ j))
    parity false i j = even v i ∙ sym (even w j)

-- ---- take u added

pub named-add : (g u v : ℕ) → named g u ≡ false → named (g + 2 ^ u) v ≡ named g v or eqb u v
named-add g zero zero e =
    let z : g % 2 ≡ 0 = even g e in
    named-first (g + 1) ∙ rw (e, eq-eqb ((g + 1) % 2) 1 (omega arith))
named-add g zero (suc v) e =
    let z : g % 2 ≡ 0 = even g e in
    let h : (g + 1) / 2 ≡ g / 2 = omega arith in
    rw (named-half (g + 1) v, h, ← named-half g v, ne_eqb 0 (suc v) (omega arith), or-none)
named-add g (suc u) zero e =
    let q : 2 ^ suc u ≡ 2 * 2 ^ u = pow-succ' 2 u in
    let h : (g + 2 ^ suc u) % 2 ≡ g % 2 = omega arith in
    rw (named-first (g + 2 ^ suc u), h, named-first g, ne_eqb (suc u) 0 (omega arith), or-none)
named-add g (suc u) (suc v) e =
    let q : 2 ^ suc u ≡ 2 * 2 ^ u = pow-succ' 2 u in
    let h : (g + 2 ^ suc u) / 2 ≡ g / 2 + 2 ^ u = omega arith in
    rw (named-half (g + 2 ^ suc u) v, h, named-half g v, eqb-suc-suc u v) (named-add (g / 2) u v (sym (named-half g u) ∙ e))

-- none is named past the bits of the volume
pub named_past : (g t n : ℕ) → g < 2 ^ n → n ≤ t → named g t ≡ false
unfolding named
named_past g t n h b =
    let e : g / 2 ^ t ≡ 0 = div-eq_of_lt (omega (arith, pow_mono b)) in
    rw e

-- it stays within n bits
pub add-fits : (g u n : ℕ) → g < 2 ^ n → u < n → named g u ≡ false → g + 2 ^ u < 2 ^ n
add-fits g u zero h b e = absurd (omega arith)
add-fits g zero (suc n) h b e =
    let p : 2 ^ suc n ≡ 2 * 2 ^ n = pow-succ' 2 n in
    let z : g % 2 ≡ 0 = even g e in
    omega arith
add-fits g (suc u) (suc n) h b e =
    let p : 2 ^ suc n ≡ 2 * 2 ^ n = pow-succ' 2 n in
    let q : 2 ^ suc u ≡ 2 * 2 ^ u = pow-succ' 2 u in
    let r : g / 2 + 2 ^ u < 2 ^ n = add-fits (g / 2) u n (omega arith) (omega arith) (sym (named-half g u) ∙ e) in
    omega arith

-- ---- one take

pub named-zero : (t : ℕ) → named 0 t ≡ false
unfolding named
named-zero t = rw zero-div

pub named-one : (t v : ℕ) → named (2 ^ t) v ≡ eqb t v
named-one t v =
    let e : named (0 + 2 ^ t) v ≡ named 0 v or eqb t v = named-add 0 t v (named-zero t) in
    rw (zero-add (2 ^ t), named-zero v) at e

pub one-fits : (t n : ℕ) → t < n → 2 ^ t < 2 ^ n
one-fits t n h = omega (arith, add-fits 0 t n (pow_pos n) h (named-zero t))

-- as it is shifted in a word of n bits
pub shifted : (t n : ℕ) → t < n → 1 * 2 ^ t % 2 ^ n ≡ 2 ^ t
shifted t n h = ap (λ (x : ℕ). x % 2 ^ n) (one-mul (2 ^ t)) ∙ mod-eq_of_lt (one-fits t n h)

-- ---- all takes

pub named-all : (n t : ℕ) → t < n → named (2 ^ n - 1) t ≡ true
named-all zero t h = absurd (omega arith)
named-all (suc n) zero h =
    let p : 2 ^ suc n ≡ 2 * 2 ^ n = pow-succ' 2 n in
    named-first (2 ^ suc n - 1) ∙ eq-eqb ((2 ^ suc n - 1) % 2) 1 (omega (arith, pow_pos n))
named-all (suc n) (suc t) h =
    let p : 2 ^ suc n ≡ 2 * 2 ^ n = pow-succ' 2 n in
    let e : (2 ^ suc n - 1) / 2 ≡ 2 ^ n - 1 = omega (arith, pow_pos n) in
    named-half (2 ^ suc n - 1) t ∙ ap (λ (x : ℕ). named x t) e ∙ named-all n t (omega arith)

-- ---- a test that holds of none of the named takes

pub named-at : (g : ℕ) (f : ℕ → Bool) (t : ℕ) → any_named g f ≡ false → t < group_bits → named g t ≡ true → f t ≡ false
unfolding any_named
named-at g f t e h p = and-off (named g t) (f t) (any_at (λ t. named g t and f t) group_bits t e h) p

pub unnamed-all : (g : ℕ) (f : ℕ → Bool) → ((t : ℕ) → t < group_bits → named g t ≡ true → f t ≡ false) → any_named g f ≡ false
unfolding any_named
unnamed-all g f h = any-off (λ t. named g t and f t) group_bits (λ t b. met (named g t) (f t) (h t b))
  where
    met : (n v : Bool) → (n ≡ true → v ≡ false) → n and v ≡ false
    met true v e = e refl
    met false v e = refl

-- ---- the takes from number n on

named-shift : (g n u : ℕ) → named (g / 2 ^ n) u ≡ named g (n + u)
unfolding named
named-shift g n u = ap (λ (x : ℕ). eqb (x % 2) 1) (shr-shr g n u)

-- one is named exactly if the quotient is not 0
pub named-from : (g n : ℕ) → g < 2 ^ group_bits → not (eqb (g / 2 ^ n) 0) ≡ any_named g (leb n)
named-from g n fits = go (any_named g (leb n)) refl (eqb (g / 2 ^ n) 0) refl
  where
    -- none is: no bit of the quotient
    clear : any_named g (leb n) ≡ false → g / 2 ^ n ≡ 0
    clear e = named-same group_bits (g / 2 ^ n) 0 (omega (arith, div-le_self g (2 ^ n))) (pow_pos group_bits) (λ u h. named-shift g n u ∙ off u (named g (n + u)) refl ∙ sym (named-zero u))
      where
        off : (u : ℕ) (b : Bool) → named g (n + u) ≡ b → b ≡ false
        off u false p = refl
        off u true p = ⊎_elim
            (λ (h : n + u < group_bits). sym (le-leb n (n + u) (omega arith)) ∙ named-at g (leb n) (n + u) e h p)
            (λ (h : group_bits ≤ n + u). sym p ∙ named_past g (n + u) group_bits fits h)
            (sides (n + u) group_bits)

    -- no bit of the quotient: none is
    low : g / 2 ^ n ≡ 0 → (t : ℕ) → named g t ≡ true → leb n t ≡ false
    low z t p = ⊎_elim
        (λ (h : t < n). lt-leb n t h)
        (λ (h : n ≤ t).
        let e : n + (t - n) ≡ t = omega arith in
        never (sym p ∙ sym (named-shift g n (t - n) ∙ ap (named g) e) ∙ ap (λ (x : ℕ). named x (t - n)) z ∙ named-zero (t - n)))
        (sides t n)

    go : (a : Bool) → any_named g (leb n) ≡ a → (b : Bool) → eqb (g / 2 ^ n) 0 ≡ b → not (eqb (g / 2 ^ n) 0) ≡ a
    go true e false z = ap not z
    go true e true z = never (sym e ∙ unnamed-all g (leb n) (λ t h p. low (eqb-true (g / 2 ^ n) 0 z) t p))
    go false e b z = ap not (eq-eqb (g / 2 ^ n) 0 (clear e))

-- and none past the bits of a volume
pub named-from-none : (g n : ℕ) → group_bits ≤ n → false ≡ any_named g (leb n)
named-from-none g n h = sym (unnamed-all g (leb n) (λ t b e. lt-leb n t (omega arith)))

-- ---- a volume put together take by take: after t turns it names those of the first t of which f holds

pub names-none : (f : ℕ → Bool) → Names f 0 0
names-none f = record { bits = omega arith; exactly = λ u h. absurd (omega arith) }

module _ {f : ℕ → Bool} {t v : ℕ} (names : Names f t v) where
  -- as those below t are, and t itself
  reach : (w : ℕ) → (w < 2 ^ (t + 1)) → ((u : ℕ) → u < t → named w u ≡ named v u) → named w t ≡ f t → Names f (t + 1) w
  reach w bits below here = record {
    bits = bits;
    exactly = λ u h. ⊎_elim
        (λ (q : u < t). below u q ∙ names.exactly u q)
        (λ (q : t ≤ u). let e : t ≡ u = omega arith in subst (λ (x : ℕ). named w x ≡ f x) e here)
        (sides u t);
  }

  past : named v t ≡ false
  past = named_past v t t names.bits (omega arith)

  pub names-fits : (n : ℕ) → t < n → v + 2 ^ t < 2 ^ n
  names-fits n h = add-fits v t n (omega (arith, names.bits, one-fits t n h)) h past

  -- in a volume's word
  pub word_fits : t < group_bits → (b : ℕ) → b ≡ 2 ^ t → v + b < 2 ^ group_bits
  word_fits h b e = subst (λ (x : ℕ). v + x < 2 ^ group_bits) (sym e) (names-fits group_bits h)

  pub names-on : (b : ℕ) → b ≡ 2 ^ t → f t ≡ true → Names f (t + 1) (v + b)
  names-on b bit e = rw bit (reach (v + 2 ^ t) (names-fits (t + 1) (omega arith))
      (λ u h. named-add v t u past ∙ rw (ne_eqb t u (omega arith), or-none))
      (named-add v t t past ∙ rw (eq-eqb t t refl, past, e)))

  pub names-off : f t ≡ false → Names f (t + 1) v
  names-off e = reach v (omega (arith, names.bits, one-fits t (t + 1) (omega arith))) (λ u h. refl) (past ∙ sym e)

-- ---- two volumes

-- the last bit of r, which is v
last_bit : (r a v : ℕ) → r ≡ a * 2 + v → v < 2 → eqb (r % 2) 1 ≡ eqb v 1
last_bit r a v e h = ap (λ n. eqb n 1) (let q : r % 2 ≡ v = omega arith in q)

-- an operation on each bit by itself: op by f of two bits, and F of two tests
module _ (op : ℕ → ℕ → ℕ) (f : ℕ → ℕ → ℕ) (F : Bool → Bool → Bool) (step : (a b : ℕ) → op a b ≡ op (a / 2) (b / 2) * 2 + f (a % 2) (b % 2))
    (small : (x y : ℕ) → x < 2 → y < 2 → f x y < 2) (table : (x y : ℕ) → x < 2 → y < 2 → eqb (f x y) 1 ≡ F (eqb x 1) (eqb y 1))
    (shr : (a b k : ℕ) → op a b / 2 ^ k ≡ op (a / 2 ^ k) (b / 2 ^ k)) where
  named-op : (v w t : ℕ) → named (op v w) t ≡ F (named v t) (named w t)
  unfolding named
  named-op v w t =
      let a : ℕ = v / 2 ^ t in
      let b : ℕ = w / 2 ^ t in
      rw (shr v w t) (last_bit (op a b) (op (a / 2) (b / 2)) (f (a % 2) (b % 2)) (step a b) (small (a % 2) (b % 2) (omega arith) (omega arith)) ∙ table (a % 2) (b % 2) (omega arith) (omega arith))

-- a table of two bits
below_two : (P : ℕ → ℕ → Type 0) → P 0 0 → P 0 1 → P 1 0 → P 1 1 → (x y : ℕ) → x < 2 → y < 2 → P x y
below_two P a b c d zero zero h k = a
below_two P a b c d zero (suc zero) h k = b
below_two P a b c d (suc zero) zero h k = c
below_two P a b c d (suc zero) (suc zero) h k = d
below_two P a b c d zero (suc (suc y)) h k = absurd (omega arith)
below_two P a b c d (suc zero) (suc (suc y)) h k = absurd (omega arith)
below_two P a b c d (suc (suc x)) y h k = absurd (omega arith)

pub named-and : (v w t : ℕ) → named (bit_and v w) t ≡ named v t and named w t
named-and = named-op bit_and min (λ p q. p and q) and_step
    (below_two (λ x y. min x y < 2) (omega arith) (omega arith) (omega arith) (omega arith)) (below_two (λ x y. eqb (min x y) 1 ≡ eqb x 1 and eqb y 1) refl refl refl refl) and_shr

pub named-or : (v w t : ℕ) → named (bit_or v w) t ≡ named v t or named w t
named-or = named-op bit_or max (λ p q. p or q) or_step
    (below_two (λ x y. max x y < 2) (omega arith) (omega arith) (omega arith) (omega arith)) (below_two (λ x y. eqb (max x y) 1 ≡ eqb x 1 or eqb y 1) refl refl refl refl) or_shr

pub named-xor : (v w t : ℕ) → named (bit_xor v w) t ≡ (named v t and not (named w t)) or (not (named v t) and named w t)
named-xor = named-op bit_xor differ (λ p q. (p and not q) or (not p and q)) xor_step
    (below_two (λ x y. differ x y < 2) (omega arith) (omega arith) (omega arith) (omega arith)) (below_two (λ x y. eqb (differ x y) 1 ≡ (eqb x 1 and not (eqb y 1)) or (not (eqb x 1) and eqb y 1)) refl refl refl refl) xor_shr

-- as the code tests that every take of v is one of w
pub inside-and : (v w : ℕ) → v < 2 ^ group_bits → eqb (bit_and v w) v ≡ inside v w
unfolding inside
inside-and v w fits = same_test (eqb (bit_and v w) v) (inside v w) to of
  where
    to : eqb (bit_and v w) v ≡ true → every group_bits (λ t. not (named v t) or named w t) ≡ true
    to e = every-all (λ t. not (named v t) or named w t) group_bits (λ t h. implying (named v t) (named w t) (λ n.
        (both (named v t) (named w t) (sym (named-and v w t) ∙ ap (λ (x : ℕ). named x t) (eqb-true (bit_and v w) v e) ∙ n)).1))

    of : every group_bits (λ t. not (named v t) or named w t) ≡ true → eqb (bit_and v w) v ≡ true
    of e = eq-eqb (bit_and v w) v (named-same group_bits (bit_and v w) v (omega (arith, and_le_l v w)) fits (λ t h.
        named-and v w t ∙ met (named v t) (named w t) (every-at (λ t. not (named v t) or named w t) group_bits t e h)))
      where
        met : (n m : Bool) → not n or m ≡ true → n and m ≡ n
        met true m e = e
        met false m e = refl

-- volume v without the takes of w
pub named-without : (v w t : ℕ) → named (bit_xor v (bit_and v w)) t ≡ named v t and not (named w t)
named-without v w t = named-xor v (bit_and v w) t ∙ rw (named-and v w t) (go (named v t) (named w t))
  where
    go : (a b : Bool) → (a and not (a and b)) or (not a and (a and b)) ≡ a and not b
    go true true = refl
    go true false = refl
    go false b = refl
