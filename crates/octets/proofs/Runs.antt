-- Runs: parts side by side, chunks of which the first n are as wide as they should be.
use Prim.Native.Nat.{ℕ, zero, suc, ◌+◌, ◌*◌, ◌≤◌, ◌<◌}
use mathlib.Core.Bool.{Bool, true, false}
use mathlib.Core.Path.{◌≡◌, refl, sym, ◌∙◌}
use mathlib.Core.List.{List, ◌++◌}
use mathlib.Core.Logic.{⊎_elim}
use native.Mathlib.Nat.{zero-add, add-zero, add-suc, mul-zero, mul-suc}
use native.Mathlib.Numerals.{add-one}
use native.Mathlib.Omega.{arith}
use lib.ListN.{length, length-append}
use Rattle.octets.specs.Bytes.{◌and◌, put, part, chunks, every}
use Rattle.octets.proofs.Put.{put-append, part_left, part_right, part-part, part-add, part-whole, length_part}
use Rattle.octets.proofs.Tests.{and_assoc}
use Rattle.octets.proofs.Chunks.{step, cases, chunks-suc, chunks-same, chunks-parts}

-- ---- parts of b one after the other

pub joined : (n m : ℕ) (b : List ℕ) → part 0 n b ++ part n m b ≡ part 0 (n + m) b
joined n m b = sym (rw zero-add at (part-add 0 n m b))

pub run-back : (at w n : ℕ) (f : ℕ → List ℕ) (b : List ℕ) → at + w * n ≤ length b → ((i : ℕ) → i < n → f i ≡ part (at + w * i) w b) → chunks n f ≡ part at (w * n) b
run-back at w n f b h e =
    chunks-same n f (λ i. part (w * i) w (part at (w * n) b)) (λ i p. e i p ∙ sym (part-part (w * i) w at (w * n) b (step w i n p)))
    ∙ chunks-parts w n (part at (w * n) b) (length_part at (w * n) b h)

-- the part behind p
pub behind : (k n : ℕ) (p q : List ℕ) → length p ≡ k → part k n (p ++ q) ≡ part 0 n q
behind k n p q e = rw (sym e, sym (add-zero (length p))) (part_right 0 n p q)

-- all behind p
pub behind-whole : (a m : ℕ) (p q : List ℕ) → length p ≡ a → length q ≡ m → part a m (p ++ q) ≡ q
behind-whole a m p q n k = behind a m p q n ∙ part-whole m q k

pub further : (k i n : ℕ) (p q : List ℕ) → length p ≡ k → part (k + i) n (p ++ q) ≡ part i n q
further k i n p q e = rw (sym e) (part_right i n p q)

-- chunks that are sized enough below n
pub lengths : (w n : ℕ) (f : ℕ → List ℕ) → ((i : ℕ) → i < n → length (f i) ≡ w) → length (chunks n f) ≡ w * n
unfolding chunks
lengths w zero f h = sym (mul-zero w)
lengths w (suc n) f h = rw (length-append, lengths w n f (λ i p. h i (omega arith)), h n (omega arith), mul-suc)

pub part_of : (w n : ℕ) (f : ℕ → List ℕ) → ((i : ℕ) → i < n → length (f i) ≡ w) → (k : ℕ) → k < n → part (w * k) w (chunks n f) ≡ f k
part_of w zero f e k h = absurd (omega arith)
part_of w (suc n) f e k h = ⊎_elim
    (λ (p : k < n). rw (chunks-suc, part_left (w * k) w (chunks n f) (f n) (rw (lengths w n f (λ i q. e i (omega arith))) (step w k n p))) (part_of w n f (λ i q. e i (omega arith)) k p))
    (λ (p : k ≡ n). rw (chunks-suc, p) (behind (w * n) w (chunks n f) (f n) (lengths w n f (λ i q. e i (omega arith))) ∙ part-whole w (f n) (e n (omega arith))))
    (cases n k h)

-- a loop puts one of them after the other
pub put_next : (at w n : ℕ) (f : ℕ → List ℕ) → ((i : ℕ) → i < n → length (f i) ≡ w) → (i : ℕ) → i < n → (l l' l'' : List ℕ)
    → l' ≡ put at (chunks i f) l → l'' ≡ put (at + w * i) (f i) l' → at + w * i + w ≤ length l → l'' ≡ put at (chunks (i + 1) f) l
put_next at w n f sized i k l l' l'' e e' h =
    let m : length (chunks i f) ≡ w * i = lengths w i f (λ j p. sized j (omega arith)) in
    e' ∙ rw (e, add-one, chunks-suc, ← m, put-append at (chunks i f) (f i) l (omega (arith, m, sized i k)))

-- ---- a test at the first places and at the rest

pub every-add : (a b : ℕ) (f : ℕ → Bool) → every (a + b) f ≡ every a f and every b (λ i. f (a + i))
unfolding every
every-add a zero f = rw add-zero (last (every a f))
  where
    last : (t : Bool) → t ≡ t and true
    last true = refl
    last false = refl
every-add a (suc b) f = rw (add-suc, every-add a b f) (and_assoc (every a f) (every b (λ i. f (a + i))) (f (a + b)))
