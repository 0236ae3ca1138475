-- A chain's `all` and `any` over the numbers below n: every, any.
use Prim.Native.Nat.{ℕ, zero, suc, ◌+◌}
use mathlib.Core.Bool.{Bool, true, false, ◌&&◌, ◌||◌}
use mathlib.Core.Path.{◌≡◌, refl, sym, ap, ◌∙◌}
use native.Mathlib.Omega.{arith}
use Rattle.std.specs.List.{list_all, list_any, range_with_len}
use Rattle.octets.specs.Bytes.{◌and◌, ◌or◌, every, any}
use Rattle.octets.proofs.Tests.{and-true, and_assoc}
use Rattle.octets.proofs.Zero.{every-same, any_same, any-first}

every-first : (f : ℕ → Bool) (n : ℕ) → every (suc n) f ≡ f 0 and every n (λ i. f (suc i))
unfolding every
every-first f zero = sym (and-true (f 0))
every-first f (suc n) = ap (λ (t : Bool). t and f (suc n)) (every-first f n) ∙ and_assoc (f 0) (every n (λ i. f (suc i))) (f (suc n))

and-is : (a b : Bool) → a && b ≡ a and b
and-is true b = refl
and-is false b = refl

or-is : (a b : Bool) → a || b ≡ a or b
or-is true b = refl
or-is false b = refl

module _ (f : ℕ → Bool) where
  all_from : (a n : ℕ) → list_all f (range_with_len a n) ≡ every n (λ i. f (a + i))
  unfolding every
  all_from a zero = refl
  all_from a (suc n) =
      and-is (f a) (list_all f (range_with_len (a + 1) n))
      ∙ ap (λ (t : Bool). f a and t) (all_from (a + 1) n ∙ every-same (λ i. f (a + 1 + i)) (λ i. f (a + suc i)) n (λ i h. ap f (omega arith)))
      ∙ ap (λ (k : ℕ). f k and every n (λ i. f (a + suc i))) (omega arith)
      ∙ sym (every-first (λ i. f (a + i)) n)

  any_from : (a n : ℕ) → list_any f (range_with_len a n) ≡ any n (λ i. f (a + i))
  unfolding any
  any_from a zero = refl
  any_from a (suc n) =
      or-is (f a) (list_any f (range_with_len (a + 1) n))
      ∙ ap (λ (t : Bool). f a or t) (any_from (a + 1) n ∙ any_same (λ i. f (a + 1 + i)) (λ i. f (a + suc i)) n (λ i h. ap f (omega arith)))
      ∙ ap (λ (k : ℕ). f k or any n (λ i. f (a + suc i))) (omega arith)
      ∙ sym (any-first (λ i. f (a + i)) n)

  pub all-ranged : (n : ℕ) → list_all f (range_with_len 0 n) ≡ every n f
  all-ranged n = all_from 0 n ∙ every-same (λ i. f (0 + i)) f n (λ i h. ap f (omega arith))

  pub any-ranged : (n : ℕ) → list_any f (range_with_len 0 n) ≡ any n f
  any-ranged n = any_from 0 n ∙ any_same (λ i. f (0 + i)) f n (λ i h. ap f (omega arith))
