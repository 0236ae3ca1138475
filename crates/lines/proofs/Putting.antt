-- is_whole written one after the other.
use Prim.Native.Nat.{ℕ, zero, suc, ◌+◌, ◌*◌, ◌/◌, ◌%◌, ◌^◌, ◌≤◌, ◌<◌}
use mathlib.Core.Path.{◌≡◌, sym, subst}
use mathlib.Core.Logic.{⊎_elim}
use mathlib.Core.List.{List, [], ◌∷◌, ◌++◌}
use native.Mathlib.Nat.{mod-eq_of_lt, pow-suc}
use native.Mathlib.Omega.{arith}
use lib.ListN.{length, length-append}
use Rattle.octets.proofs.Chunks.{sides}
use Rattle.notation.specs.Notation.{decimal, places}
use Rattle.notation.proofs.Numerals.{decimal-low, decimal-high}

-- no more digits than places
pub decimal-places : (k n : ℕ) → length (decimal k n) ≤ k
unfolding decimal
decimal-places zero n = omega arith
decimal-places (suc k) n = ⊎_elim
    (λ (h : n < 10). subst (λ (l : List ℕ). length l ≤ suc k) (sym (decimal-low k n h)) (omega arith))
    (λ (h : 10 ≤ n). subst (λ (l : List ℕ). length l ≤ suc k) (sym (decimal-high k n h)) (omega (arith, length-append (decimal k (n / 10)) ((48 + n % 10) ∷ []), decimal-places k (n / 10))))
    (sides n 10)

-- a number's digits are those of its tenth and one more
digits-more : (j n : ℕ) → n < 10 ^ suc j → decimal (suc (suc j)) n ≡ decimal (suc j) n
digits-more zero n h = rw (decimal-low 1 n h, decimal-low 0 n h)
digits-more (suc j) n h = ⊎_elim
    (λ (l : n < 10). rw (decimal-low (suc (suc j)) n l, decimal-low (suc j) n l))
    (λ (l : 10 ≤ n).
    let p : 10 ^ suc (suc j) ≡ 10 ^ suc j * 10 = pow-suc 10 (suc j) in
    let q : decimal (suc (suc j)) (n / 10) ≡ decimal (suc j) (n / 10) = digits-more j (n / 10) (omega arith) in
    rw (decimal-high (suc (suc j)) n l, decimal-high (suc j) n l, q))
    (sides n 10)

pub number-low : (n : ℕ) → n < 10 → decimal places n ≡ (48 + n % 10) ∷ []
number-low n h = let m : n % 10 ≡ n = mod-eq_of_lt h in rw m (decimal-low 9 n h)

pub number-high : (n : ℕ) → 10 ≤ n → n < 4294967296 → decimal places n ≡ decimal places (n / 10) ++ ((48 + n % 10) ∷ [])
number-high n h b = rw (decimal-high 9 n h, digits-more 8 (n / 10) (omega arith))
