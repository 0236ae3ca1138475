-- Of the steps or replies of a list those for which f holds, in their order.
use Prim.Native.Nat.{ℕ, zero, suc, ◌+◌, ◌*◌, ◌≤◌}
use mathlib.Core.Bool.{Bool, true, false}
use mathlib.Core.Path.{◌≡◌, refl, ap}
use mathlib.Core.List.{List, [], ◌++◌}
use native.Mathlib.Omega.{arith}
use lib.ListN.{length, length-append}
use Rattle.octets.specs.Bytes.{pick, part, chunks}
use Rattle.octets.proofs.Put.{length_part}
use Rattle.octets.proofs.Chunks.{chunks-same, part-chunks}
use Rattle.rules.specs.Step.{step_bytes}
use Rattle.thin.specs.Thin.{chosen, counted}

pub chosen_none : (f : ℕ → Bool) (l : List ℕ) → chosen f 0 l ≡ []
unfolding chosen chunks
chosen_none f l = refl

pub chosen-suc : (f : ℕ → Bool) (n : ℕ) (l : List ℕ) → chosen f (suc n) l ≡ chosen f n l ++ pick (f n) (part (step_bytes * n) step_bytes l) []
unfolding chosen chunks
chosen-suc f n l = refl

pub counted_none : (f : ℕ → Bool) → counted f 0 ≡ 0
unfolding counted
counted_none f = refl

pub counted-suc : (f : ℕ → Bool) (n : ℕ) → counted f (suc n) ≡ counted f n + pick (f n) 1 0
unfolding counted
counted-suc f n = refl

pub counted-few : (f : ℕ → Bool) (n : ℕ) → counted f n ≤ n
unfolding counted
counted-few f zero = omega arith
counted-few f (suc n) = go (f n) (counted-few f n)
  where
    go : (c : Bool) → counted f n ≤ n → counted f n + pick c 1 0 ≤ suc n
    go true h = omega arith
    go false h = omega arith

pub length-chosen : (f : ℕ → Bool) (l : List ℕ) (n : ℕ) → step_bytes * n ≤ length l → length (chosen f n l) ≡ step_bytes * counted f n
length-chosen f l zero h = rw (chosen_none f l, counted_none f)
length-chosen f l (suc n) h =
    let p : List ℕ = part (step_bytes * n) step_bytes l in
    let q : length p ≡ step_bytes = length_part (step_bytes * n) step_bytes l (omega arith) in
    rw (chosen-suc f n l, counted-suc f n, length-append (chosen f n l) (pick (f n) p [])) (go (f n) p q (length-chosen f l n (omega arith)))
  where
    go : (c : Bool) (p : List ℕ) → length p ≡ step_bytes → length (chosen f n l) ≡ step_bytes * counted f n
        → length (chosen f n l) + length (pick c p []) ≡ step_bytes * (counted f n + pick c 1 0)
    go true p q e = omega arith
    go false p q e = omega arith

-- of a list that is g 0, g 1, .., each eight bytes
pub chosen-chunks : (f : ℕ → Bool) (g : ℕ → List ℕ) → ((i : ℕ) → length (g i) ≡ step_bytes) → (n : ℕ) → chosen f n (chunks n g) ≡ chunks n (λ i. pick (f i) (g i) [])
unfolding chosen
chosen-chunks f g wide n =
    chunks-same n (λ i. pick (f i) (part (step_bytes * i) step_bytes (chunks n g)) []) (λ i. pick (f i) (g i) []) (λ i h. ap (λ (x : List ℕ). pick (f i) x []) (part-chunks step_bytes g wide n i h))
