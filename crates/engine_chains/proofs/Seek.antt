-- Lists whose entries have rising numbers: what is found by a number, where one is appended and where one goes.
use Prim.Native.Nat.{ℕ, suc, ◌+◌, ◌≤◌, ◌<◌}
use mathlib.Core.Bool.{Bool, true, false, true≢false}
use mathlib.Core.Path.{◌≡◌, refl, sym, ◌∙◌}
use mathlib.Core.List.{List, [], ◌∷◌, ◌++◌}
use mathlib.Core.Logic.{◌≢◌}
use native.Mathlib.Omega.{arith}
use lib.Dec.{eqb}
use lib.ListN.{length}
use borrow.Author.Tests.{eqb-true, ne_eqb}
use Rattle.octets.specs.Bytes.{pick}
use Rattle.octets.specs.Table.{updated}
use Rattle.octets.proofs.Tables.{updated-view}
use Rattle.octets.proofs.Tests.{pick-view, pick-both}

module _ {A : Type 0} (number : A → ℕ) where
  -- rising from k on, below m
  pub data Rising (m : ℕ) : ℕ → List A → Type 0 where
    no_more : {k : ℕ} → k ≤ m → Rising m k []
    one_more : {k : ℕ} {q : A} {qs : List A} → k ≤ number q → Rising m (suc (number q)) qs → Rising m k (q ∷ qs)

  -- without the first that has number n
  unfoldable pub without : ℕ → List A → List A
  without n [] = []
  without n (q ∷ qs) = pick (eqb (number q) n) qs (q ∷ without n qs)

  pub rising-from : {m k : ℕ} {qs : List A} (j : ℕ) → j ≤ k → Rising m k qs → Rising m j qs
  rising-from {m} {k} j h (no_more g) = no_more {k = j} (omega arith)
  rising-from {m} {k} j h (one_more {q = q} g n) = one_more {k = j} {q = q} (omega arith) n

  pub rising-last : {m k : ℕ} {qs : List A} → Rising m k qs → k ≤ m
  rising-last (no_more g) = g
  rising-last (one_more {q = q} g r) = omega (arith, rising-last r)

  pub rising-append : {m k : ℕ} {qs : List A} (q : A) → number q ≡ m → Rising m k qs → Rising (m + 1) k (qs ++ (q ∷ []))
  rising-append {m} {k} q e (no_more g) = one_more {k = k} {q = q} (omega arith) (no_more {k = suc (number q)} (omega arith))
  rising-append q e (one_more g n) = one_more g (rising-append q e n)

  pub rising-without : {m k : ℕ} {qs : List A} (n : ℕ) → Rising m k qs → Rising m k (without n qs)
  unfolding without
  rising-without n (no_more g) = no_more g
  rising-without {m} {k} n (one_more {q = q} {qs = qs} g h) =
      pick-view (Rising m k) (eqb (number q) n) qs (q ∷ without n qs) (λ e. rising-from k (omega arith) h) (λ e. one_more g (rising-without n h))

  module _ {B : Type 0} (f : A → B) (d : B) where
    -- f of the first that has number n, or d
    unfoldable pub seek : ℕ → List A → B
    seek n [] = d
    seek n (q ∷ qs) = pick (eqb (number q) n) (f q) (seek n qs)

    seek-below : {m k : ℕ} {qs : List A} (n : ℕ) → n < k → Rising m k qs → seek n qs ≡ d
    unfolding seek
    seek-below n h (no_more g) = refl
    seek-below n h (one_more {q = q} {qs = qs} g r) =
        pick-view (λ z. z ≡ d) (eqb (number q) n) (f q) (seek n qs) (λ e. let i : number q ≡ n = eqb-true (number q) n e in absurd (omega arith)) (λ e. seek-below n (omega arith) r)

    gone-here : {m k : ℕ} {qs : List A} (n : ℕ) → Rising m k qs → seek n (without n qs) ≡ d
    unfolding seek without
    gone-here n (no_more g) = refl
    gone-here n (one_more {q = q} {qs = qs} g r) =
        pick-view (λ z. seek n z ≡ d) (eqb (number q) n) qs (q ∷ without n qs)
        (λ e. let i : number q ≡ n = eqb-true (number q) n e in seek-below n (omega arith) r)
        (λ e. rw e (gone-here n r))

    gone-else : (n j : ℕ) → n ≢ j → (qs : List A) → seek j (without n qs) ≡ seek j qs
    unfolding seek without
    gone-else n j o [] = refl
    gone-else n j o (q ∷ qs) =
        pick-view (λ z. seek j z ≡ pick (eqb (number q) j) (f q) (seek j qs)) (eqb (number q) n) qs (q ∷ without n qs)
        (λ e. let i : number q ≡ n = eqb-true (number q) n e in rw (ne_eqb (number q) j (λ p. o (sym i ∙ p))))
        (λ e. pick-both (λ (x z : B). x ≡ z) (eqb (number q) j) (eqb (number q) j) refl (f q) (seek j (without n qs)) (f q) (seek j qs) (λ e. refl) (λ e. gone-else n j o qs))

    -- one gone
    pub seek-without : {m k : ℕ} {qs : List A} (n : ℕ) → Rising m k qs → (j : ℕ) → seek j (without n qs) ≡ updated (λ j. seek j qs) n d j
    seek-without {qs = qs} n r = updated-view (λ j z. seek j (without n qs) ≡ z) (λ j. seek j qs) n d (gone-here n r) (λ j o. gone-else n j o qs)

    -- one more, with the next number
    pub seek-append : {m k : ℕ} {qs : List A} (x : A) → number x ≡ m → Rising m k qs → (j : ℕ) → seek j (qs ++ (x ∷ [])) ≡ updated (λ j. seek j qs) m (f x) j
    unfolding seek updated
    seek-append {m} x e (no_more g) j = rw e
    seek-append {m} x e (one_more {q = q} {qs = qs} g r) j = go (eqb (number q) j) refl (seek-append x e r j)
      where
        go : (c : Bool) → eqb (number q) j ≡ c → seek j (qs ++ (x ∷ [])) ≡ pick (eqb m j) (f x) (seek j qs)
            → pick c (f q) (seek j (qs ++ (x ∷ []))) ≡ pick (eqb m j) (f x) (pick c (f q) (seek j qs))
        go true i h = let p : number q ≡ j = eqb-true (number q) j i in let s = rising-last r in rw (ne_eqb m j (λ z. omega arith))
        go false i h = h

  -- one less, where one has the number
  pub length_without : (n : ℕ) (qs : List A) → seek (λ q. false) true n qs ≡ false → length (without n qs) + 1 ≡ length qs
  unfolding seek without
  length_without n [] e = absurd (true≢false e)
  length_without n (q ∷ qs) e = go (eqb (number q) n) e (length_without n qs)
    where
      go : (c : Bool) → pick c false (seek (λ q. false) true n qs) ≡ false → (seek (λ q. false) true n qs ≡ false → length (without n qs) + 1 ≡ length qs)
          → length (pick c qs (q ∷ without n qs)) + 1 ≡ length (q ∷ qs)
      go true i h = omega arith
      go false i h = omega (arith, h i)
