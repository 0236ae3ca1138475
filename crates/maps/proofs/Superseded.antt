-- Laws of comparing: the first take of which one map's mark is stale by the other's.
use Prim.Native.Nat.{ℕ, zero, suc, ◌+◌, ◌≤◌, ◌<◌}
use mathlib.Core.Bool.{Bool, true, false, false≢true}
use mathlib.Core.Path.{◌≡◌, refl, sym, ◌∙◌, subst}
use mathlib.Core.Option.{Option, none, some}
use mathlib.Core.Logic.{⊎_elim, ◌↔◌}
use native.Mathlib.Omega.{arith}
use Rattle.octets.specs.Bytes.{pick, ◌and◌}
use Rattle.octets.proofs.Chunks.{sides}
use Rattle.octets.proofs.Zero.{both}
use Rattle.marks.specs.History.{incarnation_of}
use Rattle.marks.specs.Incarnation.{superseded_by, Superseded}
use Rattle.marks.proofs.Tests.{superseded-test}
use Rattle.maps.specs.declared.DependenceMap.{DependenceMap}
use Rattle.maps.specs.Map.{held_at, history_at, superseded_entry, superseded_at, first_from, first_superseded}

-- ---- one entry: both maps hold it, and the left one's life is stale by the right one's

pub superseded_at-test : (a b : DependenceMap) (i : ℕ) → (superseded_at a b i ≡ true)
    ↔ ((held_at a i ≡ true) × (held_at b i ≡ true) × Superseded (incarnation_of (history_at a i)) (incarnation_of (history_at b i)))
unfolding superseded_at superseded_entry
superseded_at-test a b i = (to, of)
  where
    stale : Bool
    stale = superseded_by (incarnation_of (history_at a i)) (incarnation_of (history_at b i))

    to : held_at a i and held_at b i and stale ≡ true
        → (held_at a i ≡ true) × (held_at b i ≡ true) × Superseded (incarnation_of (history_at a i)) (incarnation_of (history_at b i))
    to e =
        let p = both (held_at a i) (held_at b i and stale) e in
        let q = both (held_at b i) stale p.1 in
        (p.0, q.0, (superseded-test (incarnation_of (history_at a i)) (incarnation_of (history_at b i))).0 q.1)

    of : (held_at a i ≡ true) × (held_at b i ≡ true) × Superseded (incarnation_of (history_at a i)) (incarnation_of (history_at b i))
        → held_at a i and held_at b i and stale ≡ true
    of h = rw (h.0, h.1) ((superseded-test (incarnation_of (history_at a i)) (incarnation_of (history_at b i))).1 h.2)

-- ---- the first of n numbers from k on at which f holds

pub data First (f : ℕ → Bool) (k n : ℕ) : Option ℕ → Type 0 where
  found : (i : ℕ) → k ≤ i → i < k + n → f i ≡ true → ((j : ℕ) → k ≤ j → j < i → f j ≡ false) → First f k n (some i)
  nowhere : ((j : ℕ) → k ≤ j → j < k + n → f j ≡ false) → First f k n none

-- what holds at k and at each of the next ones
from : (f : ℕ → Bool) (k e : ℕ) → f k ≡ false → ((j : ℕ) → suc k ≤ j → j < e → f j ≡ false) → (j : ℕ) → k ≤ j → j < e → f j ≡ false
from f k e z g j h l = ⊎_elim
    (λ (p : k < j). g j p l)
    (λ (p : j ≤ k). let q : k ≡ j = omega arith in subst (λ (x : ℕ). f x ≡ false) q z)
    (sides k j)

pub first-view : (f : ℕ → Bool) (k n : ℕ) → First f k n (first_from f k n)
unfolding first_from
first-view f k zero = nowhere (λ j h l. absurd (omega arith))
first-view f k (suc n) = go (f k) refl (first-view f (suc k) n)
  where
    later : {o : Option ℕ} → f k ≡ false → First f (suc k) n o → First f k (suc n) o
    later z (found i h l e g) = found i (omega arith) (omega arith) e (from f k i z g)
    later z (nowhere g) = nowhere (λ j h l. from f k (suc k + n) z g j h (omega arith))

    go : (t : Bool) → f k ≡ t → First f (suc k) n (first_from f (suc k) n) → First f k (suc n) (pick t (some k) (first_from f (suc k) n))
    go true e v = found k (omega arith) (omega arith) e (λ j h l. absurd (omega arith))
    go false e v = later e v

-- there is only one
first-same : {f : ℕ → Bool} {k n : ℕ} {o p : Option ℕ} → First f k n o → First f k n p → o ≡ p
first-same {f} {k} {n} (found i h l e g) (found i' h' l' e' g') = ⊎_elim
    (λ (p : i < i'). clash (g' i h p) e)
    (λ (p : i' ≤ i). ⊎_elim (λ (q : i' < i). clash (g i' h' q) e') (λ (q : i ≤ i'). let r : i ≡ i' = omega arith in cc) (sides i' i))
    (sides i i')
  where
    clash : {j : ℕ} {o p : Option ℕ} → f j ≡ false → f j ≡ true → o ≡ p
    clash a b = absurd (false≢true (sym a ∙ b))
first-same (found i h l e g) (nowhere g') = absurd (false≢true (sym (g' i h l) ∙ e))
first-same (nowhere g) (found i h l e g') = absurd (false≢true (sym (g i h l) ∙ e))
first-same (nowhere g) (nowhere g') = refl

-- ---- the comparison: the least superseded entry, or none exactly if there is none

module _ (n : ℕ) (a b : DependenceMap) where
  pub superseded-view : First (superseded_at a b) 0 n (first_superseded n a b)
  unfolding first_superseded
  superseded-view = first-view (superseded_at a b) 0 n

  pub superseded-first : (i : ℕ) → (first_superseded n a b ≡ some i)
      ↔ ((i < n) × (superseded_at a b i ≡ true) × ((j : ℕ) → j < i → superseded_at a b j ≡ false))
  superseded-first i = (λ e. to (subst (First (superseded_at a b) 0 n) e superseded-view), of)
    where
      to : First (superseded_at a b) 0 n (some i) → (i < n) × (superseded_at a b i ≡ true) × ((j : ℕ) → j < i → superseded_at a b j ≡ false)
      to (found i h l e g) = (omega arith, e, λ j p. g j (omega arith) p)

      of : (i < n) × (superseded_at a b i ≡ true) × ((j : ℕ) → j < i → superseded_at a b j ≡ false) → first_superseded n a b ≡ some i
      of h = first-same superseded-view (found i (omega arith) (omega arith) h.1 (λ j k l. h.2 j l))

  pub superseded-none : (first_superseded n a b ≡ none) ↔ ((i : ℕ) → i < n → superseded_at a b i ≡ false)
  superseded-none = (λ e. to (subst (First (superseded_at a b) 0 n) e superseded-view), of)
    where
      to : First (superseded_at a b) 0 n none → (i : ℕ) → i < n → superseded_at a b i ≡ false
      to (nowhere g) i h = g i (omega arith) (omega arith)

      of : ((i : ℕ) → i < n → superseded_at a b i ≡ false) → first_superseded n a b ≡ none
      of h = first-same superseded-view (nowhere (λ j k l. h j (omega arith)))
