-- The worst window: what pins it down, and the laws of the functions that find it.
use Prim.Native.Nat.{ℕ, zero, suc, ◌+◌, ◌-◌, ◌≤◌, ◌<◌}
use mathlib.Core.Bool.{Bool, true, false}
use mathlib.Core.Path.{◌≡◌, refl, sym, subst, ◌∙◌}
use mathlib.Core.List.{List, []}
use mathlib.Core.Logic.{⊎_elim}
use native.Mathlib.Numerals.{add-one}
use native.Mathlib.Omega.{arith}
use borrow.Author.Tests.{lt-ltb, le-ltb, ltb-true, ltb-false, eq-eqb, ne_eqb}
use lib.Dec.{ltb}
use lib.ListN.{length}
use Rattle.octets.specs.Bytes.{pick}
use Rattle.octets.proofs.Chunks.{sides, cases}
use Rattle.octets.proofs.Tests.{pick-zero}
use Rattle.rules.specs.Calls.{steps_in, longest, wrong_part}
use Rattle.rules.proofs.Refused.{refused}
use Rattle.lists.proofs.Parts.{right-part}
use Rattle.rules.specs.declared.refusals.Refusal.{Refusal}
use Rattle.rules.specs.Numbers.{refusal_number}
use Rattle.window.specs.Window.{Worst, outcome_at, is_rollback, rollback_at, rollbacks, window_length, last_place, window_count, worse_of, worst_up_to, worst, wrong_width, window_refusal, worst_window}

-- ---- windows

module _ (w n : ℕ) where
  -- "A list shorter than w is one window"
  pub length-short : n < w → window_length w n ≡ n
  unfolding window_length
  length-short h = rw (lt-ltb n w h)

  pub length-long : w ≤ n → window_length w n ≡ w
  unfolding window_length
  length-long h = rw (le-ltb n w h)

  pub last-short : n < w → last_place w n ≡ 0
  unfolding last_place
  last-short h = rw (length-short h) (omega arith)

  pub last-long : w ≤ n → last_place w n ≡ n - w
  unfolding last_place
  last-long h = rw (length-long h)

  -- every window of w successive replies has a place, and no other
  pub places-exactly : w ≤ n → (p : ℕ) → (p ≤ last_place w n → p + w ≤ n) × (p + w ≤ n → p ≤ last_place w n)
  places-exactly h p = (λ (l : p ≤ last_place w n). omega (arith, last-long h), λ (l : p + w ≤ n). omega (arith, last-long h))

-- ---- the worst of them

module _ (b : List ℕ) (n : ℕ) where
  -- x is the first of the greatest counts of the windows at places 0 to k
  pub record FirstGreatest (k : ℕ) (x : Worst) : Type 0 where
    pub within : x.place ≤ k
    pub attained : x.count ≡ rollbacks b x.place n
    pub greatest : (p : ℕ) → p ≤ k → rollbacks b p n ≤ x.count
    pub first : (p : ℕ) → p < x.place → rollbacks b p n < x.count

  up_to-zero : FirstGreatest 0 (worst_up_to b n 0)
  unfolding worst_up_to
  up_to-zero = record {
    within = omega arith;
    attained = refl;
    greatest = λ p h. let e : 0 ≡ p = omega arith in subst (λ (q : ℕ). rollbacks b q n ≤ rollbacks b 0 n) e (omega arith);
    first = λ p h. absurd (omega arith);
  }

  -- one more window
  more : (k : ℕ) (x : Worst) → FirstGreatest k x → FirstGreatest (suc k) (worse_of x (rollbacks b (suc k) n) (suc k))
  unfolding worse_of
  more k x f = go (ltb x.count (rollbacks b (suc k) n)) refl
    where
      here : (m p : ℕ) → p ≤ suc k → ((q : ℕ) → q ≤ k → rollbacks b q n ≤ m) → rollbacks b (suc k) n ≤ m → rollbacks b p n ≤ m
      here m p h g l = ⊎_elim (λ (i : p < suc k). g p (omega arith)) (λ (e : p ≡ suc k). subst (λ (q : ℕ). rollbacks b q n ≤ m) (sym e) l) (cases (suc k) p (omega arith))

      go : (t : Bool) → ltb x.count (rollbacks b (suc k) n) ≡ t → FirstGreatest (suc k) (pick t (record { count = rollbacks b (suc k) n; place = suc k }) x)
      go true e =
          let h : x.count < rollbacks b (suc k) n = ltb-true x.count (rollbacks b (suc k) n) e in
          record {
            within = omega arith;
            attained = refl;
            greatest = λ p i. here (rollbacks b (suc k) n) p i (λ q j. omega (arith, f.greatest q j)) (omega arith);
            first = λ p i. omega (arith, f.greatest p (omega arith));
          }
      go false e =
          let h : rollbacks b (suc k) n ≤ x.count = ltb-false x.count (rollbacks b (suc k) n) e in
          record {
            within = omega (arith, f.within);
            attained = f.attained;
            greatest = λ p i. here x.count p i f.greatest h;
            first = f.first;
          }

  up_to-greatest : (k : ℕ) → FirstGreatest k (worst_up_to b n k)
  unfolding worst_up_to
  up_to-greatest zero = up_to-zero
  up_to-greatest (suc k) = more k (worst_up_to b n k) (up_to-greatest k)

module _ (b : List ℕ) (w : ℕ) where
  -- The place is that of a window, and the count is its own; no window has a greater count, and no earlier one as great a one.
  pub worst-place : (worst b w).place ≤ last_place w (steps_in b)
  unfolding worst
  worst-place = (up_to-greatest b (window_length w (steps_in b)) (last_place w (steps_in b))).within

  pub worst-attained : (worst b w).count ≡ window_count b w (worst b w).place
  unfolding worst
  worst-attained = (up_to-greatest b (window_length w (steps_in b)) (last_place w (steps_in b))).attained

  pub worst-greatest : (p : ℕ) → p ≤ last_place w (steps_in b) → window_count b w p ≤ (worst b w).count
  unfolding worst
  worst-greatest = (up_to-greatest b (window_length w (steps_in b)) (last_place w (steps_in b))).greatest

  pub worst-first : (p : ℕ) → p < (worst b w).place → window_count b w p < (worst b w).count
  unfolding worst
  worst-first = (up_to-greatest b (window_length w (steps_in b)) (last_place w (steps_in b))).first

  -- These four facts leave no other answer.
  pub worst-unique : (x : Worst) → x.place ≤ last_place w (steps_in b) → x.count ≡ window_count b w x.place
      → ((p : ℕ) → p ≤ last_place w (steps_in b) → window_count b w p ≤ x.count)
      → ((p : ℕ) → p < x.place → window_count b w p < x.count)
      → x ≡ worst b w
  worst-unique x l a g f =
      let n : x.count ≡ (worst b w).count = omega (arith, worst-greatest x.place l, g (worst b w).place worst-place, worst-attained) in
      let p : x.place ≡ (worst b w).place = same x.place (worst b w).place
      (λ (h : x.place < (worst b w).place). omega (arith, worst-first x.place h))
      (λ (h : (worst b w).place < x.place). omega (arith, f (worst b w).place h, worst-attained)) in
      λ i. record { count = n i; place = p i }
    where
      same : (i j : ℕ) → (i < j → ⊥) → (j < i → ⊥) → i ≡ j
      same i j m k = ⊎_elim (λ (h : i < j). absurd (m h)) (λ (h : j ≤ i). ⊎_elim (λ (q : j < i). absurd (k q)) (λ (q : i ≤ j). omega arith) (sides j i)) (sides i j)

-- ---- a reply

rollback-most : (b : List ℕ) (i : ℕ) → rollback_at b i ≤ 1
unfolding rollback_at
rollback-most b i = go (is_rollback (outcome_at b i))
  where
    go : (t : Bool) → pick t 1 0 ≤ 1
    go true = omega arith
    go false = omega arith

-- ---- the count moves along

rollbacks-most : (b : List ℕ) (p n : ℕ) → rollbacks b p n ≤ n
unfolding rollbacks
rollbacks-most b p zero = omega arith
rollbacks-most b p (suc n) = omega (arith, rollbacks-most b p n, rollback-most b (p + n))

pub rollbacks-sum : (b : List ℕ) (p q n c t : ℕ) → c ≡ rollbacks b p n → t ≡ rollback_at b q → c + t ≤ n + 1
rollbacks-sum b p q n c t e f = omega (arith, rollbacks-most b p n, rollback-most b q)

pub rollbacks-none : (b : List ℕ) (p : ℕ) → 0 ≡ rollbacks b p 0
unfolding rollbacks
rollbacks-none b p = refl

pub rollbacks-more : (b : List ℕ) (n c t : ℕ) → c ≡ rollbacks b 0 n → t ≡ rollback_at b n → c + t ≡ rollbacks b 0 (n + 1)
unfolding rollbacks
rollbacks-more b n c t e f = let z : 0 + n ≡ n = omega arith in rw (add-one, e, f, z)

-- what comes in, and what goes out
turn : (b : List ℕ) (p n : ℕ) → rollbacks b p n + rollback_at b (p + n) ≡ rollback_at b p + rollbacks b (p + 1) n
unfolding rollbacks
turn b p zero = let e : p + 0 ≡ p = omega arith in rw e (omega arith)
turn b p (suc n) =
    let e : p + suc n ≡ p + 1 + n = omega arith in
    let f = turn b p n in
    rw e (omega arith)

-- so the count that moves along is the fresh one
pub rollbacks-moved : (b : List ℕ) (p n c i o : ℕ) → c ≡ rollbacks b p n → i ≡ rollback_at b (p + n) → o ≡ rollback_at b p → c + i - o ≡ rollbacks b (p + 1) n
rollbacks-moved b p n c i o e f g = omega (arith, turn b p n)

pub rollbacks-left : (b : List ℕ) (p n c i o : ℕ) → c ≡ rollbacks b p n → i ≡ rollback_at b (p + n) → o ≡ rollback_at b p → o ≤ c + i
rollbacks-left b p n c i o e f g = omega (arith, turn b p n)

-- ---- the worst so far

pub up_to-first : (b : List ℕ) (n c : ℕ) → c ≡ rollbacks b 0 n → record { count = c; place = 0 } ≡ worst_up_to b n 0
unfolding worst_up_to
up_to-first b n c e = rw e

pub up_to-more : (b : List ℕ) (n k c : ℕ) (x : Worst) (z : Worst) → x ≡ worst_up_to b n k → c ≡ rollbacks b (k + 1) n → z ≡ worse_of x c (k + 1) → z ≡ worst_up_to b n (k + 1)
unfolding worst_up_to
up_to-more b n k c x z e f g = g ∙ rw (e, f, add-one)

-- ---- the call

module _ (b : List ℕ) (w : ℕ) where
  pub worst-refused : (r : Refusal) → refusal_number r ≡ window_refusal b w → record { count = 0; place = 0 } ≡ worst_window b w
  unfolding worst_window
  worst-refused r e = rw (ne_eqb (window_refusal b w) 0 (λ (z : window_refusal b w ≡ 0). refused r (e ∙ z)))

  module _ (accepted : 0 ≡ window_refusal b w) where
    -- an accepted list is no longer than it may be
    pub accepted-short : length b ≤ longest
    unfolding window_refusal
    accepted-short =
        let a = (pick-zero (wrong_part b 0 (length b)) 17 (pick (wrong_width w) 35 0) (omega arith) (sym accepted)).0 in
        omega (arith, (right-part b 0 (length b) a).short)

    pub worst-windows : (m : ℕ) → m ≡ window_length w (steps_in b) → (x : Worst) → x ≡ worst_up_to b m (steps_in b - m) → x ≡ worst_window b w
    unfolding worst_window worst last_place
    worst-windows m h x e = rw (eq-eqb (window_refusal b w) 0 (sym accepted), ← h) e

-- "An empty list gives count 0 at place 0."
empty-length : (w : ℕ) → window_length w 0 ≡ 0
unfolding window_length
empty-length zero = refl
empty-length (suc w) = rw (lt-ltb 0 (suc w) (omega arith)) refl

pub worst-empty : (w : ℕ) → worst [] w ≡ record { count = 0; place = 0 }
unfolding worst last_place worst_up_to rollbacks
worst-empty w = rw (empty-length w) refl
