-- Who rests on a take through others: what is said step by step is closed, and is what the loop of the least closed volume finds.
use Prim.Native.Nat.{ℕ, zero, suc, ◌^◌, ◌≤◌, ◌<◌}
use mathlib.Core.Bool.{true}
use mathlib.Core.Path.{◌≡◌, refl, sym, ap, ◌∙◌, subst}
use mathlib.Core.List.{List}
use mathlib.Core.Logic.{◌⊎◌, inl, inr, ⊎_elim}
use native.Mathlib.Decide.{ℕ_discrete}
use native.Mathlib.Omega.{arith}
use lib.Dec.{eqb}
use lib.ListN.{get_or}
use borrow.Author.Tests.{eq-eqb, eqb-true}
use Rattle.octets.specs.Bytes.{◌and◌}
use Rattle.octets.proofs.Tests.{same_test, or-to as either, or-of, and-of as together}
use Rattle.octets.proofs.Zero.{both}
use Rattle.rules.specs.State.{State}
use Rattle.rules.specs.Layout.{Layout}
use Rattle.rules.specs.Refusals.{named, group_bits}
use Rattle.rules.specs.Dependents.{rests_at, group_of, through_at}
use Rattle.rules.specs.Internal.Closure.{Closed, Closure}
use Rattle.rules.specs.Internal.Held.{Listed}
use Rattle.rules.proofs.Bits.{named-same}
use Rattle.rules.proofs.Groups.Closure.{inside-at, inside-all}
use Rattle.rules.proofs.Groups.Dependents.{group-names, in_group}

module _ (s : State) where
  -- ---- by its steps

  pub through-split : (k t w : ℕ) → through_at s (suc k) t w ≡ true → (through_at s k t w ≡ true) ⊎ ((through_at s k t k ≡ true) × (through_at s k k w ≡ true))
  unfolding through_at
  through-split k t w e = ⊎_elim (λ q. inl q) (λ q. inr (both (through_at s k t k) (through_at s k k w) q)) (either (through_at s k t w) (through_at s k t k and through_at s k k w) e)

  pub through-first : (t w : ℕ) → through_at s 0 t w ≡ true → (t ≡ w) ⊎ (rests_at s t w ≡ true)
  unfolding through_at
  through-first t w e = ⊎_elim (λ q. inl (eqb-true t w q)) (λ q. inr q) (either (eqb t w) (rests_at s t w) e)

  pub through-more : (k t w : ℕ) → through_at s k t w ≡ true → through_at s (suc k) t w ≡ true
  unfolding through_at
  through-more k t w e = or-of (through_at s k t w) (through_at s k t k and through_at s k k w) (inl e)

  pub through-by : (k t w : ℕ) → through_at s k t k ≡ true → through_at s k k w ≡ true → through_at s (suc k) t w ≡ true
  unfolding through_at
  through-by k t w e f = or-of (through_at s k t w) (through_at s k t k and through_at s k k w) (inr (together (through_at s k t k) (through_at s k k w) e f))

  -- itself
  pub through-self : (k t : ℕ) → through_at s k t t ≡ true
  unfolding through_at
  through-self zero t = or-of (eqb t t) (rests_at s t t) (inl (eq-eqb t t refl))
  through-self (suc k) t = through-more k t t (through-self k t)

  -- who rests on it
  pub through-rests : (k t w : ℕ) → rests_at s t w ≡ true → through_at s k t w ≡ true
  unfolding through_at
  through-rests zero t w e = or-of (eqb t w) (rests_at s t w) (inr e)
  through-rests (suc k) t w e = through-more k t w (through-rests k t w e)

  -- and through any of the first k takes
  pub through-trans : (k t u w : ℕ) → u < k → through_at s k t u ≡ true → through_at s k u w ≡ true → through_at s k t w ≡ true
  through-trans zero t u w h e f = absurd (omega arith)
  through-trans (suc k) t u w h e f = go (ℕ_discrete u k) (through-split k t u e) (through-split k u w f) (λ (l : u < k) (a b : ℕ). through-trans k a u b l)
    where
      go : Dec (u ≡ k) → (through_at s k t u ≡ true) ⊎ ((through_at s k t k ≡ true) × (through_at s k k u ≡ true))
          → (through_at s k u w ≡ true) ⊎ ((through_at s k u k ≡ true) × (through_at s k k w ≡ true))
          → (u < k → (a b : ℕ) → through_at s k a u ≡ true → through_at s k u b ≡ true → through_at s k a b ≡ true) → through_at s (suc k) t w ≡ true
      go (yes i) (inl p) (inl q) r = through-by k t w (subst (λ (x : ℕ). through_at s k t x ≡ true) i p) (subst (λ (x : ℕ). through_at s k x w ≡ true) i q)
      go (yes i) (inl p) (inr q) r = through-by k t w (subst (λ (x : ℕ). through_at s k t x ≡ true) i p) q.1
      go (yes i) (inr p) (inl q) r = through-by k t w p.0 (subst (λ (x : ℕ). through_at s k x w ≡ true) i q)
      go (yes i) (inr p) (inr q) r = through-by k t w p.0 q.1
      go (no n) (inl p) (inl q) r = let l : u < k = omega arith in through-more k t w (r l t w p q)
      go (no n) (inl p) (inr q) r = let l : u < k = omega arith in through-by k t w (r l t k p q.0) q.1
      go (no n) (inr p) (inl q) r = let l : u < k = omega arith in through-by k t w p.0 (r l k w p.1 q)
      go (no n) (inr p) (inr q) r = through-by k t w p.0 q.1

  -- ---- the least closed volume

  module _ (y : Layout) (all : y.transactors ≡ group_bits) {l : List ℕ} (listed : Listed y s y.transactors l) {t g : ℕ} (low : t < group_bits) (fits : g < 2 ^ group_bits) (least : Closure l t g) where
    row : (u : ℕ) → u < group_bits → get_or l u 0 ≡ group_of group_bits (rests_at s u)
    row u h = listed.is u (omega arith) ∙ ap (λ (n : ℕ). group_of n (rests_at s u)) all

    abbrev whole : ℕ
    whole = group_of group_bits (through_at s group_bits t)

    whole-closed : Closed l whole
    unfolding Closed
    whole-closed u h n = inside-all (get_or l u 0) whole (λ x j m.
        let e : rests_at s u x ≡ true = sym (in_group group_bits (rests_at s u) x j) ∙ ap (λ (v : ℕ). named v x) (sym (row u h)) ∙ m in
        let f : through_at s group_bits t u ≡ true = sym (in_group group_bits (through_at s group_bits t) u h) ∙ n in
        in_group group_bits (through_at s group_bits t) x j ∙ through-trans group_bits t u x h f (through-rests group_bits u x e))

    to : (w : ℕ) → w < group_bits → named g w ≡ true → through_at s group_bits t w ≡ true
    to w h n =
        let i = least.least whole (in_group group_bits (through_at s group_bits t) t low ∙ through-self group_bits t) whole-closed in
        sym (in_group group_bits (through_at s group_bits t) w h) ∙ inside-at g whole i w h n

    of : (k : ℕ) → k ≤ group_bits → (u w : ℕ) → u < group_bits → w < group_bits → named g u ≡ true → through_at s k u w ≡ true → named g w ≡ true
    unfolding Closed
    of zero b u w i j n e = ⊎_elim
        (λ (q : u ≡ w). subst (λ (x : ℕ). named g x ≡ true) q n)
        (λ q. inside-at (get_or l u 0) g (least.closed u i n) w j (ap (λ (v : ℕ). named v w) (row u i) ∙ in_group group_bits (rests_at s u) w j ∙ q))
        (through-first u w e)
    of (suc k) b u w i j n e = go (through-split k u w e) (λ (a c : ℕ) (p : a < group_bits) (q : c < group_bits). of k (omega arith) a c p q)
      where
        go : (through_at s k u w ≡ true) ⊎ ((through_at s k u k ≡ true) × (through_at s k k w ≡ true))
            → ((a c : ℕ) → a < group_bits → c < group_bits → named g a ≡ true → through_at s k a c ≡ true → named g c ≡ true) → named g w ≡ true
        go (inl q) r = r u w i j n q
        go (inr q) r = let h : k < group_bits = omega arith in r k w h j (r u k i h n q.0) q.1

    pub closure-through : g ≡ group_of y.transactors (through_at s y.transactors t)
    closure-through =
        subst (λ (n : ℕ). g ≡ group_of n (through_at s n t)) (sym all)
        (named-same group_bits g whole fits (group-names group_bits (through_at s group_bits t)).bits (λ w h.
        same_test (named g w) (through_at s group_bits t w) (to w h) (of group_bits (omega arith) t w low h least.contains)
        ∙ sym (in_group group_bits (through_at s group_bits t) w h)))
