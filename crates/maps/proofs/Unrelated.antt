-- Laws of comparing: whether some take has unrelated marks in two maps, and what else one comparison of two marks says.
use Prim.Native.Nat.{ℕ, suc, ◌+◌, ◌-◌, ◌≤◌, ◌<◌}
use mathlib.Core.Bool.{Bool, true, false}
use mathlib.Core.Path.{◌≡◌, refl, sym, ap, ◌∙◌, subst}
use mathlib.Core.Logic.{⊎_elim, ◌↔◌}
use native.Mathlib.Omega.{arith}
use Rattle.octets.specs.Bytes.{pick, ◌and◌, ◌or◌, any}
use Rattle.octets.proofs.Zero.{any_at, any-off, any_same, any-first}
use Rattle.marks.specs.declared.History.{History}
use Rattle.marks.specs.declared.Relation.{Relation}
use Rattle.marks.specs.declared.Relation.TheVariants.{Same}
use Rattle.marks.specs.History.{incarnation_of}
use Rattle.marks.specs.Relation.{turned, relation_of, is_left_superseded, is_unrelated}
use Rattle.marks.proofs.Histories.{newer-which}
use Rattle.marks.proofs.Related.{superseded-reads, relation-turned}
use Rattle.maps.specs.declared.DependenceMap.{DependenceMap}
use Rattle.maps.specs.Map.{held_at, history_at, join_of, superseded_entry, unrelated_entry, unrelated_at, any_unrelated, Joined, both, left, right, neither}
use Rattle.maps.specs.Internal.Comparing.{relation_entry}
use Rattle.maps.proofs.Map.{join-view}

-- ---- one entry: each test is a reading of one comparison

module _ (p : Bool) (x : History) (q : Bool) (y : History) where
  pub superseded-left : superseded_entry p x q y ≡ is_left_superseded (relation_entry p x q y)
  unfolding superseded_entry relation_entry
  superseded-left = rw (superseded-reads (incarnation_of x) (incarnation_of y)) (go p q (relation_of (incarnation_of x) (incarnation_of y)))
    where
      go : (p q : Bool) (r : Relation) → p and q and is_left_superseded r ≡ is_left_superseded (pick (p and q) r Same)
      go true true r = refl
      go true false r = refl
      go false q r = refl

  pub superseded-right : superseded_entry q y p x ≡ is_left_superseded (turned (relation_entry p x q y))
  unfolding superseded_entry relation_entry
  superseded-right = rw (superseded-reads (incarnation_of y) (incarnation_of x), relation-turned (incarnation_of x) (incarnation_of y)) (go p q (relation_of (incarnation_of x) (incarnation_of y)))
    where
      go : (p q : Bool) (r : Relation) → q and p and is_left_superseded (turned r) ≡ is_left_superseded (turned (pick (p and q) r Same))
      go true true r = refl
      go true false r = refl
      go false true r = refl
      go false false r = refl

  pub unrelated-reads : unrelated_entry p x q y ≡ is_unrelated (relation_entry p x q y)
  unfolding unrelated_entry relation_entry
  unrelated-reads = go p q (relation_of (incarnation_of x) (incarnation_of y))
    where
      go : (p q : Bool) (r : Relation) → p and q and is_unrelated r ≡ is_unrelated (pick (p and q) r Same)
      go true true r = refl
      go true false r = refl
      go false q r = refl

-- ---- a take whose marks are related in two maps

pub related-at : (a b : DependenceMap) (i : ℕ)
    → (held_at a i ≡ true → held_at b i ≡ true → is_unrelated (relation_of (incarnation_of (history_at a i)) (incarnation_of (history_at b i))) ≡ false)
    → unrelated_at a b i ≡ false
unfolding unrelated_at unrelated_entry
related-at a b i f = go (held_at a i) (held_at b i) (is_unrelated (relation_of (incarnation_of (history_at a i)) (incarnation_of (history_at b i)))) f
  where
    go : (p q r : Bool) → (p ≡ true → q ≡ true → r ≡ false) → p and q and r ≡ false
    go true true r f = f refl refl
    go true false r f = refl
    go false q r f = refl

-- a mark of a join is one of the two, so what is related to both is related to it
pub related-join : (n : ℕ) (m a b : DependenceMap) (i : ℕ) → i < n → unrelated_at m a i ≡ false → unrelated_at m b i ≡ false → unrelated_at m (join_of n a b) i ≡ false
unfolding unrelated_at
related-join n m a b i h e f = go (held_at m i) (history_at m i) e f (join-view n a b i h)
  where
    go : (c : Bool) (z : History) {p q r : Bool} {x y w : History} → unrelated_entry c z p x ≡ false → unrelated_entry c z q y ≡ false → Joined p x q y r w → unrelated_entry c z r w ≡ false
    go c z {x = x} {y = y} e f (both s t v) = ⊎_elim
        (λ k. subst (λ (w : History). unrelated_entry c z true w ≡ false) (sym k) (subst (λ (r : Bool). unrelated_entry c z r x ≡ false) s e))
        (λ k. subst (λ (w : History). unrelated_entry c z true w ≡ false) (sym k) (subst (λ (r : Bool). unrelated_entry c z r y ≡ false) t f))
        (newer-which v)
    go c z {x = x} e f (left s t) = subst (λ (r : Bool). unrelated_entry c z r x ≡ false) s e
    go c z {y = y} e f (right s t) = subst (λ (r : Bool). unrelated_entry c z r y ≡ false) t f
    go c z {x = x} e f (neither s t) = subst (λ (r : Bool). unrelated_entry c z r x ≡ false) s e

-- ---- some take: there is one exactly if the answer is yes

module _ (n : ℕ) (a b : DependenceMap) where
  pub unrelated-none : (any_unrelated n a b ≡ false) ↔ ((i : ℕ) → i < n → unrelated_at a b i ≡ false)
  unfolding any_unrelated
  unrelated-none = (λ e i h. any_at (unrelated_at a b) n i e h, any-off (unrelated_at a b) n)

-- ---- entry by entry, from the last to the first: the answer for those from i on

unfoldable pub any_rest : ℕ → DependenceMap → DependenceMap → ℕ → Bool
any_rest n a b i = any (n - i) (λ j. unrelated_at a b (i + j))

module _ (n : ℕ) (a b : DependenceMap) where
  pub any-all : any_unrelated n a b ≡ any_rest n a b 0
  unfolding any_rest any_unrelated
  any-all =
      let e : n - 0 ≡ n = omega arith in
      rw e (any_same (unrelated_at a b) (λ j. unrelated_at a b (0 + j)) n (λ i h. let z : i ≡ 0 + i = omega arith in ap (unrelated_at a b) z))

  -- the answer r from j on, and r' from the entry before it on
  pub any-back : (i j : ℕ) → i + 1 ≡ j → j ≤ n → (t : Bool) → unrelated_at a b i ≡ t → (r r' : Bool)
      → r ≡ any_rest n a b j → r' ≡ t or r → r' ≡ any_rest n a b i
  unfolding any_rest
  any-back i j e h t f r r' k z =
      let p : n - i ≡ suc (n - j) = omega arith in
      let here : i + 0 ≡ i = omega arith in
      z ∙ ap (λ (x : Bool). t or x) k
      ∙ sym (rw p (any-first (λ m. unrelated_at a b (i + m)) (n - j)
      ∙ rw (here, f) (ap (λ (x : Bool). t or x) (any_same (λ m. unrelated_at a b (i + suc m)) (λ m. unrelated_at a b (j + m)) (n - j) (λ m l. let w : i + suc m ≡ j + m = omega arith in ap (unrelated_at a b) w)))))

  pub any-end : (i : ℕ) → i ≡ n → any_rest n a b i ≡ false
  unfolding any_rest any
  any-end i h = let k : n - i ≡ 0 = omega arith in rw k
