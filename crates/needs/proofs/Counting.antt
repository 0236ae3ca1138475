-- The volumes that have what they need, counted from that of all able takes down.
use Prim.Native.Nat.{ℕ, zero, suc, ◌+◌, ◌-◌, ◌*◌, ◌/◌, ◌%◌, ◌^◌, ◌≤◌, ◌<◌}
use mathlib.Core.Bool.{Bool, true, false}
use mathlib.Core.Path.{◌≡◌, refl, sym, ap, ◌∙◌, subst}
use mathlib.Core.List.{List}
use mathlib.Core.Logic.{⊎_elim}
use native.Mathlib.Nat.{pow-succ', zero-add}
use native.Mathlib.Omega.{arith}
use borrow.Author.Tests.{eq-eqb, ne_eqb}
use lib.Bits.{bit_and, and_le_l, and_le_r, and_comm, and_mask, and_mod, and_self, and_shr}
use lib.Count.{ones, ones-le}
use lib.Dec.{eqb}
use Rattle.octets.specs.Bytes.{◌and◌}
use Rattle.octets.specs.Numbers.{bound}
use Rattle.octets.proofs.Chunks.{sides}
use Rattle.octets.proofs.Tests.{and-false}
use Rattle.rules.specs.Refusals.{group_bits, named}
use Rattle.rules.specs.ReadyGroups.{how_many, size_of}
use Rattle.rules.specs.Internal.Closure.{inside, meets, met_count}
use Rattle.rules.proofs.Bits.{named-same, named-and, inside-and}
use Rattle.rules.proofs.Groups.Counting.{many-on, many-off, many-le, size-ones}

-- ---- the volumes inside v, from one down to the next

module _ (v x : ℕ) (a : bit_and x v ≡ x) where
  half : bit_and (x / 2) (v / 2) ≡ x / 2
  half = sym (and_shr x v 1) ∙ ap (λ (y : ℕ). y / 2) a

  low : x % 2 ≤ v % 2
  low = let e : x % 2 ≡ bit_and (x % 2) (v % 2) = sym (ap (λ (y : ℕ). y % 2) a) ∙ and_mod x v 1 in omega (arith, e, and_le_r (x % 2) (v % 2))

below_next : (k v g w : ℕ) → g < 2 ^ k → bit_and g v ≡ g → bit_and w v ≡ w → w < g → w ≤ bit_and (g - 1) v
below_next zero v g w fits a b h = absurd (omega arith)
below_next (suc k) v g w fits a b h =
    let two : 2 ^ suc k ≡ 2 * 2 ^ k = pow-succ' 2 k in
    ⊎_elim
    (λ (p : g % 2 < 1). even p (below_next k (v / 2) (g / 2) (w / 2) (omega (arith, two)) (half v g a) (half v w b) (omega arith)))
    odd
    (sides (g % 2) 1)
  where
    halved : bit_and (g - 1) v / 2 ≡ bit_and ((g - 1) / 2) (v / 2)
    halved = and_shr (g - 1) v 1

    even : g % 2 < 1 → w / 2 ≤ bit_and (g / 2 - 1) (v / 2) → w ≤ bit_and (g - 1) v
    even p i =
        let s : (g - 1) / 2 ≡ g / 2 - 1 = omega arith in
        let q : bit_and (g - 1) v / 2 ≡ bit_and (g / 2 - 1) (v / 2) = halved ∙ ap (λ (x : ℕ). bit_and x (v / 2)) s in
        let one : (g - 1) % 2 ≡ 1 = omega arith in
        let last : v % 2 % 2 ≡ v % 2 = omega arith in
        let r : bit_and (g - 1) v % 2 ≡ v % 2 = and_mod (g - 1) v 1 ∙ ap (λ (x : ℕ). bit_and x (v % 2)) one ∙ and_comm 1 (v % 2) ∙ and_mask (v % 2) 1 ∙ last in
        omega (arith, q, r, i, low v w b)

    odd : 1 ≤ g % 2 → w ≤ bit_and (g - 1) v
    odd p =
        let s : (g - 1) / 2 ≡ g / 2 = omega arith in
        let q : bit_and (g - 1) v / 2 ≡ g / 2 = halved ∙ ap (λ (x : ℕ). bit_and x (v / 2)) s ∙ half v g a in
        omega (arith, q)

and-twice : (x v : ℕ) → x < 2 ^ group_bits → bit_and (bit_and x v) v ≡ bit_and x v
and-twice x v h = named-same group_bits (bit_and (bit_and x v) v) (bit_and x v) (omega (arith, and_le_l x v, and_le_l (bit_and x v) v)) (omega (arith, and_le_l x v))
    (λ t k. named-and (bit_and x v) v t ∙ rw (named-and x v t) (again (named x t) (named v t)))
  where
    again : (p q : Bool) → (p and q) and q ≡ p and q
    again true true = refl
    again true false = refl
    again false q = refl

-- where nothing is counted
many-gap : (f : ℕ → Bool) (a b : ℕ) → a ≤ b → ((i : ℕ) → a ≤ i → i < b → f i ≡ false) → how_many a f ≡ how_many b f
many-gap f a zero h off = ap (λ (k : ℕ). how_many k f) (omega arith)
many-gap f a (suc b) h off = ⊎_elim
    (λ (p : a < suc b). let e : b + 1 ≡ suc b = omega arith in
    subst (λ (k : ℕ). how_many a f ≡ how_many k f) e
    (many-off f b (how_many a f) (many-gap f a b (omega arith) (λ i (p : a ≤ i) (q : i < b). off i p (omega arith))) (off b (omega arith) (omega arith))))
    (λ (p : suc b ≤ a). ap (λ (k : ℕ). how_many k f) (omega arith))
    (sides a (suc b))

-- volume w is counted
unfoldable pub counts : List ℕ → ℕ → ℕ → ℕ → Bool
counts l v size w = eqb (size_of w) size and meets l v w

-- of the volumes above g n are, and g names takes of v alone
pub record Counted (l : List ℕ) (v size g n : ℕ) : Type 0 where
  pub within : bit_and g v ≡ g
  pub is : n + how_many (g + 1) (counts l v size) ≡ met_count l v size

module _ (l : List ℕ) (v size : ℕ) where
  -- one that names others is not counted
  outside : (w : ℕ) → w < 2 ^ group_bits → (bit_and w v ≡ w → ⊥) → counts l v size w ≡ false
  unfolding counts meets
  outside w fits o =
      let e : inside w v ≡ false = sym (inside-and w v fits) ∙ ne_eqb (bit_and w v) w o in
      rw e (and-false (eqb (size_of w) size))

  pub counted_none : v < 2 ^ group_bits → Counted l v size v 0
  unfolding met_count counts bound
  counted_none fits = record {
    within = and_self v;
    is = zero-add (how_many (v + 1) (counts l v size)) ∙ many-gap (counts l v size) (v + 1) (2 ^ group_bits) (omega arith) (λ i (p : v + 1 ≤ i) (q : i < 2 ^ group_bits). outside i q (λ e. omega (arith, e, and_le_r i v)));
  }

module _ {l : List ℕ} {v size g n : ℕ} (counted : Counted l v size g n) where
  pub counted-few : n ≤ 2 ^ group_bits
  unfolding met_count bound
  counted-few = omega (arith, counted.is, many-le (λ w. eqb (size_of w) size and meets l v w) (2 ^ group_bits))

  -- volume 0 names none
  pub counted-end : g ≡ 0 → 0 < size → n ≡ met_count l v size
  unfolding counts how_many
  counted-end e h =
      let z : size_of 0 ≡ 0 = sym (size-ones 0 (omega arith)) ∙ omega (arith, ones-le 0 0 (omega arith)) in
      let off : counts l v size 0 ≡ false = rw (ne_eqb (size_of 0) size (λ q. omega (arith, z, q))) in
      let none : 0 ≡ how_many 1 (counts l v size) = many-off (counts l v size) 0 0 refl off in
      let one : how_many (g + 1) (counts l v size) ≡ how_many 1 (counts l v size) = ap (λ (k : ℕ). how_many (k + 1) (counts l v size)) e in
      omega (arith, counted.is, none, one)

  module _ (fits : g < 2 ^ group_bits) (some : 0 < g) where
    -- the next one down
    gap : how_many (bit_and (g - 1) v + 1) (counts l v size) ≡ how_many g (counts l v size)
    gap = many-gap (counts l v size) (bit_and (g - 1) v + 1) g (omega (arith, and_le_l (g - 1) v)) (λ i (p : bit_and (g - 1) v + 1 ≤ i) (q : i < g).
        outside l v size i (omega arith) (λ e. let b : i ≤ bit_and (g - 1) v = below_next group_bits v g i fits counted.within e q in omega arith))

    module _ (t : Bool) (e : counts l v size g ≡ t) where
      next : t ≡ false → Counted l v size (bit_and (g - 1) v) n
      next z = record {
        within = and-twice (g - 1) v (omega arith);
        is = omega (arith, counted.is, gap, many-off (counts l v size) g (how_many g (counts l v size)) refl (e ∙ z));
      }

      next_one : t ≡ true → Counted l v size (bit_and (g - 1) v) (n + 1)
      next_one z = record {
        within = and-twice (g - 1) v (omega arith);
        is = omega (arith, counted.is, gap, many-on (counts l v size) g (how_many g (counts l v size)) refl (e ∙ z));
      }

    pub counted-other : (ones g ≡ size → ⊥) → Counted l v size (bit_and (g - 1) v) n
    unfolding counts
    counted-other o = next false (rw (ne_eqb (size_of g) size (λ e. o (size-ones g fits ∙ e)))) refl

    module _ (sized : ones g ≡ size) where
      tested : (b : Bool) → meets l v g ≡ b → counts l v size g ≡ b
      unfolding counts
      tested b e = rw (eq-eqb (size_of g) size (sym (size-ones g fits) ∙ sized)) e

      pub counted-on : meets l v g ≡ true → Counted l v size (bit_and (g - 1) v) (n + 1)
      counted-on e = next_one true (tested true e) refl

      pub counted-off : meets l v g ≡ false → Counted l v size (bit_and (g - 1) v) n
      counted-off e = next false (tested false e) refl
