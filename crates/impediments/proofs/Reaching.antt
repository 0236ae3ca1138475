-- Who rests on each take through others, one take more to pass through at a time.
use Prim.Native.Nat.{ℕ, suc, ◌+◌, ◌^◌, ◌≤◌, ◌<◌}
use mathlib.Core.Bool.{Bool, true, false}
use mathlib.Core.Path.{◌≡◌, refl, sym, ap, ◌∙◌, subst}
use mathlib.Core.List.{List}
use mathlib.Core.Logic.{⊎_elim}
use native.Mathlib.Omega.{arith}
use lib.Bits.{bit_or, or_lt}
use lib.Dec.{eqb}
use lib.ListN.{length, get_or, set, length-set}
use lib.Seq.{get_or-set_same, get_or-set_other}
use Rattle.octets.specs.Bytes.{pick, ◌and◌, ◌or◌}
use Rattle.octets.proofs.Chunks.{sides}
use Rattle.rules.specs.Layout.{Layout}
use Rattle.rules.specs.State.{State}
use Rattle.rules.specs.Refusals.{named}
use Rattle.rules.specs.Dependents.{rests_at, group_of, through_at}
use Rattle.rules.specs.Impediment.{next_at}
use Rattle.rules.specs.Internal.Held.{Listed}
use Rattle.rules.proofs.Bits.{named-or, named-one, one-fits}
use Rattle.rules.proofs.Groups.Dependents.{group-names, names-group, in_group}
use Rattle.impediments.specs.Internal.Ways.{Filled, first_row, itself, wider_row, kept_next, Reached}

-- ---- a list that is filled place by place

pub record Filling (f : ℕ → ℕ) (n u : ℕ) (l : List ℕ) : Type 0 where
  pub within : u ≤ n
  pub long : length l ≡ n
  pub filled : Filled f u l

module _ {f : ℕ → ℕ} {n u : ℕ} {l : List ℕ} (k : Filling f n u l) where
  pub filling-more : u < n → (r : ℕ) → r ≡ f u → Filling f n (u + 1) (set l u r)
  filling-more below r e = record { within = omega arith; long = length-set l u r ∙ k.long; filled = record { is = is } }
    where
      is : (c : ℕ) → c < u + 1 → get_or (set l u r) c 0 ≡ f c
      is c b = ⊎_elim
          (λ (q : c < u). get_or-set_other l u c r 0 (λ z. omega arith) ∙ k.filled.is c q)
          (λ (q : u ≤ c).
          let i : u ≡ c = omega arith in
          subst (λ (x : ℕ). get_or (set l u r) x 0 ≡ f x) i (get_or-set_same l u r 0 (omega (arith, k.long)) ∙ e))
          (sides c u)

-- both lists of the answer
pub record Both (f g : ℕ → ℕ) (n u : ℕ) (l m : List ℕ) : Type 0 where
  pub first : Filling f n u l
  pub second : Filling g n u m

-- ---- the rows

-- two words in one
group-or : (n : ℕ) (f g h : ℕ → Bool) (a b : ℕ) → a ≡ group_of n f → b ≡ group_of n g → ((w : ℕ) → w < n → f w or g w ≡ h w) → bit_or a b ≡ group_of n h
group-or n f g h a b p q e =
    let i = group-names n f in
    let j = group-names n g in
    names-group n h (bit_or a b) (record {
      bits = or_lt n a b (subst (λ (x : ℕ). x < 2 ^ n) (sym p) i.bits) (subst (λ (x : ℕ). x < 2 ^ n) (sym q) j.bits);
      exactly = λ w l. named-or a b w ∙ rw (p, q, i.exactly w l, j.exactly w l) (e w l);
    })

group-same : (n : ℕ) (f h : ℕ → Bool) → ((w : ℕ) → w < n → f w ≡ h w) → group_of n f ≡ group_of n h
group-same n f h e = let i = group-names n f in names-group n h (group_of n f) (record { bits = i.bits; exactly = λ w l. i.exactly w l ∙ e w l })

or_swap : (a b : Bool) → a or b ≡ b or a
or_swap true true = refl
or_swap true false = refl
or_swap false true = refl
or_swap false false = refl

one-group : (n c : ℕ) → c < n → 2 ^ c ≡ group_of n (eqb c)
one-group n c h = names-group n (eqb c) (2 ^ c) (record { bits = one-fits c n h; exactly = λ w l. named-one c w })

pub first-row : (l : List ℕ) (c : ℕ) {row bit : ℕ} → row ≡ get_or l c 0 → bit ≡ 2 ^ c → bit_or row bit ≡ first_row l c
unfolding first_row
first-row l c e f = rw (e, f)

pub wider-row : (rows : List ℕ) (k c : ℕ) {r : ℕ} → r ≡ pick (named (get_or rows c 0) k) (bit_or (get_or rows c 0) (get_or rows k 0)) (get_or rows c 0) → r ≡ wider_row rows k c
unfolding wider_row
wider-row rows k c e = e

pub kept-next : (rows nexts : List ℕ) (t k c : ℕ) {r : ℕ} → r ≡ pick (named (get_or rows c 0) t) (get_or nexts c 0) (get_or nexts k 0) → r ≡ kept_next rows nexts t k c
unfolding kept_next
kept-next rows nexts t k c e = e

module _ {y : Layout} {s : State} where
  pub reached-first : (t : ℕ) {l rows nexts : List ℕ} → Listed y s y.transactors l → Filled (first_row l) y.transactors rows → Filled itself y.transactors nexts → Reached y s 0 t rows nexts
  unfolding first_row through_at next_at
  reached-first t {l} listed f g = record {
    through = record { is = λ c h. f.is c h ∙ group-or y.transactors (rests_at s c) (eqb c) (through_at s 0 c) (get_or l c 0) (2 ^ c) (listed.is c h) (one-group y.transactors c h) (λ w j. or_swap (rests_at s c w) (eqb c w)) };
    next = record { is = λ c h. g.is c h };
  }

  module _ {k t : ℕ} {rows nexts : List ℕ} (before : Reached y s k t rows nexts) (low : k < y.transactors) (there : t < y.transactors) where
    row : (c w : ℕ) → c < y.transactors → w < y.transactors → named (get_or rows c 0) w ≡ through_at s k c w
    row c w h l = ap (λ (x : ℕ). named x w) (before.through.is c h) ∙ in_group y.transactors (through_at s k c) w l

    wider-is : (c : ℕ) → c < y.transactors → wider_row rows k c ≡ group_of y.transactors (through_at s (suc k) c)
    unfolding wider_row through_at
    wider-is c h = rw (row c k h low) (go (through_at s k c k) refl)
      where
        go : (b : Bool) → through_at s k c k ≡ b → pick b (bit_or (get_or rows c 0) (get_or rows k 0)) (get_or rows c 0) ≡ group_of y.transactors (λ w. through_at s k c w or (through_at s k c k and through_at s k k w))
        go true e = group-or y.transactors (through_at s k c) (through_at s k k) (λ w. through_at s k c w or (through_at s k c k and through_at s k k w)) (get_or rows c 0) (get_or rows k 0) (before.through.is c h) (before.through.is k low) (λ w l. rw e)
        go false e = before.through.is c h ∙ group-same y.transactors (through_at s k c) (λ w. through_at s k c w or (through_at s k c k and through_at s k k w)) (λ w l. rw e (none (through_at s k c w)))
          where
            none : (a : Bool) → a ≡ a or false
            none true = refl
            none false = refl

    kept-is : (c : ℕ) → c < y.transactors → kept_next rows nexts t k c ≡ next_at s (suc k) c t
    unfolding kept_next next_at
    kept-is c h = rw (row c t h there, before.next.is c h, before.next.is k low)

    pub reached-more : {rows2 nexts2 : List ℕ} → Filled (wider_row rows k) y.transactors rows2 → Filled (kept_next rows nexts t k) y.transactors nexts2 → Reached y s (k + 1) t rows2 nexts2
    reached-more {rows2} {nexts2} f g = subst (λ (i : ℕ). Reached y s i t rows2 nexts2) {x = suc k} {y = k + 1} (omega arith) (record {
      through = record { is = λ c h. f.is c h ∙ wider-is c h };
      next = record { is = λ c h. g.is c h ∙ kept-is c h };
    })
