-- The least volume with a take that names what each of its takes needs: what one needs is added while it is not there.
use Prim.Native.Nat.{ℕ, ◌^◌, ◌<◌}
use mathlib.Core.Bool.{Bool, true, false, not}
use mathlib.Core.Path.{◌≡◌, refl, sym, ap, ◌∙◌, subst}
use mathlib.Core.List.{List}
use native.Mathlib.Omega.{arith}
use borrow.Author.Tests.{eq-eqb, eqb-true}
use lib.Bits.{bit_or, or_add_and, and_le_r}
use lib.ListN.{get_or}
use Rattle.octets.specs.Bytes.{◌or◌}
use Rattle.octets.proofs.Tests.{never, implied, implying}
use Rattle.octets.proofs.Zero.{every-all, every-at}
use Rattle.rules.specs.Refusals.{named, group_bits}
use Rattle.rules.specs.Internal.Closure.{inside, Closed, Closure}
use Rattle.rules.proofs.Bits.{named-one, named-or}

module _ (v w : ℕ) where
  pub inside-at : inside v w ≡ true → (t : ℕ) → t < group_bits → named v t ≡ true → named w t ≡ true
  unfolding inside
  inside-at e t h n = implied (named v t) (named w t) (every-at (λ t. not (named v t) or named w t) group_bits t e h) n

  pub inside-all : ((t : ℕ) → t < group_bits → named v t ≡ true → named w t ≡ true) → inside v w ≡ true
  unfolding inside
  inside-all f = every-all (λ t. not (named v t) or named w t) group_bits (λ t h. implying (named v t) (named w t) (f t h))

-- ---- the volume as it grows: it has take t, and no take more than needed

pub record Growing (l : List ℕ) (t g : ℕ) : Type 0 where
  pub contains : named g t ≡ true
  pub least : (w : ℕ) → named w t ≡ true → Closed l w → inside g w ≡ true

pub growing-first : (l : List ℕ) (t g : ℕ) → g ≡ 2 ^ t → Growing l t g
growing-first l t g bit = record {
  contains = rw (bit, named-one t t) (eq-eqb t t refl);
  least = λ w c k. inside-all g w (λ v h n.
      let o : named (2 ^ t) v ≡ true = rw bit at n in
      subst (λ (x : ℕ). named w x ≡ true) (eqb-true t v (sym (named-one t v) ∙ o)) c);
}

module _ {l : List ℕ} {t g : ℕ} (grown : Growing l t g) where
  pub growing-end : Closed l g → Closure l t g
  growing-end c = record { contains = grown.contains; closed = c; least = grown.least }

  pub growing-more : (u : ℕ) → u < group_bits → named g u ≡ true → Growing l t (bit_or g (get_or l u 0))
  unfolding Closed
  growing-more u below name = record {
    contains = named-or g (get_or l u 0) t ∙ rw grown.contains;
    least = λ w c k. inside-all (bit_or g (get_or l u 0)) w (λ v h n. go w c k v h (named g v) refl (sym (named-or g (get_or l u 0) v) ∙ n));
  }
    where
      go : (w : ℕ) → named w t ≡ true → Closed l w → (v : ℕ) → v < group_bits → (b : Bool) → named g v ≡ b → named g v or named (get_or l u 0) v ≡ true → named w v ≡ true
      go w c k v h true e f = inside-at g w (grown.least w c k) v h e
      go w c k v h false e f = inside-at (get_or l u 0) w (k u below (inside-at g w (grown.least w c k) u below name)) v h (rw e at f)

-- it is greater
pub growing-greater : (g n : ℕ) → inside n g ≡ false → g < bit_or g n
growing-greater g n o = omega (arith, or_add_and g n, and_le_r g n, differs)
  where
    differs : bit_or g n ≡ g → ⊥
    differs e = never (sym (inside-all n g (λ v h k. ap (λ (x : ℕ). named x v) (sym e) ∙ named-or g n v ∙ on (named g v) k)) ∙ o)
      where
        on : {b : Bool} (a : Bool) → b ≡ true → a or b ≡ true
        on true f = refl
        on false f = f
