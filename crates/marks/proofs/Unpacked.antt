-- The tests on the lives of a packed history and another, from the numbers that stand in its bytes.
use Prim.Native.Nat.{ℕ, ◌≤◌, ◌<◌}
use mathlib.Core.Bool.{Bool, false}
use mathlib.Core.Path.{◌≡◌, refl, sym, ◌∙◌, subst}
use mathlib.Core.List.{List}
use native.Mathlib.Omega.{arith}
use lib.ListN.{length, take, get_or}
use Rattle.marks.specs.declared.History.{History}
use Rattle.marks.specs.Incarnation.{same_list, checkpointed_in, same_incarnation}
use Rattle.marks.specs.History.{incarnation_of}
use Rattle.marks.specs.Packed.{unpack_history}
use Rattle.marks.proofs.Compare.{same_count, same_number, same_rest, checkpointed-short, checkpointed-off, checkpointed-entry}
use Rattle.marks.proofs.Packed.{length-unpack}

module _ (w l : ℕ) (p : List ℕ) (b : History) (long : length b.checkpoints ≡ l) (n m : ℕ) (e : n ≡ (unpack_history w l p).count) (f : m ≡ b.count) (h : n ≤ l) (k : m ≤ l) where
  abbrev a : History
  a = unpack_history w l p

  abbrev agree : Bool
  agree = same_list (take n a.checkpoints) (take n b.checkpoints)

  of-count : agree ≡ same_list (take a.count a.checkpoints) (take a.count b.checkpoints)
  of-count = subst (λ (c : ℕ). agree ≡ same_list (take c a.checkpoints) (take c b.checkpoints)) e refl

  pub other-counts : (n ≡ m → ⊥) → false ≡ same_incarnation (incarnation_of a) (incarnation_of b)
  other-counts d = same_count l a b (length-unpack w l p) long (omega (arith, e, h)) (omega (arith, f, k)) (λ c. d (e ∙ c ∙ sym f))

  pub other-numbers : (x y : ℕ) → x ≡ a.incarnation → y ≡ b.incarnation → (x ≡ y → ⊥) → false ≡ same_incarnation (incarnation_of a) (incarnation_of b)
  other-numbers x y i j d = same_number l a b (length-unpack w l p) long (omega (arith, e, h)) (omega (arith, f, k)) (λ c. d (i ∙ c ∙ sym j))

  pub same-places : (x y : ℕ) → x ≡ a.incarnation → y ≡ b.incarnation → n ≡ m → x ≡ y → agree ≡ same_incarnation (incarnation_of a) (incarnation_of b)
  same-places x y i j c d =
      of-count ∙ same_rest l a b (length-unpack w l p) long (omega (arith, e, h)) (omega (arith, f, k)) (sym e ∙ c ∙ f) (sym i ∙ d ∙ j)

  pub no_longer : m ≤ n → false ≡ checkpointed_in (incarnation_of a) (incarnation_of b)
  no_longer d = checkpointed-short l a b (length-unpack w l p) long (omega (arith, e, h)) (omega (arith, f, k)) (omega (arith, e, f, d))

  module _ (x y : ℕ) (i : x ≡ a.incarnation) (j : y ≡ get_or b.checkpoints n 0) (c : n < m) where
    next : y ≡ get_or b.checkpoints a.count 0
    next = subst (λ (u : ℕ). y ≡ get_or b.checkpoints u 0) e j

    pub other-entry : (x ≡ y → ⊥) → false ≡ checkpointed_in (incarnation_of a) (incarnation_of b)
    other-entry d = checkpointed-off l a b (length-unpack w l p) long (omega (arith, e, h)) (omega (arith, f, k)) (omega (arith, e, f, c))
        (λ u. d (i ∙ u ∙ sym next))

    pub first-places : x ≡ y → agree ≡ checkpointed_in (incarnation_of a) (incarnation_of b)
    first-places d = of-count ∙ checkpointed-entry l a b (length-unpack w l p) long (omega (arith, e, h)) (omega (arith, f, k))
        (omega (arith, e, f, c)) (sym i ∙ d ∙ next)
