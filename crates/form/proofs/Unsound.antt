-- An image that is refused with 16 or 19, and one that is not.
use Prim.Native.Nat.{ℕ}
use mathlib.Core.Bool.{Bool, true, false, not}
use mathlib.Core.Path.{◌≡◌, refl, sym, ap, ◌∙◌, subst}
use mathlib.Core.List.{List}
use borrow.Author.Tests.{eqb-true, not-false}
use lib.ListN.{length}
use Rattle.octets.specs.Bytes.{pick}
use Rattle.octets.proofs.Tests.{never}
use Rattle.rules.specs.Layout.{Layout, image_bytes}
use Rattle.rules.specs.Form.{well_formed}
use Rattle.rules.specs.Calls.{wrong_length}
use Rattle.rules.specs.Internal.Guards.{image_refusal}
use Rattle.rules.proofs.Calls.Begin.{right-length}
use Rattle.rules.proofs.ByKind.Guards.{sound}

module _ (y : Layout) (img : List ℕ) (r : ℕ) (is : r ≡ image_refusal y img) where
  pub image-refused : (P : ℕ → Type 0) → ((length img ≡ image_bytes y → ⊥) → P 16) → (length img ≡ image_bytes y → not (well_formed y img) ≡ true → P 19) → (r ≡ 0 → ⊥) → P r
  unfolding image_refusal
  image-refused P f g n = go (wrong_length y img) refl (not (well_formed y img)) refl is
    where
      go : (a : Bool) → wrong_length y img ≡ a → (b : Bool) → not (well_formed y img) ≡ b → r ≡ pick a 16 (pick b 19 0) → P r
      go true p b q i = subst P (sym i) (f (λ (l : length img ≡ image_bytes y). never (sym p ∙ right-length y img l)))
      go false p true q i = subst P (sym i) (g (eqb-true (length img) (image_bytes y) (not-false _ p)) q)
      go false p false q i = absurd (n i)

  module _ (zero : r ≡ 0) where
    pub sound-long : length img ≡ image_bytes y
    sound-long = (sound y img (sym is ∙ zero)).long

    pub sound-formed : well_formed y img ≡ true
    sound-formed = (sound y img (sym is ∙ zero)).formed

    pub sound-not : not (well_formed y img) ≡ false
    sound-not = ap not sound-formed
