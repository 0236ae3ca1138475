-- Beginning a session: the length, the numbers, and the answer.
use Prim.Native.Nat.{ℕ}
use mathlib.Core.Bool.{true, false, not}
use mathlib.Core.Path.{◌≡◌, ap, ◌∙◌}
use mathlib.Core.List.{List}
use native.Mathlib.Omega.{arith}
use borrow.Author.Tests.{eq-eqb, ne_eqb, not-false}
use lib.ListN.{length}
use Rattle.octets.proofs.Tests.{pick-zero}
use Rattle.rules.specs.Layout.{Layout, Limits, in_range, image_bytes}
use Rattle.rules.specs.Calls.{wrong_length, begin_answer, fresh_image, begin_image}

module _ (y : Layout) (img : List ℕ) where
  pub wrong-length : (length img ≡ image_bytes y → ⊥) → wrong_length y img ≡ true
  wrong-length n = ap not (ne_eqb (length img) (image_bytes y) n)

  pub right-length : length img ≡ image_bytes y → wrong_length y img ≡ false
  right-length e = ap not (eq-eqb (length img) (image_bytes y) e)

  module _ (m : Limits) where
    pub begin-16 : (length img ≡ image_bytes y → ⊥) → (16 ≡ begin_answer y m img) × (img ≡ begin_image y m img)
    unfolding begin_answer begin_image
    begin-16 n = (rw (wrong-length n), rw (wrong-length n))

    -- accepted: the numbers are in range, and the image is fresh
    pub begin-accepted : begin_answer y m img ≡ 0 → (in_range y m ≡ true) × (begin_image y m img ≡ fresh_image y m)
    unfolding begin_answer begin_image
    begin-accepted e =
        let a = pick-zero (wrong_length y img) 16 _ (omega arith) e in
        let b = pick-zero (not (in_range y m)) 33 0 (omega arith) a.1 in
        (not-false (in_range y m) b.0, rw (a.0, b.0))

    module _ (long : length img ≡ image_bytes y) where
      pub begin-33 : in_range y m ≡ false → (33 ≡ begin_answer y m img) × (img ≡ begin_image y m img)
      unfolding begin_answer begin_image
      begin-33 e = (rw (right-length long, e), rw (right-length long, e))

      pub begin-0 : in_range y m ≡ true → (l : List ℕ) → l ≡ fresh_image y m → (0 ≡ begin_answer y m img) × (l ≡ begin_image y m img)
      unfolding begin_answer begin_image
      begin-0 e l f = (rw (right-length long, e), f ∙ rw (right-length long, e))
