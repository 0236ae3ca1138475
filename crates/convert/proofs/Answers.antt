-- What the two calls answer and leave, test by test.
use Prim.Native.Nat.{ℕ}
use mathlib.Core.Bool.{true, false}
use mathlib.Core.Path.{◌≡◌, refl, sym, ◌∙◌}
use mathlib.Core.List.{List}
use lib.Dec.{eqb}
use lib.ListN.{length}
use borrow.Author.Tests.{eq-eqb, ne_eqb}
use Rattle.octets.specs.Bytes.{Octets}
use Rattle.rules.specs.Layout.{narrow, base, image_bytes}
use Rattle.rules.specs.Form.{well_formed}
use Rattle.convert.specs.Convert.{forward, too_wide, forward_answer, forward_image, back_answer, back_image}
use Rattle.recast.specs.Internal.Recast.{recast, widened}
use Rattle.convert.proofs.Widened.{widened-forward, widened-formed, back-recast}

module _ (old new : List ℕ) where
  -- ---- forward

  -- a refusal n leaves the target
  forward-refused : (n : ℕ) → forward_answer old new ≡ n → eqb n 0 ≡ false → (n ≡ forward_answer old new) × (new ≡ forward_image old new)
  unfolding forward_image
  forward-refused n e h = (sym e, sym (rw (e, h)))

  pub forward-source : (length old ≡ image_bytes narrow → ⊥) → (16 ≡ forward_answer old new) × (new ≡ forward_image old new)
  unfolding forward_answer
  forward-source h = forward-refused 16 (rw (ne_eqb (length old) (image_bytes narrow) h)) refl

  module _ (p : length old ≡ image_bytes narrow) where
    pub forward-target : (length new ≡ image_bytes base → ⊥) → (16 ≡ forward_answer old new) × (new ≡ forward_image old new)
    unfolding forward_answer
    forward-target h = forward-refused 16 (rw (eq-eqb (length old) (image_bytes narrow) p, ne_eqb (length new) (image_bytes base) h)) refl

    module _ (q : length new ≡ image_bytes base) (o : Octets old) where
      pub forward-ill-formed : well_formed base (widened old) ≡ false → (19 ≡ forward_answer old new) × (new ≡ forward_image old new)
      unfolding forward_answer
      forward-ill-formed e =
          let f : well_formed narrow old ≡ false = sym (widened-formed old p o) ∙ e in
          forward-refused 19 (rw (eq-eqb (length old) (image_bytes narrow) p, eq-eqb (length new) (image_bytes base) q, f)) refl

      pub forward-done : well_formed base (widened old) ≡ true → (r : List ℕ) → r ≡ widened old → (0 ≡ forward_answer old new) × (r ≡ forward_image old new)
      unfolding forward_answer forward_image
      forward-done e r g =
          let f : well_formed narrow old ≡ true = sym (widened-formed old p o) ∙ e in
          let a : forward_answer old new ≡ 0 = rw (eq-eqb (length old) (image_bytes narrow) p, eq-eqb (length new) (image_bytes base) q, f) in
          let b : r ≡ forward old = g ∙ widened-forward old p o f in
          (sym a, b ∙ sym (rw a))

  -- ---- back

  back-refused : (n : ℕ) → back_answer new old ≡ n → eqb n 0 ≡ false → (n ≡ back_answer new old) × (old ≡ back_image new old)
  unfolding back_image
  back-refused n e h = (sym e, sym (rw (e, h)))

  pub back-source : (length new ≡ image_bytes base → ⊥) → (16 ≡ back_answer new old) × (old ≡ back_image new old)
  unfolding back_answer
  back-source h = back-refused 16 (rw (ne_eqb (length new) (image_bytes base) h)) refl

  module _ (p : length new ≡ image_bytes base) where
    pub back_target : (length old ≡ image_bytes narrow → ⊥) → (16 ≡ back_answer new old) × (old ≡ back_image new old)
    unfolding back_answer
    back_target h = back-refused 16 (rw (eq-eqb (length new) (image_bytes base) p, ne_eqb (length old) (image_bytes narrow) h)) refl

    module _ (q : length old ≡ image_bytes narrow) where
      pub back-ill-formed : well_formed base new ≡ false → (19 ≡ back_answer new old) × (old ≡ back_image new old)
      unfolding back_answer
      back-ill-formed e = back-refused 19 (rw (eq-eqb (length new) (image_bytes base) p, eq-eqb (length old) (image_bytes narrow) q, e)) refl

      module _ (e : well_formed base new ≡ true) where
        pub back-too-wide : too_wide new ≡ true → (32 ≡ back_answer new old) × (old ≡ back_image new old)
        unfolding back_answer
        back-too-wide f = back-refused 32 (rw (eq-eqb (length new) (image_bytes base) p, eq-eqb (length old) (image_bytes narrow) q, e, f)) refl

        pub back_done : Octets new → too_wide new ≡ false → (r : List ℕ) → r ≡ recast base narrow new → (0 ≡ back_answer new old) × (r ≡ back_image new old)
        unfolding back_answer back_image
        back_done o f r g =
            let a : back_answer new old ≡ 0 = rw (eq-eqb (length new) (image_bytes base) p, eq-eqb (length old) (image_bytes narrow) q, e, f) in
            (sym a, g ∙ sym (back-recast new p o e f) ∙ sym (rw a))
