-- What is in the way of every volume with a take: the call's returns.
use Prim.Native.Nat.{ℕ}
use mathlib.Core.Path.{◌≡◌, sym, ap, ◌∙◌}
use mathlib.Core.List.{List}
use Rattle.std.specs.Prelude.{Option, None}
use borrow.Author.Tests.{eq-eqb, ne_eqb}
use Rattle.rules.specs.declared.Impediment.{Impediment}
use Rattle.rules.specs.Layout.{Layout}
use Rattle.rules.specs.Pack.{unpack}
use Rattle.rules.specs.Calls.{query_refusal}
use Rattle.rules.specs.Impediment.{impediment_numbers, impediment_of, impediment_answer}

module _ (y : Layout) (img : List ℕ) (t r : ℕ) (e : r ≡ query_refusal y img t) where
  pub impediment-refused : (r ≡ 0 → ⊥) → (r ≡ query_refusal y img t) × (impediment_numbers None ≡ impediment_numbers (impediment_answer y img t))
  unfolding impediment_answer
  impediment-refused n = (e, rw (ne_eqb (query_refusal y img t) 0 (λ (z : query_refusal y img t ≡ 0). n (e ∙ z))))

  pub impediment-0 : r ≡ 0 → (o : Option Impediment) → o ≡ impediment_of y (unpack y img) t → (r ≡ query_refusal y img t) × (impediment_numbers o ≡ impediment_numbers (impediment_answer y img t))
  unfolding impediment_answer
  impediment-0 z o q = (e, ap impediment_numbers q ∙ rw (eq-eqb (query_refusal y img t) 0 (sym e ∙ z)))
