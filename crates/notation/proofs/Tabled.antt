-- A constant table of slices.
use Rattle.std.proofs.Common.{ℕ, ◌≡◌, ◌<◌, List, [], length, map, get_or, sym, ◌∙◌, ap, arith}
use Rattle.std.proofs.lemmas.List.{get_or-map, length-map}

-- what a row of a table of pointers points to is that row of the table of lists
module _ {X : Type 0} (now : X → List ℕ) where
  pub row-at : (bs : List X) (ns : List (List ℕ)) (k : ℕ) (d : X) → map now bs ≡ ns → k < length ns → now (get_or bs k d) ≡ get_or ns k []
  row-at bs ns k d e h =
      let s : length bs ≡ length ns = sym (length-map bs now) ∙ ap length e in
      let g : k < length bs = omega arith in
      sym (rw (← e) (get_or-map now bs k d [] g))
