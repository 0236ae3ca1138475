-- The loop over the lines: the first line, and the text after it.
use Prim.Native.Nat.{ℕ, suc, ◌+◌, ◌-◌, ◌≤◌, ◌<◌}
use mathlib.Core.Bool.{Bool, true, false}
use mathlib.Core.Path.{◌≡◌, refl, ap, ◌∙◌}
use mathlib.Core.List.{List, [], ◌∷◌}
use native.Mathlib.Omega.{arith}
use lib.ListN.{length, take, drop, length-drop, drop_of_length-le}
use lib.Seq.{drop-drop}
use Rattle.octets.specs.Bytes.{pick}
use Rattle.notation.specs.Reading.{not_lf, run, start_line, lines_of}

first-cut : (l : List ℕ) → 0 < length l → lines_of l ≡ take (run not_lf l) l ∷ lines_of (drop (suc (run not_lf l)) l)
unfolding lines_of run start_line
first-cut [] h = absurd (omega arith)
first-cut (x ∷ l) h = go (not_lf x) l (first-cut l)
  where
    go : (t : Bool) (l : List ℕ) → (0 < length l → lines_of l ≡ take (run not_lf l) l ∷ lines_of (drop (suc (run not_lf l)) l))
        → pick t (start_line x (lines_of l)) ([] ∷ lines_of l) ≡ take (pick t (suc (run not_lf l)) 0) (x ∷ l) ∷ lines_of (drop (suc (pick t (suc (run not_lf l)) 0)) (x ∷ l))
    go false l ih = refl
    go true [] ih = refl
    go true (y ∷ l) ih = ap (start_line x) (ih (omega arith))

-- from place from on; end is the place of the next LF, or the end
module _ (t : List ℕ) (from end : ℕ) (h : from < length t) (e : end ≡ from + run not_lf (drop from t)) where
  pub lines_cut : lines_of (drop from t) ≡ take (end - from) (drop from t) ∷ lines_of (drop (end + 1) t)
  lines_cut =
      let a : end - from ≡ run not_lf (drop from t) = omega arith in
      let b : from + suc (run not_lf (drop from t)) ≡ end + 1 = omega arith in
      first-cut (drop from t) (omega (arith, length-drop from t))
      ∙ rw (a, drop-drop (suc (run not_lf (drop from t))) from t, b)

pub lines_none : (t : List ℕ) (from : ℕ) → length t ≤ from → lines_of (drop from t) ≡ []
unfolding lines_of
lines_none t from h = ap lines_of (drop_of_length-le t {i = from} h)
