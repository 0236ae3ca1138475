-- A packed map with no entry, compared: nothing in it, or in another by it, is stale or unrelated.
use Prim.Native.Nat.{ℕ, ◌+◌, ◌≤◌, ◌<◌}
use mathlib.Core.Bool.{Bool, true, false}
use mathlib.Core.Path.{◌≡◌, refl, sym, ap, ◌∙◌}
use mathlib.Core.List.{List}
use mathlib.Core.Option.{none}
use native.Mathlib.Omega.{arith}
use lib.ListN.{length}
use Rattle.octets.specs.Bytes.{part, all_zero}
use Rattle.marks.specs.declared.History.{History}
use Rattle.maps.specs.declared.DependenceMap.{DependenceMap}
use Rattle.maps.specs.Map.{held_at, history_at, superseded_entry, superseded_at, first_superseded, unrelated_entry, unrelated_at, any_unrelated}
use Rattle.maps.specs.Packed.{map_size, map_in}
use Rattle.maps.proofs.Placed.{looked-none, unlooked-held}
use Rattle.maps.proofs.Superseded.{superseded-none}
use Rattle.maps.proofs.Unrelated.{unrelated-none}

right-absent : (p : Bool) (x y : History) → superseded_entry p x false y ≡ false
unfolding superseded_entry
right-absent true x y = refl
right-absent false x y = refl

module _ (w l n : ℕ) (s : List ℕ) (at : ℕ) (fits : at + map_size w l n ≤ length s) (z : all_zero (part at (map_size w l n) s) ≡ true) (known : DependenceMap) where
  abbrev m : DependenceMap
  m = map_in w l n s at

  pub absent : (i : ℕ) → i < n → held_at m i ≡ false
  absent i h = unlooked-held w l n s at fits 0 (sym (looked-none n (part at (map_size w l n) s) z)) i (omega arith) h

  related-at : (i : ℕ) → i < n → unrelated_at m known i ≡ false
  unfolding unrelated_at unrelated_entry
  related-at i h = rw (absent i h)

  current-at : (i : ℕ) → i < n → superseded_at m known i ≡ false
  unfolding superseded_at superseded_entry
  current-at i h = rw (absent i h)

  known_at : (i : ℕ) → i < n → superseded_at known m i ≡ false
  unfolding superseded_at
  known_at i h =
      ap (λ (q : Bool). superseded_entry (held_at known i) (history_at known i) q (history_at m i)) (absent i h)
      ∙ right-absent (held_at known i) (history_at known i) (history_at m i)

  pub letter-related : false ≡ any_unrelated n m known
  letter-related = sym ((unrelated-none n m known).1 related-at)

  pub letter-current : none ≡ first_superseded n m known
  letter-current = sym ((superseded-none n m known).1 current-at)

  pub known-current : none ≡ first_superseded n known m
  known-current = sym ((superseded-none n known m).1 known_at)
