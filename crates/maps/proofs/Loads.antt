-- A packed map loaded entry by entry: after i turns the first i entries, the others still initial.
use Prim.Native.Nat.{ℕ, ◌+◌, ◌*◌, ◌≤◌, ◌<◌}
use mathlib.Core.Bool.{Bool}
use mathlib.Core.Path.{◌≡◌, sym, ◌∙◌}
use mathlib.Core.List.{List}
use native.Mathlib.Omega.{arith}
use lib.ListN.{length, set}
use Rattle.octets.specs.Bytes.{part}
use Rattle.marks.specs.declared.History.{History}
use Rattle.marks.specs.Packed.{history_size, unpack_history, present_in}
use Rattle.maps.specs.declared.DependenceMap.{DependenceMap}
use Rattle.maps.specs.Map.{empty_map}
use Rattle.maps.specs.Packed.{map_size, unpack_held_at, unpack_history_at, unpack_map, map_in}
use Rattle.maps.specs.Internal.Fitting.{looked}
use Rattle.maps.proofs.Map.{sized-empty, held-empty, history-empty}
use Rattle.maps.proofs.Placed.{held-here, history-here, held_in, history-in, unlooked-held, unlooked-history}
use Rattle.maps.proofs.Loops.{Changing, changing-none, changing-set, changing-all}

module _ (w l n : ℕ) (s : List ℕ) (at : ℕ) where
  abbrev held : ℕ → Bool
  held = unpack_held_at w l (part at (map_size w l n) s)

  abbrev history : ℕ → History
  history = unpack_history_at w l (part at (map_size w l n) s)

  abbrev pub Loading : ℕ → DependenceMap → Type 0
  Loading i r = Changing n held history (empty_map l n) i r

  pub loading-none : Loading 0 (empty_map l n)
  loading-none = changing-none held history (empty_map l n) (sized-empty l n)

  module _ {r : DependenceMap} (i : ℕ) (k : Loading i r) where
    pub loading-more : i < n → {p : Bool} {h : History} → p ≡ present_in (part (at + history_size w l * i) (history_size w l) s)
        → h ≡ unpack_history w l (part (at + history_size w l * i) (history_size w l) s)
        → Loading (i + 1) (record { held = set r.held i p; histories = set r.histories i h })
    loading-more below {p} {h} e f =
        changing-set held history (empty_map l n) i k below p h (e ∙ held-here w l n at s i below) (f ∙ history-here w l n at s i below)

    -- past the end there are none
    pub loading-all : at + map_size w l n ≤ length s → (end : ℕ) → end ≡ looked n (part at (map_size w l n) s) → end ≤ i → r ≡ map_in w l n s at
    unfolding unpack_map
    loading-all fits end e done = changing-all held history (empty_map l n) i k (λ j (p : i ≤ j) (h : j < n).
        let past : end ≤ j = omega arith in (
          held-empty l n j ∙ sym (unlooked-held w l n s at fits end e j past h) ∙ held_in w l n at s j h ∙ held-here w l n at s j h,
          history-empty l n j h ∙ sym (unlooked-history w l n s at fits end e j past h) ∙ history-in w l n at s j h ∙ history-here w l n at s j h,
        ))
