-- All heard frozen: what the test says of a map, entry by entry, and of a map as a table.
use Prim.Native.Nat.{ℕ, ◌+◌, ◌*◌}
use mathlib.Core.Bool.{Bool, true, false, not, false≢true}
use mathlib.Core.Path.{◌≡◌, refl, sym, subst}
use mathlib.Core.List.{List}
use mathlib.Core.Logic.{◌↔◌, ◌≢◌}
use mathlib.Core.Option.{some}
use lib.Dec.{eqb}
use borrow.Author.Tests.{eqb-false, ne_eqb}
use Rattle.octets.specs.Bytes.{◌or◌, part, every}
use Rattle.octets.proofs.Zero.{every-all, every-at, every-same}
use Rattle.marks.specs.declared.History.{History}
use Rattle.marks.specs.History.{HistoryView, view_of}
use Rattle.marks.specs.Packed.{history_size, present_in, unpack_history}
use Rattle.maps.specs.declared.DependenceMap.{DependenceMap}
use Rattle.maps.specs.Map.{held_at, history_at, Within}
use Rattle.maps.specs.Heard.{stable_entry, stable_at, others_stable}
use Rattle.maps.specs.Packed.{map_in}
use Rattle.maps.specs.Internal.View.{map_view}
use Rattle.maps.proofs.Placed.{held_in, history-in}
use Rattle.maps.proofs.View.{view-held, view-some}

-- ---- as a table

module _ (n t : ℕ) (m : DependenceMap) {l : ℕ} (w : Within l n m) where
  others-to : others_stable n t m ≡ true → (u : ℕ) (h : HistoryView) → u ≢ t → map_view m u ≡ some h → h.stable ≡ true
  unfolding others_stable stable_at stable_entry
  others-to e u h other is =
      let p = view-some m u h is in
      subst (λ (z : HistoryView). z.stable ≡ true) (sym p.1) (go (eqb u t) (held_at m u) (ne_eqb u t other) p.0 (every-at (stable_at t m) n u e (w.below u p.0)))
    where
      go : (c d : Bool) → c ≡ false → d ≡ true → c or (not d or (history_at m u).stable) ≡ true → (history_at m u).stable ≡ true
      go true d i j k = absurd (false≢true (sym i))
      go false true i j k = k
      go false false i j k = absurd (false≢true j)

  others-of : ((u : ℕ) (h : HistoryView) → u ≢ t → map_view m u ≡ some h → h.stable ≡ true) → others_stable n t m ≡ true
  unfolding others_stable stable_at stable_entry
  others-of f = every-all (stable_at t m) n (λ u below. go u (eqb u t) refl (held_at m u) refl)
    where
      go : (u : ℕ) (c : Bool) → eqb u t ≡ c → (d : Bool) → held_at m u ≡ d → c or (not d or (history_at m u).stable) ≡ true
      go u true e d i = refl
      go u false e false i = refl
      go u false e true i = f u (view_of (history_at m u)) (eqb-false u t e) (view-held m u i)

  pub others-test : (others_stable n t m ≡ true) ↔ ((u : ℕ) (h : HistoryView) → u ≢ t → map_view m u ≡ some h → h.stable ≡ true)
  others-test = (others-to, others-of)

-- ---- packed, entry by entry

module _ (own p : Bool) (h : History) where
  pub stable-own : own ≡ true → true ≡ stable_entry own p h
  unfolding stable_entry
  stable-own e = rw e

  pub stable-absent : own ≡ false → p ≡ false → true ≡ stable_entry own p h
  unfolding stable_entry
  stable-absent e f = rw (e, f)

  pub stable-flag : own ≡ false → p ≡ true → h.stable ≡ stable_entry own p h
  unfolding stable_entry
  stable-flag e f = rw (e, f)

pub others-packed : (w l n at : ℕ) (s : List ℕ) (t : ℕ)
    → every n (λ i. stable_entry (eqb i t) (present_in (part (at + history_size w l * i) (history_size w l) s)) (unpack_history w l (part (at + history_size w l * i) (history_size w l) s)))
    ≡ others_stable n t (map_in w l n s at)
unfolding others_stable stable_at
others-packed w l n at s t =
    every-same
    (λ i. stable_entry (eqb i t) (present_in (part (at + history_size w l * i) (history_size w l) s)) (unpack_history w l (part (at + history_size w l * i) (history_size w l) s)))
    (stable_at t (map_in w l n s at)) n
    (λ i below. sym (rw (held_in w l n at s i below, history-in w l n at s i below) refl))
