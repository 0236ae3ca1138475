-- News of a freeze: what stands at each entry of a map after a parcel's.
use Prim.Native.Nat.{ℕ, ◌≤◌, ◌<◌}
use mathlib.Core.Bool.{Bool, true, false}
use mathlib.Core.Path.{◌≡◌, refl, ap, ◌∙◌}
use mathlib.Core.Logic.{⊎_elim, ◌≢◌}
use mathlib.Core.Option.{Option, none, some}
use native.Mathlib.Omega.{arith}
use lib.Dec.{eqb}
use borrow.Author.Tests.{eq-eqb, ne_eqb}
use Rattle.octets.specs.Bytes.{pick, ◌and◌}
use Rattle.octets.proofs.Tests.{pick-view}
use Rattle.octets.proofs.Chunks.{sides, length-tabulate, get_d_tabulate}
use Rattle.marks.specs.declared.History.{History}
use Rattle.marks.specs.History.{HistoryView, incarnation_of, view_of}
use Rattle.marks.specs.News.{informed}
use Rattle.marks.proofs.News.{informed-incarnation, informed-count, roomy-informed, packable-informed, informed_view, view-informed}
use Rattle.maps.specs.declared.DependenceMap.{DependenceMap}
use Rattle.maps.specs.Map.{held_at, history_at, empty_map, Sized, Within}
use Rattle.maps.specs.News.{informed_history, informed_history_at, informed_of, SameIncarnations}
use Rattle.maps.specs.Internal.Fitting.{EntryOk, present, absent, MapOk, Bounded}
use Rattle.maps.specs.Internal.View.{MapView, map_view}
use Rattle.maps.proofs.Map.{outside, same_map, sized-empty, held-empty}
use Rattle.maps.proofs.Packed.{bounded_at, bounded-within}
use Rattle.maps.proofs.View.{view-past, view-absent}

both-same : (c : Bool) (h : History) → pick c h h ≡ h
both-same true h = refl
both-same false h = refl

module _ (n t : ℕ) (a b : DependenceMap) where
  pub held-informed : (u : ℕ) → held_at (informed_of n t a b) u ≡ held_at a u
  unfolding informed_of
  held-informed u = refl

  module _ (u : ℕ) (below : u < n) where
    pub history-informed : history_at (informed_of n t a b) u ≡ informed_history_at t a b u
    unfolding informed_of
    history-informed = get_d_tabulate (informed_history_at t a b) n u outside below

    -- what holds of the recorded mark and of what news makes of it holds of the entry
    informed-entry : (P : History → Type 0) → P (history_at a u) → P (informed (history_at a u) (history_at b u)) → P (history_at (informed_of n t a b) u)
    unfolding informed_history_at informed_history
    informed-entry P k h = rw history-informed
        (pick-view P (eqb u t) (history_at a u) _ (λ e. k) (λ e. pick-view P (held_at a u and held_at b u) _ (history_at a u) (λ f. h) (λ f. k)))

    -- "no mark changes its life"
    pub same-incarnation : incarnation_of (history_at (informed_of n t a b) u) ≡ incarnation_of (history_at a u)
    same-incarnation = informed-entry (λ h. incarnation_of h ≡ incarnation_of (history_at a u)) refl (informed-incarnation (history_at a u) (history_at b u))

    -- another take's mark, where both maps have one
    pub history-shown : u ≢ t → held_at a u ≡ true → held_at b u ≡ true → history_at (informed_of n t a b) u ≡ informed (history_at a u) (history_at b u)
    unfolding informed_history_at informed_history
    history-shown k e f = history-informed ∙ rw (ne_eqb u t k, e, f)

  -- no list grows
  pub bounded-informed : (c : ℕ) → Bounded c a → Bounded c (informed_of n t a b)
  unfolding informed_of
  bounded-informed c k = bounded-within c n (informed_of n t a b) (length-tabulate (informed_history_at t a b) n)
      (λ u h. informed-entry u h (λ x. x.count ≤ c) (bounded_at c a k u) (omega (arith, informed-count (history_at a u) (history_at b u), bounded_at c a k u)))

  -- the receiver's own entry
  pub own-informed : t < n → history_at (informed_of n t a b) t ≡ history_at a t
  unfolding informed_history_at
  own-informed below = history-informed t below ∙ rw (eq-eqb t t refl)

-- "no mark changes its life"
pub same-informed : (n t : ℕ) (a b : DependenceMap) → SameIncarnations n a (informed_of n t a b)
same-informed n t a b = record { held = held-informed n t a b; incarnation = same-incarnation n t a b }

-- where no take has a mark in both, nothing is told
module _ (n t : ℕ) (a b : DependenceMap) (sized : Sized n a) (apart : (u : ℕ) → u < n → held_at a u and held_at b u ≡ false) where
  sized-informed : Sized n (informed_of n t a b)
  unfolding informed_of
  sized-informed = record { helds = sized.helds; histories = length-tabulate (informed_history_at t a b) n }

  entry-apart : (i : ℕ) → i < n → history_at (informed_of n t a b) i ≡ history_at a i
  unfolding informed_history_at informed_history
  entry-apart i h = history-informed n t a b i h ∙ rw (apart i h) (both-same (eqb i t) (history_at a i))

  pub informed-apart : informed_of n t a b ≡ a
  informed-apart = same_map sized-informed sized (λ i h. held-informed n t a b i) entry-apart

pub informed-empty : (l n t : ℕ) (b : DependenceMap) → informed_of n t (empty_map l n) b ≡ empty_map l n
informed-empty l n t b = informed-apart n t (empty_map l n) b (sized-empty l n) (λ u h. rw (held-empty l n u))

-- ---- form is kept

pub map_ok-informed : {w l n : ℕ} (t : ℕ) {a : DependenceMap} (b : DependenceMap) → MapOk w l n a → MapOk w l n (informed_of n t a b)
unfolding informed_of informed_history_at informed_history
map_ok-informed {w} {l} {n} t {a} b k = record {
  helds = k.helds;
  histories = length-tabulate (informed_history_at t a b) n;
  each = λ i h. rw (history-informed n t a b i h)
      (pick-view (EntryOk w l (held_at a i)) (eqb i t) (history_at a i) (informed_history (held_at a i) (history_at a i) (held_at b i) (history_at b i))
      (λ e. k.each i h) (λ e. entry (held_at b i) (history_at b i) (k.each i h)));
}
  where
    entry : (q : Bool) (y : History) {p : Bool} {x : History} → EntryOk w l p x → EntryOk w l p (pick (p and q) (informed x y) x)
    entry true y (present r c) = present (roomy-informed y r) (packable-informed y c)
    entry false y (present r c) = present r c
    entry q y absent = absent

-- ---- maps as tables

-- the entry e after that of the parcel, o
unfoldable pub informed_entry : Option HistoryView → Option HistoryView → Option HistoryView
informed_entry none o = none
informed_entry (some m) none = some m
informed_entry (some m) (some p) = some (informed_view m p)

-- take t's map M after the parcel's map N
unfoldable pub informed_table : ℕ → MapView → MapView → MapView
informed_table t M N u = pick (eqb u t) (M u) (informed_entry (M u) (N u))

module _ (n t : ℕ) (a b : DependenceMap) where
  table_below : (u : ℕ) → u < n → map_view (informed_of n t a b) u ≡ informed_table t (map_view a) (map_view b) u
  unfolding map_view informed_table informed_of informed_history_at informed_history informed_entry
  table_below u below =
      ap (λ (h : History). pick (held_at a u) (some (view_of h)) none) (history-informed n t a b u below) ∙ go (eqb u t) (held_at a u) (held_at b u)
    where
      x : History
      x = history_at a u

      y : History
      y = history_at b u

      go : (c p q : Bool)
          → pick p (some (view_of (pick c x (pick (p and q) (informed x y) x)))) none
          ≡ pick c (pick p (some (view_of x)) none) (informed_entry (pick p (some (view_of x)) none) (pick q (some (view_of y)) none))
      go true true q = refl
      go true false q = refl
      go false true true = ap some (view-informed x y)
      go false true false = refl
      go false false q = refl

  -- the view of the map after the news is the news on the views
  pub table-informed : {l : ℕ} → Within l n a → (u : ℕ) → map_view (informed_of n t a b) u ≡ informed_table t (map_view a) (map_view b) u
  unfolding informed_table informed_of informed_entry
  table-informed w u = ⊎_elim (λ (h : u < n). table_below u h) (λ (h : n ≤ u). past h) (sides u n)
    where
      unheld : n ≤ u → held_at a u ≡ false
      unheld h = at (held_at a u) refl
        where
          at : (c : Bool) → held_at a u ≡ c → held_at a u ≡ false
          at true e = absurd (omega (arith, w.below u e))
          at false e = e

      both-none : (c : Bool) → none ≡ pick c none (informed_entry none (map_view b u))
      both-none true = refl
      both-none false = refl

      past : n ≤ u → map_view (informed_of n t a b) u ≡ informed_table t (map_view a) (map_view b) u
      past h = rw (view-past w u h) (view-absent (informed_of n t a b) u (unheld h) ∙ both-none (eqb u t))
