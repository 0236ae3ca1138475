-- Maps as tables: what each operation is there.
use Prim.Native.Nat.{ℕ, ◌≤◌, ◌<◌}
use mathlib.Core.Bool.{Bool, true, false, false≢true}
use mathlib.Core.Path.{◌≡◌, refl, ap, sym, ◌∙◌, subst}
use mathlib.Core.List.{[]}
use mathlib.Core.Logic.{⊎_elim}
use mathlib.Core.Option.{Option, none, some}
use native.Mathlib.Omega.{arith}
use native.Mathlib.Decide.{ℕ_discrete}
use lib.ListN.{get_or-eq_default}
use Rattle.octets.specs.Bytes.{pick, ◌or◌}
use Rattle.octets.proofs.Chunks.{sides}
use Rattle.marks.specs.declared.History.{History}
use Rattle.marks.specs.Incarnation.{Superseded}
use Rattle.marks.specs.History.{Roomy, HistoryView, view_of, newer_of}
use Rattle.marks.proofs.Histories.{roomy-initial, roomy-newer, view-newer}
use Rattle.maps.specs.declared.DependenceMap.{DependenceMap}
use Rattle.maps.specs.Map.{held_at, history_at, empty_map, with_entry, singleton, chooses_right, joined_history, joined_held_at, joined_history_at, join_of, superseded_at, first_superseded, Sized, Joined, both, left, right, neither, Within}
use Rattle.octets.specs.Table.{updated}
use Rattle.maps.specs.Internal.Fitting.{EntryOk, present, absent, MapOk}
use Rattle.maps.specs.Internal.View.{MapView, map_view, singleton_view, join_entry, join_view, SupersededView, superseded-entry}
use Rattle.maps.proofs.Map.{sized-empty, held-empty, sized-singleton, history-singleton, held-singleton-other, sized-join, held-join, history-join, join-view, held-with_entry, history-with_entry, held-with_entry-other, history-with_entry-other}
use Rattle.maps.proofs.Packed.{map_ok-sized}
use Rattle.maps.proofs.Superseded.{superseded_at-test, First, found, nowhere, superseded-view}
use Rattle.octets.proofs.Tables.{updated-is}

-- ---- one entry

module _ (m : DependenceMap) (u : ℕ) where
  pub view-held : held_at m u ≡ true → map_view m u ≡ some (view_of (history_at m u))
  unfolding map_view
  view-held e = rw e

  pub view-absent : held_at m u ≡ false → map_view m u ≡ none
  unfolding map_view
  view-absent e = rw e

  pub view-some : (x : HistoryView) → map_view m u ≡ some x → (held_at m u ≡ true) × (x ≡ view_of (history_at m u))
  unfolding map_view
  view-some x = go (held_at m u) refl
    where
      go : (t : Bool) → held_at m u ≡ t → pick t (some (view_of (history_at m u))) none ≡ some x → (held_at m u ≡ true) × (x ≡ view_of (history_at m u))
      go true e p = (e, cc)
      go false e p = let z : ◌≡◌ {A = ℕ} 0 1 = cc in absurd (omega arith)

held-past : {n : ℕ} {m : DependenceMap} → Sized n m → (u : ℕ) → n ≤ u → held_at m u ≡ false
held-past {n} {m} s u h = get_or-eq_default m.held false {n = u} (omega (arith, s.helds))

held_below : {n : ℕ} {m : DependenceMap} → Sized n m → (u : ℕ) → held_at m u ≡ true → u < n
held_below {n} s u e = ⊎_elim (λ h. h) (λ h. absurd (false≢true (sym (held-past s u h) ∙ e))) (sides u n)

-- a map with no entries at all
pub within_none : (l n : ℕ) → Within l n (record { held = []; histories = [] })
within_none l n = record { below = λ u e. absurd (false≢true e); roomy = λ u e. absurd (false≢true e) }

-- one that is not held is the opening one, and has room too
pub roomy-entry : {w l : ℕ} {p : Bool} {h : History} → EntryOk w l p h → Roomy l h
roomy-entry (present r k) = r
roomy-entry {l = l} absent = roomy-initial l

pub within-ok : {w l n : ℕ} {m : DependenceMap} → MapOk w l n m → Within l n m
within-ok ok = record { below = held_below (map_ok-sized ok); roomy = λ u e. roomy-entry (ok.each u (held_below (map_ok-sized ok) u e)) }

pub within-singleton : (l n t : ℕ) {h : History} → t < n → Roomy l h → Within l n (singleton l n t h)
within-singleton l n t {h} below r = record {
  below = held_below (sized-singleton l n t h);
  roomy = λ u e. go u e (ℕ_discrete u t);
}
  where
    go : (u : ℕ) → held_at (singleton l n t h) u ≡ true → Dec (u ≡ t) → Roomy l (history_at (singleton l n t h) u)
    go u e (yes k) = rw (k, history-singleton l n t h below) r
    go u e (no k) = absurd (false≢true (sym (held-singleton-other l n t h u k) ∙ e))

pub within-join : {l n : ℕ} {a b : DependenceMap} → Within l n a → Within l n b → Within l n (join_of n a b)
within-join {l} {n} {a} {b} p q = record { below = below; roomy = λ u e. go u e (join-view n a b u (below u e)) }
  where
    below : (u : ℕ) → held_at (join_of n a b) u ≡ true → u < n
    below = held_below (sized-join n a b)

    go : (u : ℕ) {c : Bool} {h : History} → c ≡ true → Joined (held_at a u) (history_at a u) (held_at b u) (history_at b u) c h → Roomy l h
    go u e (both f g v) = roomy-newer (p.roomy u f) (q.roomy u g) v
    go u e (left f g) = p.roomy u f
    go u e (right f g) = q.roomy u g
    go u e (neither f g) = absurd (false≢true e)

-- no mark past the takes
pub view-past : {l n : ℕ} {m : DependenceMap} → Within l n m → (u : ℕ) → n ≤ u → map_view m u ≡ none
view-past {l} {n} {m} i u h = go (held_at m u) refl
  where
    go : (c : Bool) → held_at m u ≡ c → map_view m u ≡ none
    go true e = absurd (omega (arith, i.below u e))
    go false e = view-absent m u e

-- ---- the empty map, one entry more, one entry alone

pub view-empty : (l n u : ℕ) → map_view (empty_map l n) u ≡ none
view-empty l n u = view-absent (empty_map l n) u (held-empty l n u)

view-entry : {n : ℕ} {m : DependenceMap} → Sized n m → (t : ℕ) (h : History) → t < n → (u : ℕ)
    → map_view (with_entry m t h) u ≡ updated (map_view m) t (some (view_of h)) u
unfolding map_view
view-entry {n} {m} s t h below = updated-is (map_view m) t (some (view_of h)) (map_view (with_entry m t h))
    (view-held (with_entry m t h) t (held-with_entry s t h below) ∙ ap (λ (x : History). some (view_of x)) (history-with_entry s t h below))
    (λ u k. other u (λ e. k (sym e)))
  where
    other : (u : ℕ) → (u ≡ t → ⊥) → map_view (with_entry m t h) u ≡ map_view m u
    other u k = rw (held-with_entry-other m t h u k, history-with_entry-other m t h u k)

pub view-with_entry : {w l n : ℕ} {m : DependenceMap} → MapOk w l n m → (t : ℕ) (h : History) → t < n → (u : ℕ)
    → map_view (with_entry m t h) u ≡ updated (map_view m) t (some (view_of h)) u
view-with_entry ok t h below = view-entry (map_ok-sized ok) t h below

pub view-singleton : (l n t : ℕ) (h : History) → t < n → (u : ℕ) → map_view (singleton l n t h) u ≡ singleton_view t (view_of h) u
unfolding singleton singleton_view
view-singleton l n t h below u =
    view-entry (sized-empty l n) t h below u ∙ ap (λ (f : MapView). updated f t (some (view_of h)) u) (λ i v. view-empty l n v i)

-- ---- joining

module _ {l n : ℕ} {a b : DependenceMap} (p : Within l n a) (q : Within l n b) where
  joined : (u : ℕ) → u < n → map_view (join_of n a b) u ≡ join_entry (map_view a u) (map_view b u)
  unfolding map_view join_entry joined_held_at joined_history_at joined_history chooses_right newer_of
  joined u h = rw (held-join n a b u h, history-join n a b u h) (go (held_at a u) refl (held_at b u) refl)
    where
      go : (c : Bool) → held_at a u ≡ c → (d : Bool) → held_at b u ≡ d
          → pick (c or d) (some (view_of (joined_history c (history_at a u) d (history_at b u)))) none
          ≡ join_entry (pick c (some (view_of (history_at a u))) none) (pick d (some (view_of (history_at b u))) none)
      go true e true f = ap some (view-newer (p.roomy u e) (q.roomy u f))
      go true e false f = refl
      go false e true f = refl
      go false e false f = refl

  pub view-join : (u : ℕ) → map_view (join_of n a b) u ≡ join_view (map_view a) (map_view b) u
  unfolding join_entry
  view-join u = ⊎_elim
      (joined u)
      (λ (h : n ≤ u). rw (view-past p u h, view-past q u h) (view-absent (join_of n a b) u (held-past (sized-join n a b) u h)))
      (sides u n)

-- ---- comparing

-- an answer of the comparison: some number if P holds, none if it does not
pub data Answers (P : Type 0) : Option ℕ → Type 0 where
  one : {i : ℕ} → P → Answers P (some i)
  no_one : (P → ⊥) → Answers P none

pub view-superseded : {l n : ℕ} {a : DependenceMap} → Within l n a → (b : DependenceMap) → Answers (SupersededView (map_view a) (map_view b)) (first_superseded n a b)
view-superseded {l} {n} {a} i b = go (superseded-view n a b)
  where
    go : {o : Option ℕ} → First (superseded_at a b) 0 n o → Answers (SupersededView (map_view a) (map_view b)) o
    go (found j h k e g) =
        let s = (superseded_at-test a b j).0 e in
        one (superseded-entry j (view_of (history_at a j)) (view_of (history_at b j)) (view-held a j s.0) (view-held b j s.1) s.2)
    go (nowhere g) = no_one none-stale
      where
        none-stale : SupersededView (map_view a) (map_view b) → ⊥
        none-stale (superseded-entry u x z e f s) =
            let p = view-some a u x e in
            let q = view-some b u z f in
            let r = subst (λ (c : HistoryView). Superseded c.incarnation (view_of (history_at b u)).incarnation) p.1
            (subst (λ (c : HistoryView). Superseded x.incarnation c.incarnation) q.1 s) in
            let below : u < n = i.below u p.0 in
            false≢true (sym (g u (omega arith) (omega arith)) ∙ (superseded_at-test a b u).1 (p.0, q.0, r))
