-- Maps and marks of a layout: what fits its bytes, which takes are known, and how long a list may be.
use Prim.Native.Nat.{ℕ, ◌+◌, ◌≤◌, ◌<◌}
use mathlib.Core.Bool.{Bool, true, false}
use mathlib.Core.Path.{◌≡◌, sym, ◌∙◌}
use mathlib.Core.Logic.{inr, ⊎_elim}
use native.Mathlib.Omega.{arith}
use lib.ListN.{length, get_or-eq_default}
use Rattle.octets.specs.Numbers.{bound}
use Rattle.octets.proofs.Chunks.{sides}
use Rattle.marks.specs.declared.History.{History}
use Rattle.marks.specs.History.{initial_history, stabilized, rolled_back, checkpointed, Roomy}
use Rattle.marks.specs.Packed.{Packable}
use Rattle.marks.proofs.Histories.{newer-count, roomy-initial, roomy-stabilized, roomy-rolled_back, roomy-checkpointed}
use Rattle.marks.proofs.Packed.{packable-initial, packable-stabilized, packable-rolled_back, packable-checkpointed}
use Rattle.maps.specs.declared.DependenceMap.{DependenceMap}
use Rattle.maps.specs.Map.{held_at, history_at, with_entry, joined_held_at, Joined}
use Rattle.maps.specs.News.{informed_of}
use Rattle.maps.specs.Internal.Fitting.{EntryOk}
use Rattle.maps.proofs.Map.{held-empty, held-singleton, held-singleton-other, history-singleton, held-with_entry, history-with_entry, held-with_entry-other, sized-join, held-join, held-join-test, join-view}
use Rattle.maps.proofs.News.{map_ok-informed, held-informed, own-informed, bounded-informed}
use Rattle.maps.proofs.Packed.{map_ok-sized, map_ok-empty, map_ok-with_entry, map_ok-singleton, map_ok-join, bounded_at, bounded-empty, bounded-with_entry, bounded-singleton, bounded-join}
use Rattle.rules.specs.Layout.{Layout, Fitting}
use Rattle.rules.specs.State.{Transactor, own_history}
use Rattle.rules.specs.Rules.{no_dependences, only, join, carried}
use Rattle.rules.specs.Internal.Well.{DependencesOk, TransactorOk, Known}
use Rattle.octets.proofs.Tests.{never}

-- a mark that the layout can hold
pub record HistoryOk (y : Layout) (h : History) : Type 0 where
  pub roomy : Roomy y.places h
  pub packable : Packable y.width y.places h

pub history-initial : (y : Layout) → HistoryOk y (initial_history y.places)
history-initial y = record { roomy = roomy-initial y.places; packable = packable-initial y.width y.places }

module _ {y : Layout} {h : History} (o : HistoryOk y h) where
  pub history-stabilized : HistoryOk y (stabilized h)
  history-stabilized = record { roomy = roomy-stabilized o.roomy; packable = packable-stabilized o.packable }

  pub history-rolled_back : h.incarnation + 1 < bound y.width → HistoryOk y (rolled_back h)
  history-rolled_back k = record { roomy = roomy-rolled_back o.roomy; packable = packable-rolled_back o.packable k }

  pub history-checkpointed : Fitting y → h.count < y.places → HistoryOk y (checkpointed h)
  history-checkpointed z k = record { roomy = roomy-checkpointed o.roomy k; packable = packable-checkpointed o.packable (omega (arith, z.places)) }

-- a mark that a map holds
entry-history : (y : Layout) {p : Bool} {h : History} → EntryOk y.width y.places p h → p ≡ true → HistoryOk y h
entry-history y (EntryOk.present r p) e = record { roomy = r; packable = p }
entry-history y EntryOk.absent e = never (sym e)

pub held-history : (y : Layout) {m : DependenceMap} (t : ℕ) → DependencesOk y m → t < y.transactors → held_at m t ≡ true → HistoryOk y (history_at m t)
held-history y t o h e = entry-history y (o.each t h) e

-- ---- what fits

module _ (y : Layout) where
  pub ok-none : DependencesOk y (no_dependences y)
  ok-none = map_ok-empty y.width y.places y.transactors

  pub ok-only : (t : ℕ) {h : History} → t < y.transactors → HistoryOk y h → DependencesOk y (only y t h)
  ok-only t below o = map_ok-singleton y.width y.places y.transactors t below (EntryOk.present o.roomy o.packable)

  pub ok-join : {a b : DependenceMap} → DependencesOk y a → DependencesOk y b → DependencesOk y (join y a b)
  ok-join p q = map_ok-join p q

  pub ok-informed : (t : ℕ) {a : DependenceMap} (b : DependenceMap) → DependencesOk y a → DependencesOk y (informed_of y.transactors t a b)
  ok-informed t b p = map_ok-informed t b p

  pub ok-entry : {m : DependenceMap} → DependencesOk y m → (t : ℕ) {h : History} → t < y.transactors → HistoryOk y h → DependencesOk y (with_entry m t h)
  ok-entry p t below o = map_ok-with_entry p t below (EntryOk.present o.roomy o.packable)

-- ---- whose marks there are, and how long their lists

module _ (y : Layout) (c opened : ℕ) where
  pub known-none : Known c opened (no_dependences y)
  known-none = record { unheld = λ i h. held-empty y.places y.transactors i; counts = bounded-empty c y.places y.transactors }

  pub known_only : (t : ℕ) (h : History) → t < opened → h.count ≤ c → Known c opened (only y t h)
  known_only t h k b = record {
    unheld = λ i p. held-singleton-other y.places y.transactors t h i (λ e. omega arith);
    counts = bounded-singleton c y.places y.transactors t h b;
  }

  pub known-join : (a b : DependenceMap) → Known c opened a → Known c opened b → Known c opened (join y a b)
  unfolding joined_held_at
  known-join a b p q = record {
    unheld = λ i h. ⊎_elim
        (λ (k : i < y.transactors). held-join y.transactors a b i k ∙ rw (p.unheld i h, q.unheld i h))
        (λ (k : y.transactors ≤ i).
        let e : length (join y a b).held ≤ i = omega (arith, (sized-join y.transactors a b).helds) in
        get_or-eq_default (join y a b).held false {n = i} e)
        (sides i y.transactors);
    counts = bounded-join c y.transactors a b p.counts q.counts;
  }

  pub known-informed : (t : ℕ) (a b : DependenceMap) → Known c opened a → Known c opened (informed_of y.transactors t a b)
  known-informed t a b p = record { unheld = λ i h. held-informed y.transactors t a b i ∙ p.unheld i h; counts = bounded-informed y.transactors t a b c p.counts }

  pub known-entry : (m : DependenceMap) (t : ℕ) (h : History) → t < opened → h.count ≤ c → Known c opened m → Known c opened (with_entry m t h)
  known-entry m t h k b p = record {
    unheld = λ i q. held-with_entry-other m t h i (λ e. omega arith) ∙ p.unheld i q;
    counts = bounded-with_entry c m t h b p.counts;
  }

  pub known_more : (m : DependenceMap) → Known c opened m → Known c (opened + 1) m
  known_more m p = record { unheld = λ i h. p.unheld i (omega arith); counts = p.counts }

  pub known-count : {m : DependenceMap} → Known c opened m → (t : ℕ) → (history_at m t).count ≤ c
  known-count {m} p t = bounded_at c m p.counts t

-- ---- the own mark

module _ (y : Layout) (t : ℕ) (below : t < y.transactors) where
  pub own-only : (h : History) → held_at (only y t h) t ≡ true
  own-only h = held-singleton y.places y.transactors t h below

  pub only-is : (h : History) → history_at (only y t h) t ≡ h
  only-is h = history-singleton y.places y.transactors t h below

  pub own-entry : {m : DependenceMap} → DependencesOk y m → (h : History) → held_at (with_entry m t h) t ≡ true
  own-entry o h = held-with_entry (map_ok-sized o) t h below

  pub entry-is : {m : DependenceMap} → DependencesOk y m → (h : History) → history_at (with_entry m t h) t ≡ h
  entry-is o h = history-with_entry (map_ok-sized o) t h below

  pub own-kept : (a b : DependenceMap) → held_at a t ≡ true → held_at (informed_of y.transactors t a b) t ≡ true
  own-kept a b e = held-informed y.transactors t a b t ∙ e

  pub kept-is : (a b : DependenceMap) → history_at (informed_of y.transactors t a b) t ≡ history_at a t
  kept-is a b = own-informed y.transactors t a b below

  pub own-join : (a b : DependenceMap) → held_at b t ≡ true → held_at (join y a b) t ≡ true
  own-join a b e = (held-join-test y.transactors a b t below).1 (inr e)

  -- a mark never signed was never signed before the join
  pub join-count : (a b : DependenceMap) → held_at b t ≡ true → (history_at (join y a b) t).count ≡ 0 → (history_at b t).count ≡ 0
  join-count a b e z = go (join-view y.transactors a b t below) e z
    where
      go : {p q r : Bool} {x w m : History} → Joined p x q w r m → q ≡ true → m.count ≡ 0 → w.count ≡ 0
      go (Joined.both p q n) k c = omega (arith, newer-count n)
      go (Joined.left p q) k c = never (sym k ∙ q)
      go (Joined.right p q) k c = c
      go (Joined.neither p q) k c = never (sym k ∙ q)

-- ---- what a parcel or a child is given

module _ (y : Layout) (c opened t : ℕ) {x : Transactor} (o : TransactorOk y x) (below : t < y.transactors) (own : held_at x.state t ≡ true) where
  pub own-history : HistoryOk y (own_history t x)
  own-history = held-history y t o.state below own

  pub ok-carried : DependencesOk y (carried y t x)
  unfolding carried
  ok-carried = ok-join y (ok-join y o.creation o.behaviour) (ok-only y t below own-history)

  pub known_carried : t < opened → Known c opened x.state → Known c opened x.creation → Known c opened x.behaviour → Known c opened (carried y t x)
  unfolding carried
  known_carried k s a b = known-join y c opened _ _ (known-join y c opened _ _ a b) (known_only y c opened t _ k (known-count y c opened s t))
