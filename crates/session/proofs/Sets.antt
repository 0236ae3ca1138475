-- A set of lives (the book's) and a map of newest marks (the ledger's): the relation between the two, and why the tests at a
-- receipt give the same on both.
use Prim.Native.Nat.{ℕ}
use mathlib.Core.Bool.{Bool, true, false≢true}
use mathlib.Core.Path.{◌≡◌, refl, ap, sym}
use mathlib.Core.List.Memᴰ
use mathlib.Core.List.{[], ◌∷◌, ◌++◌, Memᴰ}
use mathlib.Core.Logic.{⊎_elim, ◌⊎◌, inl, inr, ◌↔◌}
use mathlib.Core.Option.{Option, none, some}
use native.Mathlib.Omega.{arith}
use lib.Dec.{eqb}
use borrow.Author.Tests.{eqb-true, eq-eqb}
use Rattle.octets.specs.Bytes.{◌and◌}
use Rattle.marks.specs.Incarnation.{Incarnation, Superseded, superseded_by}
use Rattle.marks.specs.History.{HistoryView, newer_view}
use Rattle.marks.specs.Order.{Precedes}
use Rattle.marks.proofs.Order.{precedes-refl, precedes-trans, newest-superseded}
use Rattle.octets.proofs.Zero.{both}
use Rattle.marks.proofs.Tests.{superseded-test}
use Rattle.marks.proofs.Histories.{◌⊑◌, ⊑_trans, newer_view-which, newer_view-later, newer_view-right}
use Rattle.maps.specs.Internal.View.{MapView, join_entry, join_view, empty_view, singleton_view, SupersededView, superseded-entry}
use Rattle.octets.proofs.Tables.{updated-view, updated-same}
use Rattle.session.specs.Provenance.{Entry, Incarnations, In, one, any_entry, superseded_entry, any_superseded}
use Rattle.session.proofs.Tables.{or-to, or-of, and-of}

-- ---- A and B at one take: P the lives of the set, c the take's present mark

-- A: its life is in the set, and every life of the set precedes it. B: it is known, a past mark or the present one.
pub record Newest (P : Incarnation → Type 0) (c m : HistoryView) : Type 0 where
  pub has : P m.incarnation
  pub top : (a : Incarnation) → P a → Precedes a m.incarnation
  pub known : m ⊑ c

pub data Cell (P : Incarnation → Type 0) (c : HistoryView) : Option HistoryView → Type 0 where
  empty : ((a : Incarnation) → P a → ⊥) → Cell P c none
  newest : {m : HistoryView} → Newest P c m → Cell P c (some m)

-- the same lives, said otherwise
pub cell-map : {P Q : Incarnation → Type 0} {c : HistoryView} {o : Option HistoryView}
    → ((a : Incarnation) → P a → Q a) → ((a : Incarnation) → Q a → P a) → Cell P c o → Cell Q c o
cell-map f g (empty e) = empty (λ a q. e a (g a q))
cell-map f g (newest h) = newest (record { has = f _ h.has; top = λ a q. h.top a (g a q); known = h.known })

-- a later present mark keeps what is known
pub cell-later : {P : Incarnation → Type 0} {c d : HistoryView} {o : Option HistoryView} → c ⊑ d → Cell P c o → Cell P d o
cell-later l (empty e) = empty e
cell-later l (newest h) = newest (record { has = h.has; top = h.top; known = ⊑_trans h.known l })

-- the newest mark of a set that has a life
pub cell-some : {P : Incarnation → Type 0} {c : HistoryView} {o : Option HistoryView} (a : Incarnation) → P a → Cell P c o → (m : HistoryView) × (o ≡ some m) × Newest P c m
cell-some a p (empty e) = absurd (e a p)
cell-some a p (newest {m = m} h) = (m, refl, h)

pub cell-has : {P : Incarnation → Type 0} {c m : HistoryView} {o : Option HistoryView} → o ≡ some m → Cell P c o → Newest P c m
cell-has e (empty f) = let z : ◌≡◌ {A = ℕ} 0 1 = cc in absurd (omega arith)
cell-has {m = n} e (newest {m = k} h) = let q : k ≡ n = cc in rw q at h

pub cell-none : {P : Incarnation → Type 0} {c : HistoryView} {o : Option HistoryView} → ((a : Incarnation) → P a → ⊥) → Cell P c o → o ≡ none
cell-none f (empty e) = refl
cell-none f (newest h) = absurd (f _ h.has)

either : {A : Type 0} (R : A → Type 0) {x m n : A} → (x ≡ m) ⊎ (x ≡ n) → R m → R n → R x
either R (inl e) p q = rw e p
either R (inr e) p q = rw e q

newest-join : {P Q : Incarnation → Type 0} {c m n : HistoryView} → Newest P c m → Newest Q c n → Newest (λ a. P a ⊎ Q a) c (newer_view m n)
newest-join {P} {Q} {c} {m} {n} h k =
    let w = newer_view-which m n in
    let l = newer_view-later m n c.incarnation h.known.incarnation k.known.incarnation in
    record {
      has = either (λ x. P x.incarnation ⊎ Q x.incarnation) w (inl h.has) (inr k.has);
      top = λ a. ⊎_elim (λ p. precedes-trans (h.top a p) l.0) (λ q. precedes-trans (k.top a q) l.1);
      known = either (λ x. x ⊑ c) w h.known k.known;
    }

-- joined cells hold the newest mark of the united sets: both are known, so the newer one is the later one
pub cell_join : {P Q : Incarnation → Type 0} {c : HistoryView} {x y : Option HistoryView} → Cell P c x → Cell Q c y → Cell (λ a. P a ⊎ Q a) c (join_entry x y)
unfolding join_entry
cell_join (empty e) (empty f) = empty (λ a. ⊎_elim (e a) (f a))
cell_join (empty e) (newest k) = newest (record { has = inr k.has; top = λ a. ⊎_elim (λ p. absurd (e a p)) (k.top a); known = k.known })
cell_join (newest h) (empty f) = newest (record { has = inl h.has; top = λ a. ⊎_elim (h.top a) (λ q. absurd (f a q)); known = h.known })
cell_join (newest h) (newest k) = newest (newest-join h k)

-- joining what is known to the present mark leaves the present mark
pub own-kept : {P : Incarnation → Type 0} {m : HistoryView} {o e : Option HistoryView} → Cell P m o → e ≡ some m → join_entry o e ≡ some m
unfolding join_entry
own-kept (empty k) e = e
own-kept {m = m} (newest {m = n} k) e = rw e (ap some (newer_view-right n m k.known))

-- ---- A and B of a map and a set, at the present marks `now`

abbrev pub SetRel : (ℕ → HistoryView) → MapView → Incarnations → Type 0
SetRel now M X = (u : ℕ) → Cell (λ a. In u a X) (now u) (M u)

pub set-join : (now : ℕ → HistoryView) (M N : MapView) (X Y : Incarnations) → SetRel now M X → SetRel now N Y → SetRel now (join_view M N) (X ++ Y)
set-join now M N X Y h k u =
    cell-map (λ a. ⊎_elim (Memᴰ.append_left Y) (Memᴰ.append_right X)) (λ a. Memᴰ.append_cases X) (cell_join (h u) (k u))

pub set-later : (now later : ℕ → HistoryView) (M : MapView) (X : Incarnations) → ((u : ℕ) → now u ⊑ later u) → SetRel now M X → SetRel later M X
set-later now later M X l h u = cell-later (l u) (h u)

-- every life of the set is a past or present one
pub set_known : (now : ℕ → HistoryView) (M : MapView) (X : Incarnations) → SetRel now M X → (u : ℕ) (a : Incarnation) → In u a X → Precedes a (now u).incarnation
set_known now M X h u a x = let k = cell-some a x (h u) in precedes-trans (k.2.top a x) k.2.known.incarnation

pub none-rel : (now : ℕ → HistoryView) → SetRel now empty_view []
none-rel now u = empty (λ a x. Memᴰ.not-nil x)

-- one life alone
pub in_one : {t u : ℕ} {a c : Incarnation} → In u a (one t c) → (u ≡ t) × (a ≡ c)
in_one k = let e = Memᴰ.eq_of_singleton k in (ap (λ z. z.transactor) e, ap (λ z. z.incarnation) e)

pub only_same : (t : ℕ) (m : HistoryView) → singleton_view t m t ≡ some m
unfolding singleton_view
only_same t m = updated-same empty_view t (some m)

pub only-rel : (now : ℕ → HistoryView) (t : ℕ) (m : HistoryView) → m ⊑ now t → SetRel now (singleton_view t m) (one t m.incarnation)
unfolding singleton_view
only-rel now t m h = updated-view (λ u o. Cell (λ a. In u a (one t m.incarnation)) (now u) o) empty_view t (some m)
    (newest (record { has = Memᴰ.head refl; top = λ a x. rw (in_one x).1 (precedes-refl _); known = h }))
    (λ u n. empty (λ a x. n (sym (in_one x).0)))

-- ---- C: no life is stale by another of the same take

abbrev pub Coherent : (ℕ → Incarnation → Type 0) → Type 0
Coherent P = (u : ℕ) (a b : Incarnation) → P u a → P u b → Superseded a b → ⊥

abbrev pub Members : Incarnations → ℕ → Incarnation → Type 0
Members X u a = In u a X

pub coherent-part : (P Q : ℕ → Incarnation → Type 0) → ((u : ℕ) (a : Incarnation) → Q u a → P u a) → Coherent P → Coherent Q
coherent-part P Q f h u a b x y = h u a b (f u a x) (f u b y)

-- ---- the tests at a receipt

-- a life of X is stale by one of the same take in Y
pub data SupersededSet (X Y : Incarnations) : Type 0 where
  superseded-set : (u : ℕ) (a b : Incarnation) → In u a X → In u b Y → Superseded a b → SupersededSet X Y

-- the test on sets and the test on their newest marks
pub superseded_set-same : (now : ℕ → HistoryView) (M N : MapView) (X Y : Incarnations) → SetRel now M X → SetRel now N Y → Coherent (Members X) → SupersededSet X Y ↔ SupersededView M N
superseded_set-same now M N X Y h k coherent = (to, from)
  where
    to : SupersededSet X Y → SupersededView M N
    to (superseded-set u a b x y s) =
        let p = cell-some a x (h u) in
        let j = cell-some b y (k u) in
        superseded-entry u p.0 j.0 p.1 j.1
        (newest-superseded s (j.2.top b y) (p.2.top a x) (coherent u a p.0.incarnation x p.2.has) p.2.known.incarnation j.2.known.incarnation)

    from : SupersededView M N → SupersededSet X Y
    from (superseded-entry u a b p q s) = superseded-set u a.incarnation b.incarnation (cell-has p (h u)).has (cell-has q (k u)).has s

-- ---- the book's test says whether there is such a life

any-to : (f : Entry → Bool) (X : Incarnations) → any_entry f X ≡ true → (e : Entry) × Memᴰ e X × (f e ≡ true)
unfolding any_entry
any-to f [] p = absurd (false≢true p)
any-to f (x ∷ X) p = ⊎_elim (λ q. (x, Memᴰ.head refl, q)) (λ q. let k = any-to f X q in (k.0, Memᴰ.tail k.1, k.2)) (or-to (f x) (any_entry f X) p)

any_of : (f : Entry → Bool) (X : Incarnations) (e : Entry) → Memᴰ e X → f e ≡ true → any_entry f X ≡ true
unfolding any_entry
any_of f [] e x p = absurd (Memᴰ.not-nil x)
any_of f (y ∷ X) e x p = or-of (f y) (any_entry f X) (⊎_elim (λ q. inl (rw q at p)) (λ k. inr (any_of f X e k p)) (Memᴰ.cases_cons x))

entry-test : (x z : Entry) → (superseded_entry x z ≡ true) ↔ ((x.transactor ≡ z.transactor) × Superseded x.incarnation z.incarnation)
unfolding superseded_entry
entry-test x z = (to, of)
  where
    same : Bool
    same = eqb x.transactor z.transactor

    superseded : Bool
    superseded = superseded_by x.incarnation z.incarnation

    to : same and superseded ≡ true → (x.transactor ≡ z.transactor) × Superseded x.incarnation z.incarnation
    to e = let h = both same superseded e in
        (eqb-true x.transactor z.transactor h.0, (superseded-test x.incarnation z.incarnation).0 h.1)

    of : (x.transactor ≡ z.transactor) × Superseded x.incarnation z.incarnation → same and superseded ≡ true
    of h = and-of same superseded (eq-eqb x.transactor z.transactor h.0) ((superseded-test x.incarnation z.incarnation).1 h.1)

pub superseded_set-test : (X Y : Incarnations) → (any_superseded X Y ≡ true) ↔ SupersededSet X Y
unfolding any_superseded
superseded_set-test X Y = (to, of)
  where
    to : any_entry (λ x. any_entry (superseded_entry x) Y) X ≡ true → SupersededSet X Y
    to e =
        let x = any-to (λ x. any_entry (superseded_entry x) Y) X e in
        let z = any-to (superseded_entry x.0) Y x.2 in
        let h = (entry-test x.0 z.0).0 z.2 in
        superseded-set x.0.transactor x.0.incarnation z.0.incarnation x.1 (rw h.0 z.1) h.1

    of : SupersededSet X Y → any_entry (λ x. any_entry (superseded_entry x) Y) X ≡ true
    of (superseded-set u a b x y s) =
        let p : Entry = record { transactor = u; incarnation = a } in
        let q : Entry = record { transactor = u; incarnation = b } in
        any_of (λ x. any_entry (superseded_entry x) Y) X p x (any_of (superseded_entry p) Y q y ((entry-test p q).1 (refl, s)))
