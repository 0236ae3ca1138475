-- What a walk back that carries no life finds: two lives met, the one stale by the other; and present lives met.
use Prim.Native.Nat.{ℕ, zero, suc, ◌<◌}
use mathlib.Core.Bool.{Bool, true, false, not, true≢false, false≢true}
use mathlib.Core.Path.{◌≡◌, refl, sym, ◌∙◌, subst}
use mathlib.Core.List.{List, [], ◌∷◌}
use mathlib.Core.Logic.{◌⊎◌, inl, inr, ⊎_elim, ◌↔◌}
use mathlib.Core.Option.{Option, none, some}
use borrow.Author.Tests.{not-true}
use Rattle.octets.specs.Bytes.{pick, ◌and◌, ◌or◌, any}
use Rattle.octets.proofs.Zero.{both, any-on, any_some}
use Rattle.marks.specs.Incarnation.{Incarnation, next_incarnation, checkpoint_incarnation, Superseded}
use Rattle.marks.specs.Order.{Precedes}
use Rattle.marks.proofs.Order.{precedes-eq, precedes-trans, precedes-antisym, superseded-up, superseded-ne, superseded-precedes, superseded-next, superseded-not-checkpointed, checkpointed-up, checkpointed-ne, checkpointed-checkpoint, precedes-next, precedes-checkpoint}
use Rattle.rules.specs.Refusals.{group_bits}
use Rattle.octets.proofs.Tests.{or_off, and-off, true-or-false, and-of, or-to, or-of}
use Rattle.engine_chains.specs.Chain.{Places, Event, back, met_of}
use Rattle.engine_chains.specs.Internal.Sets.{Met, Traced, here, further}
use Rattle.engine_chains.specs.Internal.Walk.{is_met, meets}
use Rattle.engine_chains.proofs.Meets.{met_some, met-none}

-- ---- tests

clash : {A : Type 0} {c : Bool} → c ≡ true → c ≡ false → A
clash e f = absurd (true≢false (sym e ∙ f))

-- a life is met exactly if the test says so
pub meets-met : (e : Event) (Q : Places) (u : ℕ) → meets e Q u ≡ true → (a : Incarnation) × Met e Q u a
unfolding meets
meets-met e Q u h = go (met_of e Q u) refl h
  where
    go : (o : Option Incarnation) → met_of e Q u ≡ o → is_met o ≡ true → (a : Incarnation) × Met e Q u a
    go none i h = absurd (false≢true h)
    go (some a) i h = (a, met_some e Q u a i)

pub met-meets : (e : Event) (Q : Places) (u : ℕ) (a : Incarnation) → Met e Q u a → meets e Q u ≡ true
unfolding meets
met-meets e Q u a x = go (met_of e Q u) refl
  where
    go : (o : Option Incarnation) → met_of e Q u ≡ o → is_met o ≡ true
    go none i = absurd (met-none e Q u a i x)
    go (some c) i = refl

-- ---- from one life to the next

-- a before a step, c after it, at which the take fell (F) or was signed (S)
pub data Turned (F S : Bool) (a c : Incarnation) : Type 0 where
  stays : F ≡ false → S ≡ false → c ≡ a → Turned F S a c
  rolled-back : F ≡ true → c ≡ next_incarnation a → Turned F S a c
  checkpointed-now : F ≡ false → S ≡ true → c ≡ checkpoint_incarnation a → Turned F S a c

-- the same life, or another one that later ones tell from it
data Onward (F S : Bool) (a c : Incarnation) : Type 0 where
  still : F ≡ false → S ≡ false → c ≡ a → Onward F S a c
  lost : F ≡ true → ((d : Incarnation) → Precedes c d → Superseded a d) → Onward F S a c
  kept : F ≡ false → S ≡ true → ((d : Incarnation) → Precedes c d → (Superseded a d → ⊥) × (a ≡ d → ⊥)) → Onward F S a c

onward : {F S : Bool} {a c : Incarnation} → Turned F S a c → Onward F S a c
onward (stays e f i) = still e f i
onward {a = a} (rolled-back e i) = lost e (λ d p. superseded-up (rw i (superseded-next a)) p)
onward {a = a} (checkpointed-now e f i) = kept e f (λ d p.
    let k = checkpointed-up {a = a} (rw i (checkpointed-checkpoint a)) p in
    (λ s. superseded-not-checkpointed s k, λ q. checkpointed-ne k q))

onward-precedes : {F S : Bool} {a c : Incarnation} → Turned F S a c → Precedes a c
onward-precedes (stays e f i) = precedes-eq (sym i)
onward-precedes {a = a} (rolled-back e i) = rw i (precedes-next a)
onward-precedes {a = a} (checkpointed-now e f i) = rw i (precedes-checkpoint a)

-- ---- one side asked, the other known: half of a walk

pub record Half : Type 0 where
  pub asked : Places
  pub other : Places
  pub met : ℕ → Bool
  pub past : ℕ → Bool
  pub ended : ℕ → Bool
  pub found : Bool

unfoldable pub half_over : Event → (ℕ → Bool) → (ℕ → Bool) → Half → Half
half_over e F S h = record {
  asked = back e h.asked;
  other = back e h.other;
  met = λ u. h.met u or meets e h.other u;
  past = λ u. h.past u or ((h.met u or meets e h.other u) and (F u or S u));
  ended = λ u. pick (F u) true (pick (S u) false (h.ended u));
  found = h.found or any group_bits (λ u. meets e h.asked u and h.past u and h.ended u);
}

-- what the marks say of the lives P that were met on the other side, where each take u has the life `now u`
pub record Known (P : ℕ → Incarnation → Type 0) (now : ℕ → Incarnation) (met past ended : ℕ → Bool) : Type 0 where
  pub some : (u : ℕ) → met u ≡ true → (a : Incarnation) × P u a
  pub seen : (u : ℕ) (a : Incarnation) → P u a → met u ≡ true
  pub only : (u : ℕ) → past u ≡ true → met u ≡ true
  pub later : (u : ℕ) (a : Incarnation) → P u a → Precedes (now u) a
  pub same : (u : ℕ) (a : Incarnation) → past u ≡ false → P u a → a ≡ now u
  pub lost : (u : ℕ) → past u ≡ true → ended u ≡ true → (a : Incarnation) × P u a × Superseded (now u) a
  pub kept : (u : ℕ) (a : Incarnation) → past u ≡ true → ended u ≡ false → P u a → Superseded (now u) a → ⊥

-- the marks of take u tell exactly whether its life is stale by one that was met
module _ {P : ℕ → Incarnation → Type 0} {now : ℕ → Incarnation} {met past ended : ℕ → Bool} (k : Known P now met past ended) where
  known-to : (u : ℕ) → past u and ended u ≡ true → (a : Incarnation) × P u a × Superseded (now u) a
  known-to u e = let z = both (past u) (ended u) e in k.lost u z.0 z.1

  known_of : (u : ℕ) (a : Incarnation) → P u a → Superseded (now u) a → past u and ended u ≡ true
  known_of u a p s = ⊎_elim
      (λ i. ⊎_elim (λ j. and-of (past u) (ended u) i j) (λ j. absurd (k.kept u a i j p s)) (true-or-false (ended u)))
      (λ i. absurd (superseded-ne s (sym (k.same u a i p))))
      (true-or-false (past u))

-- those met so far, and the present lives of the takes X
pub data More (P : ℕ → Incarnation → Type 0) (X : ℕ → Bool) (now : ℕ → Incarnation) (u : ℕ) (a : Incarnation) : Type 0 where
  before : P u a → More P X now u a
  just : X u ≡ true → a ≡ now u → More P X now u a

module _ (P : ℕ → Incarnation → Type 0) (now was : ℕ → Incarnation) (met past ended X F S : ℕ → Bool) (turned : (u : ℕ) → Turned (F u) (S u) (was u) (now u)) (k : Known P now met past ended) where
  abbrev met2 : ℕ → Bool
  met2 u = met u or X u

  abbrev past2 : ℕ → Bool
  past2 u = past u or (met2 u and (F u or S u))

  abbrev ended2 : ℕ → Bool
  ended2 u = pick (F u) true (pick (S u) false (ended u))

  from-now : (u : ℕ) (a : Incarnation) → More P X now u a → Precedes (now u) a
  from-now u a (before p) = k.later u a p
  from-now u a (just e i) = precedes-eq (sym i)

  some2 : (u : ℕ) → met2 u ≡ true → (a : Incarnation) × More P X now u a
  some2 u e = ⊎_elim (λ i. let z = k.some u i in (z.0, before z.1)) (λ i. (now u, just i refl)) (or-to (met u) (X u) e)

  seen2 : (u : ℕ) (a : Incarnation) → More P X now u a → met2 u ≡ true
  seen2 u a (before p) = or-of (met u) (X u) (inl (k.seen u a p))
  seen2 u a (just e i) = or-of (met u) (X u) (inr e)

  only2 : (u : ℕ) → past2 u ≡ true → met2 u ≡ true
  only2 u e = ⊎_elim (λ i. or-of (met u) (X u) (inl (k.only u i))) (λ i. (both (met2 u) (F u or S u) i).0) (or-to (past u) (met2 u and (F u or S u)) e)

  -- nothing happened to take u
  unmoved : (u : ℕ) → F u ≡ false → S u ≡ false → past2 u ≡ true → past u ≡ true
  unmoved u i j e = ⊎_elim (λ p. p) (λ p. clash (both (met2 u) (F u or S u) p).1 (rw (i, j))) (or-to (past u) (met2 u and (F u or S u)) e)

  same2 : (u : ℕ) (a : Incarnation) → past2 u ≡ false → More P X now u a → a ≡ was u
  same2 u a e m = go (onward (turned u)) m
    where
      off : (past u ≡ false) × (met2 u and (F u or S u) ≡ false)
      off = or_off (past u) (met2 u and (F u or S u)) e

      quiet : F u or S u ≡ false
      quiet = and-off (met2 u) (F u or S u) off.1 (seen2 u a m)

      go : Onward (F u) (S u) (was u) (now u) → More P X now u a → a ≡ was u
      go (still i j q) (before p) = k.same u a off.0 p ∙ q
      go (still i j q) (just x p) = p ∙ q
      go (lost i g) w = clash i (or_off (F u) (S u) quiet).0
      go (kept i j g) w = clash j (or_off (F u) (S u) quiet).1

  lost2 : (u : ℕ) → past2 u ≡ true → ended2 u ≡ true → (a : Incarnation) × More P X now u a × Superseded (was u) a
  lost2 u e f = go (onward (turned u))
    where
      go : Onward (F u) (S u) (was u) (now u) → (a : Incarnation) × More P X now u a × Superseded (was u) a
      go (still i j q) = let z = k.lost u (unmoved u i j e) (rw (i, j) at f) in (z.0, before z.1, subst (λ (w : Incarnation). Superseded w z.0) q z.2)
      go (lost i g) = let z = some2 u (only2 u e) in (z.0, z.1, g z.0 (from-now u z.0 z.1))
      go (kept i j g) = clash (rw (i, j) at f) refl

  kept2 : (u : ℕ) (a : Incarnation) → past2 u ≡ true → ended2 u ≡ false → More P X now u a → Superseded (was u) a → ⊥
  kept2 u a e f m s = go (onward (turned u)) m
    where
      go : Onward (F u) (S u) (was u) (now u) → More P X now u a → ⊥
      go (still i j q) (before p) = k.kept u a (unmoved u i j e) (rw (i, j) at f) p (subst (λ (w : Incarnation). Superseded w a) (sym q) s)
      go (still i j q) (just x p) = superseded-ne s (sym (p ∙ q))
      go (lost i g) w = true≢false (rw i at f)
      go (kept i j g) w = (g a (from-now u a w)).0 s

  known-back : Known (More P X now) was met2 past2 ended2
  known-back = record {
    some = some2;
    seen = seen2;
    only = only2;
    later = λ u a m. precedes-trans (onward-precedes (turned u)) (from-now u a m);
    same = same2;
    lost = lost2;
    kept = kept2;
  }

-- ---- a walk over the events E 0 .. E (r - 1), the last one first

unfoldable pub first_events : (ℕ → Event) → ℕ → List Event
first_events E zero = []
first_events E (suc r) = E r ∷ first_events E r

unfoldable pub half_walk : (ℕ → Event) → (F S : ℕ → ℕ → Bool) → ℕ → Half → Half
half_walk E F S zero h = h
half_walk E F S (suc r) h = half_walk E F S r (half_over (E r) (F r) (S r) h)

-- the lives of the takes from step to step, and that a step meets present ones
pub record Course (E : ℕ → Event) (F S : ℕ → ℕ → Bool) (incarnation : ℕ → ℕ → Incarnation) : Type 0 where
  pub turned : (r u : ℕ) → Turned (F r u) (S r u) (incarnation r u) (incarnation (suc r) u)
  pub own : (r : ℕ) (Q : Places) (u : ℕ) (a : Incarnation) → Met (E r) Q u a → a ≡ incarnation (suc r) u
  pub few : (r : ℕ) (Q : Places) (u : ℕ) (a : Incarnation) → Met (E r) Q u a → u < group_bits

-- a life met on the way from A, stale by one of P or one met on the way from B
pub data Pair (P : ℕ → Incarnation → Type 0) (es : List Event) (A B : Places) : Type 0 where
  pair : (u : ℕ) (c a : Incarnation) → Traced es A u c → P u a ⊎ Traced es B u a → Superseded c a → Pair P es A B

module _ {E : ℕ → Event} {F S : ℕ → ℕ → Bool} {incarnation : ℕ → ℕ → Incarnation} (l : Course E F S incarnation) where
  pub traced-past : (r : ℕ) {Q : Places} {u : ℕ} {a : Incarnation} → Traced (first_events E r) Q u a → Precedes a (incarnation r u)
  unfolding first_events
  traced-past zero x = elim x [ ]
  traced-past (suc r) (here x) = precedes-eq (l.own r _ _ _ x)
  traced-past (suc r) {u = u} (further x) = precedes-trans (traced-past r x) (onward-precedes (l.turned r u))

  module _ (r : ℕ) (h : Half) (P : ℕ → Incarnation → Type 0) (k : Known P (incarnation (suc r)) h.met h.past h.ended) where
    abbrev X : ℕ → Bool
    X = meets (E r) h.other

    abbrev P2 : ℕ → Incarnation → Type 0
    P2 = More P X (incarnation (suc r))

    pair-to : Pair P2 (first_events E r) (back (E r) h.asked) (back (E r) h.other) → Pair P (first_events E (suc r)) h.asked h.other
    unfolding first_events
    pair-to (pair u c a t (inl (before p)) s) = pair u c a (further t) (inl p) s
    pair-to (pair u c a t (inl (just x q)) s) =
        let z = meets-met (E r) h.other u x in
        pair u c a (further t) (inr (here (subst (Met (E r) h.other u) (l.own r h.other u z.0 z.1 ∙ sym q) z.1))) s
    pair-to (pair u c a t (inr w) s) = pair u c a (further t) (inr (further w)) s

    found-to : any group_bits (λ u. meets (E r) h.asked u and h.past u and h.ended u) ≡ true → Pair P (first_events E (suc r)) h.asked h.other
    unfolding first_events
    found-to e =
        let i = any_some (λ u. meets (E r) h.asked u and h.past u and h.ended u) group_bits e in
        let u : ℕ = i.0 in
        let z = both (meets (E r) h.asked u) (h.past u and h.ended u) i.1 in
        let m = meets-met (E r) h.asked u z.0 in
        let w = known-to k u z.1 in
        pair u m.0 w.0 (here m.1) (inl w.1) (subst (λ (c : Incarnation). Superseded c w.0) (sym (l.own r h.asked u m.0 m.1)) w.2)

    pair_of : Pair P (first_events E (suc r)) h.asked h.other
        → (any group_bits (λ u. meets (E r) h.asked u and h.past u and h.ended u) ≡ true) ⊎ Pair P2 (first_events E r) (back (E r) h.asked) (back (E r) h.other)
    unfolding first_events
    pair_of (pair u c a (here m) (inl p) s) = inl (any-on (λ u. meets (E r) h.asked u and h.past u and h.ended u) group_bits u (l.few r h.asked u c m)
        (and-of (meets (E r) h.asked u) (h.past u and h.ended u) (met-meets (E r) h.asked u c m) (known_of k u a p (subst (λ (c : Incarnation). Superseded c a) (l.own r h.asked u c m) s))))
    pair_of (pair u c a (here m) (inr (here n)) s) = absurd (superseded-ne s (l.own r h.asked u c m ∙ sym (l.own r h.other u a n)))
    pair_of (pair u c a (here m) (inr (further w)) s) =
        let q : Precedes a c = rw (l.own r h.asked u c m) (precedes-trans (traced-past r w) (onward-precedes (l.turned r u))) in
        absurd (superseded-ne s (precedes-antisym (superseded-precedes s) q))
    pair_of (pair u c a (further t) (inl p) s) = inr (pair u c a t (inl (before p)) s)
    pair_of (pair u c a (further t) (inr (here n)) s) = inr (pair u c a t (inl (just (met-meets (E r) h.other u a n) (l.own r h.other u a n))) s)
    pair_of (pair u c a (further t) (inr (further w)) s) = inr (pair u c a t (inr w) s)

  pub half-found : (r : ℕ) (h : Half) (P : ℕ → Incarnation → Type 0) → Known P (incarnation r) h.met h.past h.ended
      → ((half_walk E F S r h).found ≡ true) ↔ ((h.found ≡ true) ⊎ Pair P (first_events E r) h.asked h.other)
  unfolding half_walk half_over first_events
  half-found zero h P k = (λ e. inl e, ⊎_elim (λ e. e) none)
    where
      none : Pair P [] h.asked h.other → h.found ≡ true
      none (pair u c a t w s) = elim t [ ]
  half-found (suc r) h P k =
      let i = half-found r (half_over (E r) (F r) (S r) h) (P2 r h P k) (known-back P (incarnation (suc r)) (incarnation r) h.met h.past h.ended (X r h P k) (F r) (S r) (l.turned r) k) in
      let here_found : Bool = any group_bits (λ u. meets (E r) h.asked u and h.past u and h.ended u) in (
        λ e. ⊎_elim (λ f. ⊎_elim (λ p. inl p) (λ p. inr (found-to r h P k p)) (or-to h.found here_found f)) (λ p. inr (pair-to r h P k p)) (i.0 e),
        λ e. i.1 (⊎_elim (λ p. inl (or-of h.found here_found (inl p))) (λ p. ⊎_elim (λ q. inl (or-of h.found here_found (inr q))) (λ q. inr q) (pair_of r h P k p)) e),
      )

-- ---- present lives met

pub record Present : Type 0 where
  pub asked : Places
  -- takes whose life of this point is not the present one
  pub past : ℕ → Bool
  pub found : Bool

unfoldable pub present_over : (ℕ → Bool) → Event → (ℕ → Bool) → (ℕ → Bool) → Present → Present
present_over allowed e F S o = record {
  asked = back e o.asked;
  past = λ u. o.past u or (F u or S u);
  found = o.found or any group_bits (λ u. meets e o.asked u and not (o.past u) and not (allowed u));
}

unfoldable pub present_walk : (ℕ → Bool) → (ℕ → Event) → (F S : ℕ → ℕ → Bool) → ℕ → Present → Present
present_walk allowed E F S zero o = o
present_walk allowed E F S (suc r) o = present_walk allowed E F S r (present_over allowed (E r) (F r) (S r) o)

-- the present life of a take that is not allowed, met on the way from A
pub data Unallowed (allowed : ℕ → Bool) (now : ℕ → Incarnation) (es : List Event) (A : Places) : Type 0 where
  unallowed : (u : ℕ) → Traced es A u (now u) → allowed u ≡ false → Unallowed allowed now es A

-- `past` tells the lives of this point from the present ones
pub record Apart (incarnation now : ℕ → Incarnation) (past : ℕ → Bool) : Type 0 where
  pub later : (u : ℕ) → Precedes (incarnation u) (now u)
  pub same : (u : ℕ) → past u ≡ false → incarnation u ≡ now u
  pub apart : (u : ℕ) → past u ≡ true → incarnation u ≡ now u → ⊥

apart-back : {was incarnation now : ℕ → Incarnation} {past F S : ℕ → Bool} → ((u : ℕ) → Turned (F u) (S u) (was u) (incarnation u)) → Apart incarnation now past → Apart was now (λ u. past u or (F u or S u))
apart-back {was} {incarnation} {now} {past} {F} {S} turned k = record {
  later = λ u. precedes-trans (onward-precedes (turned u)) (k.later u);
  same = λ u e. equal u (or_off (past u) (F u or S u) e) (onward (turned u));
  apart = λ u e. different u (or-to (past u) (F u or S u) e) (onward (turned u));
}
  where
    equal : (u : ℕ) → (past u ≡ false) × (F u or S u ≡ false) → Onward (F u) (S u) (was u) (incarnation u) → was u ≡ now u
    equal u e (still i j q) = sym q ∙ k.same u e.0
    equal u e (lost i g) = clash i (or_off (F u) (S u) e.1).0
    equal u e (kept i j g) = clash j (or_off (F u) (S u) e.1).1

    different : (u : ℕ) → (past u ≡ true) ⊎ (F u or S u ≡ true) → Onward (F u) (S u) (was u) (incarnation u) → was u ≡ now u → ⊥
    different u (inl e) (still i j q) = λ z. k.apart u e (q ∙ z)
    different u (inr e) (still i j q) = λ z. clash e (rw (i, j))
    different u e (lost i g) = λ z. superseded-ne (g (now u) (k.later u)) z
    different u e (kept i j g) = λ z. (g (now u) (k.later u)).1 z

module _ {E : ℕ → Event} {F S : ℕ → ℕ → Bool} {incarnation : ℕ → ℕ → Incarnation} (l : Course E F S incarnation) (allowed : ℕ → Bool) (now : ℕ → Incarnation) where
  unallowed-here : (r : ℕ) (o : Present) → Apart (incarnation (suc r)) now o.past
      → (Unallowed allowed now (first_events E (suc r)) o.asked)
      ↔ ((any group_bits (λ u. meets (E r) o.asked u and not (o.past u) and not (allowed u)) ≡ true) ⊎ Unallowed allowed now (first_events E r) (back (E r) o.asked))
  unfolding first_events
  unallowed-here r o k = (to, of)
    where
      f : ℕ → Bool
      f u = meets (E r) o.asked u and not (o.past u) and not (allowed u)

      to : Unallowed allowed now (E r ∷ first_events E r) o.asked → (any group_bits f ≡ true) ⊎ Unallowed allowed now (first_events E r) (back (E r) o.asked)
      to (unallowed u (here m) e) = inl (any-on f group_bits u (l.few r o.asked u (now u) m)
          (and-of (meets (E r) o.asked u) (not (o.past u) and not (allowed u)) (met-meets (E r) o.asked u (now u) m)
          (and-of (not (o.past u)) (not (allowed u)) (⊎_elim (λ i. absurd (k.apart u i (sym (l.own r o.asked u (now u) m)))) (λ i. rw i) (true-or-false (o.past u))) (rw e))))
      to (unallowed u (further t) e) = inr (unallowed u t e)

      of : (any group_bits f ≡ true) ⊎ Unallowed allowed now (first_events E r) (back (E r) o.asked) → Unallowed allowed now (E r ∷ first_events E r) o.asked
      of (inl e) =
          let i = any_some f group_bits e in
          let u : ℕ = i.0 in
          let z = both (meets (E r) o.asked u) (not (o.past u) and not (allowed u)) i.1 in
          let w = both (not (o.past u)) (not (allowed u)) z.1 in
          let m = meets-met (E r) o.asked u z.0 in
          unallowed u (here (subst (Met (E r) o.asked u) (l.own r o.asked u m.0 m.1 ∙ k.same u (not-true (o.past u) w.0)) m.1)) (not-true (allowed u) w.1)
      of (inr (unallowed u t e)) = unallowed u (further t) e

  pub present-found : (r : ℕ) (o : Present) → Apart (incarnation r) now o.past
      → ((present_walk allowed E F S r o).found ≡ true) ↔ ((o.found ≡ true) ⊎ Unallowed allowed now (first_events E r) o.asked)
  unfolding present_walk present_over first_events
  present-found zero o k = (λ e. inl e, ⊎_elim (λ e. e) none)
    where
      none : Unallowed allowed now [] o.asked → o.found ≡ true
      none (unallowed u t e) = elim t [ ]
  present-found (suc r) o k =
      let i = present-found r (present_over allowed (E r) (F r) (S r) o) (apart-back (l.turned r) k) in
      let j = unallowed-here r o k in
      let c : Bool = any group_bits (λ u. meets (E r) o.asked u and not (o.past u) and not (allowed u)) in (
        λ e. ⊎_elim (λ f. ⊎_elim (λ p. inl p) (λ p. inr (j.1 (inl p))) (or-to o.found c f)) (λ p. inr (j.1 (inr p))) (i.0 e),
        λ e. i.1 (⊎_elim (λ p. inl (or-of o.found c (inl p))) (λ p. ⊎_elim (λ q. inl (or-of o.found c (inr q))) (λ q. inr q) (j.0 p)) e),
      )
