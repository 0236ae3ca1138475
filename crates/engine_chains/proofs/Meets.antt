-- The life that going back over an event meets at some places: the computed one is met, and where none is computed none is met.
use Prim.Native.Nat.{ℕ}
use mathlib.Core.Bool.{Bool, true, false, false≢true}
use mathlib.Core.Path.{◌≡◌, refl, sym, ◌∙◌, subst}
use mathlib.Core.Logic.{◌⊎◌, inl, inr, ⊎_elim}
use mathlib.Core.Option.{Option, none, some}
use native.Mathlib.Omega.{arith}
use lib.Dec.{eqb}
use borrow.Author.Tests.{eqb-true, eq-eqb}
use Rattle.octets.specs.Bytes.{pick, ◌and◌, ◌or◌}
use Rattle.octets.proofs.Zero.{both}
use Rattle.marks.specs.Incarnation.{Incarnation, initial_incarnation}
use Rattle.octets.specs.Table.{updated}
use Rattle.engine_chains.specs.Chain as chain
use Rattle.engine_chains.specs.Internal.Sets as sets
use Rattle.engine_chains.specs.Chain.{Places, Event, back, or_else, met_of}
use Rattle.engine_chains.specs.Internal.Sets.{Met, sender, opener, child, child-known, in-later, in-earlier}
use Rattle.engine_chains.specs.Internal.Walk.{is_met}
use Rattle.octets.proofs.Tests.{or-to, or-of, and-of}

none-some : {A : Type 0} {a : Incarnation} → none ≡ some a → A
none-some e = let z : ◌≡◌ {A = ℕ} 0 1 = cc in absurd (omega arith)

some-none : {A : Type 0} {a : Incarnation} → some a ≡ none → A
some-none e = let z : ◌≡◌ {A = ℕ} 0 1 = cc in absurd (omega arith)

some_same : {a c : Incarnation} → some a ≡ some c → a ≡ c
some_same {a} {c} e = cc

pick_some : (c : Bool) (x y : Option Incarnation) (a : Incarnation) → pick c x y ≡ some a → ((c ≡ true) × (x ≡ some a)) ⊎ ((c ≡ false) × (y ≡ some a))
pick_some true x y a e = inl (refl, e)
pick_some false x y a e = inr (refl, e)

pick-none : (c : Bool) (a : Incarnation) (y : Option Incarnation) → pick c (some a) y ≡ none → (c ≡ false) × (y ≡ none)
pick-none true a y e = some-none e
pick-none false a y e = (refl, e)

else-some : (x y : Option Incarnation) (a : Incarnation) → or_else x y ≡ some a → (x ≡ some a) ⊎ ((x ≡ none) × (y ≡ some a))
unfolding or_else
else-some (some c) y a e = inl e
else-some none y a e = inr (refl, e)

else-none : (x y : Option Incarnation) → or_else x y ≡ none → (x ≡ none) × (y ≡ none)
unfolding or_else
else-none (some c) y e = some-none e
else-none none y e = (refl, e)

pub met_some : (e : Event) (Q : Places) (u : ℕ) (a : Incarnation) → met_of e Q u ≡ some a → Met e Q u a
unfolding met_of
met_some chain.nothing Q u a h = none-some h
met_some (chain.cleared n) Q u a h = none-some h
met_some (chain.sent n t c) Q u a h = ⊎_elim
    (λ z. let w = both (Q.message n) (eqb t u) z.0 in rw (← eqb-true t u w.1, ← some_same z.1) (sender w.0))
    (λ z. none-some z.1) (pick_some (Q.message n and eqb t u) (some c) none a h)
met_some (chain.taken n t) Q u a h = none-some h
met_some (chain.opens t o c) Q u a h = ⊎_elim
    (λ z. let w = both (Q.creation o) (eqb t u) z.0 in rw (← eqb-true t u w.1, ← some_same z.1) (opener w.0))
    (λ z. ⊎_elim (λ y. kid (both (Q.state o or updated Q.behaviour o false t) (eqb o u) y.0) (some_same y.1)) (λ y. none-some y.1)
    (pick_some ((Q.state o or updated Q.behaviour o false t) and eqb o u) (some initial_incarnation) none a z.1))
    (pick_some (Q.creation o and eqb t u) (some c) _ a h)
  where
    kid : (Q.state o or updated Q.behaviour o false t ≡ true) × (eqb o u ≡ true) → initial_incarnation ≡ a → Met (chain.opens t o c) Q u a
    kid w i = ⊎_elim (λ x. rw (← eqb-true o u w.1, ← i) (child x)) (λ x. rw (← eqb-true o u w.1, ← i) (child-known x)) (or-to (Q.state o) (updated Q.behaviour o false t) w.0)
met_some (chain.reads t) Q u a h = none-some h
met_some (chain.writes t) Q u a h = none-some h
met_some (chain.finishes t) Q u a h = none-some h
met_some (chain.renewed v c) Q u a h = ⊎_elim
    (λ z. let w = both (v u) (Q.state u) z.0 in subst (λ x. Met (chain.renewed v c) Q u x) (some_same z.1) (sets.anew w.0 w.1))
    (λ z. none-some z.1) (pick_some (v u and Q.state u) (some (c u)) none a h)
met_some (chain.annihilated t) Q u a h = none-some h
met_some (chain.successive e f) Q u a h = ⊎_elim (λ z. in-later (met_some f Q u a z)) (λ z. in-earlier (met_some e (back f Q) u a z.1)) (else-some (met_of f Q u) (met_of e (back f Q) u) a h)

pub met-none : (e : Event) (Q : Places) (u : ℕ) (a : Incarnation) → met_of e Q u ≡ none → Met e Q u a → ⊥
unfolding met_of
met-none chain.nothing Q u a h x = elim x [ ]
met-none (chain.cleared n) Q u a h x = elim x [ ]
met-none (chain.taken n t) Q u a h x = elim x [ ]
met-none (chain.reads t) Q u a h x = elim x [ ]
met-none (chain.writes t) Q u a h x = elim x [ ]
met-none (chain.finishes t) Q u a h x = elim x [ ]
met-none (chain.annihilated t) Q u a h x = elim x [ ]
met-none (chain.sent n t c) Q u a h (sender q) = false≢true (sym (pick-none (Q.message n and eqb t u) c none h).0 ∙ and-of (Q.message n) (eqb t u) q (eq-eqb t u refl))
met-none (chain.opens t o c) Q u a h (opener q) = false≢true (sym (pick-none (Q.creation o and eqb t u) c _ h).0 ∙ and-of (Q.creation o) (eqb t u) q (eq-eqb t u refl))
met-none (chain.opens t o c) Q u a h (child q) =
    let k = (pick-none (Q.creation o and eqb t u) c (pick ((Q.state o or updated Q.behaviour o false t) and eqb o u) (some initial_incarnation) none) h).1 in
    let j = (pick-none ((Q.state o or updated Q.behaviour o false t) and eqb o u) initial_incarnation none k).0 in
    false≢true (sym j ∙ and-of (Q.state o or updated Q.behaviour o false t) (eqb o u) (or-of (Q.state o) (updated Q.behaviour o false t) (inl q)) (eq-eqb o u refl))
met-none (chain.opens t o c) Q u a h (child-known q) =
    let k = (pick-none (Q.creation o and eqb t u) c (pick ((Q.state o or updated Q.behaviour o false t) and eqb o u) (some initial_incarnation) none) h).1 in
    let j = (pick-none ((Q.state o or updated Q.behaviour o false t) and eqb o u) initial_incarnation none k).0 in
    false≢true (sym j ∙ and-of (Q.state o or updated Q.behaviour o false t) (eqb o u) (or-of (Q.state o) (updated Q.behaviour o false t) (inr q)) (eq-eqb o u refl))
met-none (chain.renewed v c) Q u a h (sets.anew e q) = false≢true (sym (pick-none (v u and Q.state u) (c u) none h).0 ∙ and-of (v u) (Q.state u) e q)
met-none (chain.successive e f) Q u a h (in-later x) = met-none f Q u a (else-none (met_of f Q u) (met_of e (back f Q) u) h).0 x
met-none (chain.successive e f) Q u a h (in-earlier x) = met-none e (back f Q) u a (else-none (met_of f Q u) (met_of e (back f Q) u) h).1 x

-- one or the other is met
pub met-either : (x y : Option Incarnation) → is_met (or_else x y) ≡ is_met x or is_met y
unfolding or_else
met-either none y = refl
met-either (some a) y = refl
