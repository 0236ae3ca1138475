-- Lists of steps for the book alone, to try its definitions on.
use Prim.Native.Nat.{ℕ, zero, suc, ◌+◌}
use mathlib.Core.Bool.{Bool, true, not, false≢true}
use mathlib.Core.Path.{◌≡◌, refl, ap, sym, ◌∙◌}
use mathlib.Core.List.Memᴰ
use mathlib.Core.List.{List, [], ◌∷◌, ◌++◌}
use mathlib.Core.Logic.{◌⊎◌, inl, inr, ⊎_elim, ◌↔◌}
use native.Mathlib.Omega.{arith}
use lib.Dec.{eqb}
use lib.ListN.{length, length-append}
use borrow.Author.Tests.{eqb-true, eqb-false, not-true}
use Rattle.octets.specs.Bytes.{◌and◌}
use Rattle.octets.proofs.Zero.{both}
use Rattle.marks.specs.Incarnation.{Incarnation}
use Rattle.rules.specs.Layout.{base}
use Rattle.rules.specs.declared.Step.{Step}
use Rattle.rules.specs.Step.{root, letter, receive, new, send, lose, sign}
use Rattle.rules.specs.Refusals.{named}
use Rattle.session.specs.Provenance.{Entry, Incarnations, In, one, Live, Holder, Provenance}
use Rattle.session.specs.Grounds.{Brought, from_start, from-noted, from_list, Ground, in-state, in-creation, RestsOn, CheckpointedNow, StablePresent, Equal}
use Rattle.session.specs.Steps.{opens_root, opens_child, receives, applied, provenance_refusal, applies}
use Rattle.session.specs.Play.{Play, end, then, played}
use Rattle.session.proofs.Sets.{in_one}
use Rattle.session.proofs.Tables.{pick-view}
use Rattle.session.proofs.Accepted.{named-within}
use Rattle.session.proofs.Sign.{Settled, settle, settled-equal}

pub play-on : {b c d : Provenance} {ps qs : List Step} → Play b ps c → Play c qs d → Play b (ps ++ qs) d
play-on end q = q
play-on (then s p) q = then s (play-on p q)

-- steps of which none is refused and none is a signing
unfoldable pub quiet : Provenance → List Step → Bool
quiet b [] = true
quiet b (p ∷ ps) = eqb (provenance_refusal base b p) 0 and (not (eqb p.kind sign) and quiet (applied b p) ps)

pub play-quiet : (b : Provenance) (ps : List Step) → quiet b ps ≡ true → Play b ps (played b ps)
unfolding quiet played
play-quiet b [] e = end
play-quiet b (p ∷ ps) e =
    let f = both (eqb (provenance_refusal base b p) 0) _ e in
    let g = both (not (eqb p.kind sign)) _ f.1 in
    then (applies (eqb-true (provenance_refusal base b p) 0 f.0) (eqb-false p.kind sign (not-true (eqb p.kind sign) g.0))) (play-quiet (applied b p) ps g.1)

-- they note nothing and forget nothing
applied-notes : (b : Provenance) (p : Step) (t : ℕ) (a : Incarnation) (u : ℕ) (c : Incarnation) → (applied b p).noted t a u c ↔ b.noted t a u c
unfolding applied opens_root opens_child receives
applied-notes b p t a u c =
    let P : Provenance → Type 0 = λ d. d.noted t a u c ↔ b.noted t a u c in
    let same : b.noted t a u c ↔ b.noted t a u c = (λ x. x, λ x. x) in
    pick-view P (eqb p.kind root) _ _ (λ e. same) λ e0.
    pick-view P (eqb p.kind letter) _ _ (λ e. same) λ e1.
    pick-view P (eqb p.kind receive) _ _ (λ e. same) λ e2.
    pick-view P (eqb p.kind new) _ _ (λ e. same) λ e3.
    pick-view P (eqb p.kind send) _ _ (λ e. same) λ e4.
    pick-view P (eqb p.kind lose) _ _ (λ e. same) (λ e5. same)

pub played-notes : (b : Provenance) (ps : List Step) (t : ℕ) (a : Incarnation) (u : ℕ) (c : Incarnation) → (played b ps).noted t a u c ↔ b.noted t a u c
unfolding played
played-notes b [] t a u c = (λ x. x, λ x. x)
played-notes b (p ∷ ps) t a u c =
    let later = played-notes (applied b p) ps t a u c in
    let first = applied-notes b p t a u c in
    (λ x. first.0 (later.0 x), λ x. later.1 (first.1 x))

-- ---- the two sets

-- what a set holds in its first place, or further on
pub entry-cases : {u t : ℕ} {a c : Incarnation} {rest : Incarnations} → In u a (record { transactor = t; incarnation = c } ∷ rest) → ((u ≡ t) × (a ≡ c)) ⊎ In u a rest
entry-cases i = ⊎_elim (λ e. inl (ap (λ (x : Entry). x.transactor) e, ap (λ (x : Entry). x.incarnation) e)) inr (Memᴰ.cases_cons i)

-- a take with no creation set has its state set for ground
pub ground-state : {h : Holder} → h.creation ≡ [] → (u : ℕ) (a : Incarnation) → Ground h u a → In u a h.state
ground-state e u a (in-state i) = i
ground-state e u a (in-creation i) = absurd (Memᴰ.not-nil (rw e at i))

-- a frozen take of the volume, h in the book, is in the second set
pub stable-at : {b : Provenance} {g t : ℕ} {h : Holder} → b.holders t ≡ h → named g t ≡ true → Live h.status → h.history.stable ≡ true
    → (u : ℕ) (a : Incarnation) → (u ≡ t) × (a ≡ h.history.incarnation) → Settled b g u a
stable-at {b} {g} {t} {h} e n k f u a i =
    rw (i.0, i.1) (inr (record { named = n; present = record { live = rw e k; is = rw e }; stable = rw e f }))

-- the sets differ where a named take rests on an unsigned life that is not in the second set
pub differs : {b : Provenance} {g : ℕ} (t : ℕ) {u : ℕ} {a : Incarnation} → named g t ≡ true → RestsOn b t u a → (CheckpointedNow b u a → ⊥) → (StablePresent b g u a → ⊥) → Equal b g → ⊥
differs t {u} {a} n r s f e = f ((e u a).0 (record { by = t; named = n; rests = r; uncheckpointed = s }))

-- a set of opening lives brings in itself alone where nothing was noted
pub brings-itself : {b : Provenance} {start : ℕ → Incarnation → Type 0} → ((t : ℕ) (a : Incarnation) (u : ℕ) (c : Incarnation) → b.noted t a u c → ⊥)
    → ((u : ℕ) (a : Incarnation) → start u a → a.checkpoints ≡ []) → (u : ℕ) (a : Incarnation) → Brought b start u a → start u a
brings-itself none first u a (from_start s) = s
brings-itself none first u a (from-noted x y) = absurd (none _ _ _ _ y)
brings-itself none first u c (from_list {a = a} x e) =
    let n : 0 ≡ length c.checkpoints + 1 = ap length (sym (first u a (brings-itself none first u a x)) ∙ e) ∙ length-append c.checkpoints (c.number ∷ []) in
    absurd (omega arith)

-- take 0 alone, frozen, resting on its own life: volume 1 has equal sets where all that was noted is signed
pub alone-equal : {b : Provenance} {h : Holder} → b.holders 0 ≡ h → h.creation ≡ [] → h.state ≡ one 0 h.history.incarnation → Live h.status → h.history.stable ≡ true
    → ((t : ℕ) (a : Incarnation) (u : ℕ) (c : Incarnation) → b.noted t a u c → CheckpointedNow b u c) → Equal b 1
unfolding named
alone-equal {b} {h} e created state live stable noted = settled-equal b 1
    (λ t n. settle b 1 noted (λ u a g. stable-at e refl live stable u a (in_one (rw state at (ground-state created u a (rw (is-0 t n, e) at g))))))
    (λ t n k. rw (is-0 t n, e, state) (Memᴰ.head refl))
  where
    is-0 : (t : ℕ) → named 1 t ≡ true → t ≡ 0
    is-0 t n = omega (arith, named-within 1 1 t (omega arith) n)

-- take t is live and frozen, h in the book, and has its own life in its state set
pub record StableAs (b : Provenance) (t : ℕ) (h : Holder) : Type 0 where
  pub is : b.holders t ≡ h
  pub live : Live h.status
  pub stable : h.history.stable ≡ true
  pub own : In t h.history.incarnation h.state

-- takes i and j, both frozen and resting on no other lives than their own two: the volume of both has equal sets where all that
-- was noted is signed
pub pair-equal : {b : Provenance} {g i j : ℕ} {h k : Holder} → ((t : ℕ) → named g t ≡ true → (t ≡ i) ⊎ (t ≡ j)) → named g i ≡ true → named g j ≡ true
    → ((t : ℕ) (a : Incarnation) (u : ℕ) (c : Incarnation) → b.noted t a u c → CheckpointedNow b u c)
    → StableAs b i h → StableAs b j k
    → ((u : ℕ) (a : Incarnation) → Ground h u a ⊎ Ground k u a → ((u ≡ i) × (a ≡ h.history.incarnation)) ⊎ ((u ≡ j) × (a ≡ k.history.incarnation))) → Equal b g
pair-equal {b} {g} {i} {j} {h} {k} only named-i named-j noted p q rests = settled-equal b g
    (λ t n. settle b g noted (support t (only t n)))
    (λ t n l. own t (only t n))
  where
    own-incarnation : (u : ℕ) (a : Incarnation) → ((u ≡ i) × (a ≡ h.history.incarnation)) ⊎ ((u ≡ j) × (a ≡ k.history.incarnation)) → Settled b g u a
    own-incarnation u a = ⊎_elim (stable-at p.is named-i p.live p.stable u a) (stable-at q.is named-j q.live q.stable u a)

    support : (t : ℕ) → (t ≡ i) ⊎ (t ≡ j) → (u : ℕ) (a : Incarnation) → Ground (b.holders t) u a → Settled b g u a
    support t (inl e) u a x = own-incarnation u a (rests u a (inl (rw (e, p.is) at x)))
    support t (inr e) u a x = own-incarnation u a (rests u a (inr (rw (e, q.is) at x)))

    own : (t : ℕ) → (t ≡ i) ⊎ (t ≡ j) → In t (b.holders t).history.incarnation (b.holders t).state
    own t (inl e) = rw (e, p.is) p.own
    own t (inr e) = rw (e, q.is) q.own

-- volume 3 names takes 0 and 1, volume 6 takes 1 and 2
pub only-3 : (t : ℕ) → named 3 t ≡ true → (t ≡ 0) ⊎ (t ≡ 1)
only-3 zero n = inl refl
only-3 (suc zero) n = inr refl
only-3 (suc (suc t)) n = absurd (omega (arith, named-within 2 3 (suc (suc t)) (omega arith) n))

pub only-6 : (t : ℕ) → named 6 t ≡ true → (t ≡ 1) ⊎ (t ≡ 2)
unfolding named
only-6 zero n = absurd (false≢true n)
only-6 (suc zero) n = inl refl
only-6 (suc (suc zero)) n = inr refl
only-6 (suc (suc (suc t))) n = absurd (omega (arith, named-within 3 6 (suc (suc (suc t))) (omega arith) n))
