-- A step that is no signing carries a volume on: equal sets stay equal, and no refusal of its signing arises.
use Prim.Native.Nat.{ℕ, ◌<◌}
use mathlib.Core.Bool.{true, false}
use mathlib.Core.Path.{◌≡◌, refl, ap, sym, ◌∙◌}
use mathlib.Core.Logic.{◌⊎◌, inl, inr}
use native.Mathlib.Omega.{arith}
use lib.Dec.{eqb, leb}
use lib.ListN.{length}
use borrow.Author.Tests.{lt-leb}
use Rattle.octets.specs.Numbers.{bound}
use Rattle.octets.proofs.Tests.{pick-zero}
use Rattle.marks.specs.Incarnation.{Incarnation, Checkpointed}
use Rattle.marks.specs.History.{HistoryView}
use Rattle.marks.proofs.Order.{checkpointed-up, checkpointed-irrefl}
use Rattle.rules.specs.Layout.{Layout}
use Rattle.rules.specs.Status as number
use Rattle.rules.specs.declared.Step.{Step}
use Rattle.rules.specs.Step.{sign}
use Rattle.rules.specs.Refusals.{named, any_named}
use Rattle.rules.specs.Groups as groups
use Rattle.rules.proofs.Bits.{named-at, unnamed-all}
use Rattle.session.specs.Provenance.{Status, Live, is-idle, is-busy, status_number, Provenance, find}
use Rattle.session.specs.Grounds.{from_start, from-noted, from_list, Ground, in-state, in-creation, RestsOn, CheckpointedNow, StablePresent, Equal}
use Rattle.session.specs.Steps.{is_rolled_back, provenance_seen, provenance_refusal, ProvenanceStep, refuses, signing, not-ready}
use Rattle.session.specs.Steps as book
use Rattle.session.proofs.Model.{Ledger}
use Rattle.session.proofs.Relation.{live-or-not, present, present-live, nothing-checkpointed, Rel, own-history}
use Rattle.session.proofs.Locals.{live-opened}
use Rattle.session.proofs.Accepted.{named_live}
use Rattle.session.proofs.Queries.{signing-refusal}
use Rattle.session.proofs.Sign.{Ready, checkpointed_now-to, ready-live, ready-equal, equal-ready}
use Rattle.session.proofs.Onward.{Stays, stays-refl, Onward, onward, limits-stay, notes}
use Rattle.session.proofs.Stands.{stands-book}

-- ---- equal sets stay equal

module _ (b c : Provenance) (g : ℕ) (lives : (t : ℕ) → named g t ≡ true → Live (b.holders t).status) (o : Onward (named g) b.holders c.holders)
    (noted : (t : ℕ) (a : Incarnation) (u : ℕ) (d : Incarnation) → (c.noted t a u d → b.noted t a u d) × (b.noted t a u d → c.noted t a u d)) where
  checkpointed-on : (u : ℕ) (a : Incarnation) → CheckpointedNow b u a → CheckpointedNow c u a
  checkpointed-on u a s = go (live-or-not (c.holders u).status)
    where
      k : Checkpointed a (present c.holders u).incarnation
      k = checkpointed-up (checkpointed_now-to b s) (o.grow u).incarnation

      go : Live (c.holders u).status ⊎ (Live (c.holders u).status → ⊥) → CheckpointedNow c u a
      go (inl w) = record { live = w; is = rw (present-live (c.holders u).status (c.holders u).history w) at k }
      go (inr n) = absurd (nothing-checkpointed (c.holders u).status (c.holders u).history n k)

  ground-to : (t : ℕ) → named g t ≡ true → (u : ℕ) (a : Incarnation) → Ground (c.holders t) u a → Ground (b.holders t) u a
  ground-to t n u a (in-state i) = in-state (rw (o.same t n).state at i)
  ground-to t n u a (in-creation i) = in-creation (rw (o.same t n).creation at i)

  ground-of : (t : ℕ) → named g t ≡ true → (u : ℕ) (a : Incarnation) → Ground (b.holders t) u a → Ground (c.holders t) u a
  ground-of t n u a (in-state i) = in-state (rw (o.same t n).state i)
  ground-of t n u a (in-creation i) = in-creation (rw (o.same t n).creation i)

  rests-to : (t : ℕ) → named g t ≡ true → (u : ℕ) (a : Incarnation) → RestsOn c t u a → RestsOn b t u a
  rests-to t n u a (from_start s) = from_start (ground-to t n u a s)
  rests-to t n u a (from-noted x y) = from-noted (rests-to t n _ _ x) ((noted _ _ _ _).0 y)
  rests-to t n u a (from_list x e) = from_list (rests-to t n _ _ x) e

  rests-of : (t : ℕ) → named g t ≡ true → (u : ℕ) (a : Incarnation) → RestsOn b t u a → RestsOn c t u a
  rests-of t n u a (from_start s) = from_start (ground-of t n u a s)
  rests-of t n u a (from-noted x y) = from-noted (rests-of t n _ _ x) ((noted _ _ _ _).1 y)
  rests-of t n u a (from_list x e) = from_list (rests-of t n _ _ x) e

  stable-of : (u : ℕ) (a : Incarnation) → StablePresent b g u a → StablePresent c g u a
  stable-of u a f =
      let s = o.same u f.named in
      record { named = f.named; present = record { live = s.live; is = rw s.history f.present.is }; stable = rw s.history f.stable }

  stable-to : (u : ℕ) (a : Incarnation) → StablePresent c g u a → StablePresent b g u a
  stable-to u a f =
      let s = o.same u f.named in
      record { named = f.named; present = record { live = lives u f.named; is = rw s.history at f.present.is }; stable = rw s.history at f.stable }

  pub equal-on : Equal b g → Equal c g
  equal-on same u a = (
    λ z. stable-of u a ((same u a).0 (record { by = z.by; named = z.named; rests = rests-to z.by z.named u a z.rests; uncheckpointed = λ s. z.uncheckpointed (checkpointed-on u a s) })),
    λ f. let z = (same u a).1 (stable-to u a f) in
        record { by = z.by; named = z.named; rests = rests-of z.by z.named u a z.rests; uncheckpointed = λ s. checkpointed-irrefl (rw f.present.is at s.is) },
  )

-- ---- the refusals of a signing

pub live-there : {s : Status} → Live s → eqb (status_number s) number.annihilated ≡ false
live-there is-idle = refl
live-there is-busy = refl

-- where the named takes are live and keep their marks, under the same limits, no refusal of their signing arises
pub signing-on : (y : Layout) (b c : Provenance) (k : Ledger) → Rel k c → (v : ℕ) → c.limits ≡ b.limits → ((t : ℕ) → named v t ≡ true → Stays (b.holders t) (c.holders t))
    → provenance_refusal y b (groups.signing v) ≡ 0 → provenance_refusal y c (groups.signing v) ≡ 0
unfolding provenance_refusal provenance_seen
signing-on y b c k r v limits same e =
    let count : Provenance → ℕ → ℕ = λ d t. length (d.holders t).history.incarnation.checkpoints in
    let e0 = pick-zero (eqb v 0) 29 _ (omega arith) (sym (signing-refusal y (provenance_seen b) v) ∙ e) in
    let e1 = pick-zero (any_named v (λ t. leb b.opened t)) 21 _ (omega arith) e0.1 in
    let e2 = pick-zero (any_named v (λ t. eqb (status_number (b.holders t).status) number.annihilated)) 22 _ (omega arith) e1.1 in
    let e3 = pick-zero (any_named v (λ t. leb b.limits.checkpoints (count b t))) 30 0 (omega arith) e2.1 in
    signing-refusal y (provenance_seen c) v ∙ rw (
      e0.0,
      unnamed-all v (λ t. leb c.opened t) (λ t h n. lt-leb c.opened t (live-opened k c r t (same t n).live)),
      unnamed-all v (λ t. eqb (status_number (c.holders t).status) number.annihilated) (λ t h n. live-there (same t n).live),
      limits,
      unnamed-all v (λ t. leb b.limits.checkpoints (count c t)) (λ t h n.
          ap (λ (x : HistoryView). leb b.limits.checkpoints (length x.incarnation.checkpoints)) (same t n).history ∙ named-at v (λ t. leb b.limits.checkpoints (count b t)) t e3.0 h n),
    )

-- ---- ready stays ready, by the book

-- volume v is signed by the book b: not refused, and the two sets are equal
pub record Signs (y : Layout) (b : Provenance) (v : ℕ) : Type 0 where
  pub zero : provenance_refusal y b (groups.signing v) ≡ 0
  pub same : Equal b v

-- what a step leaves of the limits, of the named takes, and of the two sets
record Carried (b c : Provenance) (v : ℕ) : Type 0 where
  limits : c.limits ≡ b.limits
  stay : (t : ℕ) → named v t ≡ true → Stays (b.holders t) (c.holders t)
  same : Equal c v

module _ (l : Ledger) (b : Provenance) (r : Rel l b) (y : Layout) (v : ℕ) (lives : (t : ℕ) → named v t ≡ true → Live (b.holders t).status) (same : Equal b v) where
  ok : Ready l (named v)
  ok = equal-ready l b r v lives same

  flags : (t : ℕ) → named v t ≡ true → (b.holders t).history.stable ≡ true
  flags t n = rw (own-history (r.holders t)) at (ok.stable t n)

  stood : (t : ℕ) → named v t ≡ true → (n : ℕ) → is_rolled_back (b.holders t) (find n b.messages) ≡ false
  stood t n = stands-book l b r (named v) t (lives t n) (λ u x z. ok.state t n u x) (λ u x z. ok.creation t n u x)

  carried : (p : Step) {c : Provenance} → (p.kind ≡ sign → ⊥) → ProvenanceStep y b p c → Carried b c v
  carried p other (refuses z) = record { limits = refl; stay = λ t n. stays-refl (lives t n); same = same }
  carried p {c} other (book.applies z n) =
      let o = onward l b r y p z (named v) lives flags stood other in
      record { limits = limits-stay b p; stay = o.same; same = equal-on b c v lives o (notes b p) same }
  carried p other (signing z n e) = absurd (other n)
  carried p other (not-ready z n e) = absurd (other n)

pub signs-on : (l : Ledger) (b : Provenance) → Rel l b → (y : Layout) (v : ℕ) → v < bound 2 → Signs y b v → (k : Ledger) {c : Provenance} → Rel k c → (p : Step) → (p.kind ≡ sign → ⊥) → ProvenanceStep y b p c → Signs y c v
signs-on l b r y v bits s k {c} r2 p other step =
    let o = carried l b r y v (named_live l b r y (groups.signing v) s.zero refl bits) s.same p other step in
    record { zero = signing-on y b c k r2 v o.limits o.stay s.zero; same = o.same }

pub rule-on : (l : Ledger) (b : Provenance) → Rel l b → (y : Layout) (v : ℕ) → Ready l (named v) → (k : Ledger) {c : Provenance} → Rel k c → (p : Step) → (p.kind ≡ sign → ⊥) → ProvenanceStep y b p c → Ready k (named v)
rule-on l b r y v ready-now k {c} r2 p other step =
    let o = carried l b r y v (ready-live l b r v ready-now) (ready-equal l b r v ready-now) p other step in
    equal-ready k c r2 v (λ t n. (o.stay t n).live) o.same
