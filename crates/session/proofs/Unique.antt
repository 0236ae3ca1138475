-- The book is determined by the calls it is fed.
use Prim.Native.Nat.{ℕ}
use mathlib.Core.Path.{◌≡◌, refl, subst}
use mathlib.Core.List.{List, []}
use Rattle.rules.specs.Layout.{Layout}
use Rattle.rules.specs.Step.{step_at}
use Rattle.session.specs.Provenance.{Provenance}
use Rattle.session.specs.Steps.{ProvenanceStep}
use Rattle.session.specs.Fed as provenance
use Rattle.session.specs.Fed.{Call, ProvenanceSteps, ProvenanceCall, provenance-refuses, provenance-begins, provenance-runs, provenance-offers, provenance-shows, ProvenanceOf, new-provenance, fed}
use Rattle.session.proofs.Kept.{provenance-determined}

pub steps-determined : {y : Layout} {b : Provenance} {steps : List ℕ} {c d : Provenance} {i : ℕ} → ProvenanceSteps y b steps i c → ProvenanceSteps y b steps i d → c ≡ d
steps-determined provenance.none provenance.none = refl
steps-determined {y} {b} {steps} {c} {d} (provenance.more {i} p q) (provenance.more r s) =
    provenance-determined (subst (λ x. ProvenanceStep y x (step_at steps i) c) (steps-determined p r) q) s

call-determined : {y : Layout} {b d e : Provenance} {c : Call} → ProvenanceCall y b c d → ProvenanceCall y b c e → d ≡ e
call-determined (provenance-refuses n) (provenance-refuses k) = refl
call-determined (provenance-refuses n) (provenance-begins z) = absurd (n z)
call-determined (provenance-refuses n) (provenance-runs z p) = absurd (n z)
call-determined (provenance-refuses n) (provenance-offers z) = refl
call-determined (provenance-refuses n) (provenance-shows z) = refl
call-determined (provenance-begins z) (provenance-refuses n) = absurd (n z)
call-determined (provenance-begins z) (provenance-begins k) = refl
call-determined (provenance-runs z p) (provenance-refuses n) = absurd (n z)
call-determined (provenance-runs z p) (provenance-runs y q) = steps-determined p q
call-determined (provenance-offers z) (provenance-refuses n) = refl
call-determined (provenance-offers z) (provenance-offers y) = refl
call-determined (provenance-shows z) (provenance-refuses n) = refl
call-determined (provenance-shows z) (provenance-shows y) = refl

-- no book is fed no call: the first one is a begin
nothing-fed : {y : Layout} {b : Provenance} → ProvenanceOf y [] b → ⊥
nothing-fed p = elim p [ ]

-- Two books that are fed the same calls are equal.
pub provenance-unique : {y : Layout} {cs : List Call} {b c : Provenance} → ProvenanceOf y cs b → ProvenanceOf y cs c → b ≡ c
provenance-unique (new-provenance r) (new-provenance s) = refl
provenance-unique (new-provenance r) (fed p q) = absurd (nothing-fed p)
provenance-unique (fed p q) (new-provenance r) = absurd (nothing-fed p)
provenance-unique {y} {b = b} (fed {c = k} p q) (fed r s) = call-determined (subst (λ x. ProvenanceCall y x k b) (provenance-unique p r) q) s
