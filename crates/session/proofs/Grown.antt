-- The book of a session, and the relation that carries what is shown from call to call.
use Prim.Native.Nat.{ℕ}
use mathlib.Core.Path.{◌≡◌}
use mathlib.Core.List.{List}
use Rattle.rules.specs.Layout.{Layout, Limits, Fitting}
use Rattle.rules.specs.Calls.{begin_answer, begin_image}
use Rattle.rules.proofs.Calls.Begin.{begin-accepted}
use Rattle.session.specs.Provenance.{Provenance, empty_provenance}
use Rattle.session.specs.Fed.{ProvenanceOf, new-provenance, fed}
use Rattle.session.specs.Trace.{Trace, opened, called, calls_of}
use Rattle.session.proofs.Calls.{Holds, holds-fresh, call-right}

-- an accepted begin leaves a fresh image
pub begun_fresh : {y : Layout} → Fitting y → (m : Limits) (img : List ℕ) → begin_answer y m img ≡ 0 → Holds y (begin_image y m img) (empty_provenance m)
begun_fresh {y} z m img e =
    let a = begin-accepted y img m e in
    rw a.1 (holds-fresh z m a.0)

-- the book that is fed the calls of a trace, beside the image
pub record Grown (y : Layout) (img : List ℕ) (τ : Trace y img) : Type 1 where
  pub provenance : Provenance
  pub fed : ProvenanceOf y (calls_of τ) provenance
  pub holds : Holds y img provenance

module _ {y : Layout} (z : Fitting y) where
  pub grown : {img : List ℕ} (τ : Trace y img) → Grown y img τ
  unfolding calls_of
  grown (opened m img e) = record { provenance = empty_provenance m; fed = new-provenance (begin-accepted y img m e).0; holds = begun_fresh z m img e }
  grown (called τ c a p) =
      let before = grown τ in
      let k = call-right z before.holds p in
      record { provenance = k.provenance; fed = fed before.fed k.fed; holds = k.holds }
