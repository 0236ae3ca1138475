-- Document 02, W6: a closed hearing, stored in the old form, carried forward (`forward`) and then carried on in the new one.
use Rattle.std.specs.Prelude.{ℕ, ◌≡◌, List, length}
use Rattle.rules.specs.Layout.{image_bytes, narrow, base}
use Rattle.convert.specs.Convert.{forward, forward_answer, forward_image}
use Rattle.session.specs.Provenance.{Provenance}
use Rattle.session.specs.Fed.{Call, ProvenanceOf}
use Rattle.session.specs.Trace.{Trace, calls_of, CallsFrom, extended}
use Rattle.session.specs.Demand3.{Demand3}

-- A session τ in the old form, document 01's, that leaves the image old. In the new form a life number goes up to 65,535 and not to 255, so a step
-- that the old session refused with 28 might be accepted; but it was refused, and changed nothing.
pub record CarriedOn (old : List ℕ) (τ : Trace narrow old) : Type 1 where
  -- The call forward writes it into any image of the new length.
  pub accepted : (new : List ℕ) → length new ≡ image_bytes base → (forward_answer old new ≡ 0) × (forward_image old new ≡ forward old)
  -- There is a session of the new form that leaves the image old carried forward.
  pub session : Trace base (forward old)
  -- Its book is that of the old session: the one that was fed the calls of τ.
  pub book : {b : Provenance} → ProvenanceOf narrow (calls_of τ) b → ProvenanceOf base (calls_of session) b
  -- Whatever calls follow in the new form, demand 3 holds of the session that has these calls at its end, by the one book that is fed all of them.
  pub demand3 : {P : List ℕ → Call → Type 0} {after : List ℕ} (k : CallsFrom base P (forward old) after) → Demand3 base after (extended session k)
