-- The steps of a part, one after the other.
use Prim.Native.Nat.{ℕ, zero, suc, ◌*◌, ◌<◌}
use mathlib.Core.Path.{◌≡◌}
use mathlib.Core.List.{List}
use Rattle.octets.specs.Bytes.{part, chunks, Octets}
use Rattle.octets.proofs.Chunks.{part-chunks}
use Rattle.rules.specs.Layout.{Layout, Fitting}
use Rattle.rules.specs.State.{State}
use Rattle.rules.specs.Step.{step_bytes, step_at, pack_reply}
use Rattle.rules.specs.Rules.{step_of}
use Rattle.rules.specs.Calls.{state_after, reply_at}
use Rattle.rules.specs.Internal.Well.{WellFormed}
use Rattle.rules.proofs.Keep.Run.{step_ok-at}
use Rattle.rules.proofs.Keep.Step.{keeps-after}
pub use Rattle.rules.proofs.Replies.{length-pack_reply, first-pack_reply}
use Rattle.session.specs.Provenance.{Provenance}
use Rattle.session.specs.Fed.{ProvenanceSteps, none, more}
use Rattle.session.proofs.Model.{view}
use Rattle.session.proofs.Relation.{Rel}
use Rattle.session.proofs.Step.{Stepped, step_right}

-- the book after the first i steps, and the relation after them
pub record Ran (y : Layout) (s : State) (b : Provenance) (steps : List ℕ) (i : ℕ) : Type 1 where
  pub after : Provenance
  pub fed : ProvenanceSteps y b steps i after
  pub rel : Rel (view (state_after y s steps i)) after

module _ {y : Layout} (z : Fitting y) {s : State} (well : WellFormed y s) {b : Provenance} (r : Rel (view s) b) (steps : List ℕ) (octets : Octets steps) where
  one_more : (i : ℕ) → Ran y s b steps i → Ran y s b steps (suc i)
  unfolding state_after
  one_more i before =
      let k : Stepped y (state_after y s steps i) before.after (step_at steps i) = step_right z (keeps-after z well steps octets i) before.rel (step_ok-at steps octets i) in
      record { after = k.after; fed = more before.fed k.right.provenance; rel = k.rel }

  pub run-right : (i : ℕ) → Ran y s b steps i
  unfolding state_after
  run-right zero = record { after = b; fed = none; rel = r }
  run-right (suc i) = one_more i (run-right i)

-- ---- the bytes handed back

-- reply i among n packed ones
pub reply-part : (y : Layout) (s : State) (steps : List ℕ) (n i : ℕ) → i < n
    → part (step_bytes * i) step_bytes (chunks n (reply_at y s steps)) ≡ pack_reply (step_of y (state_after y s steps i) (step_at steps i)).reply
unfolding reply_at
reply-part y s steps n i h = part-chunks step_bytes (reply_at y s steps) (λ j. length-pack_reply _) n i h
