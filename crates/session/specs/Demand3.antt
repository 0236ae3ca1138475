-- Document 01, demand 3, said of every call, every step and every point of a session τ: an accepted begin, then any list of calls on one
-- image, refused ones included (Trace). In the order of the demand. To be read before it: Provenance, Grounds, Unrelated, Steps and Fed
-- (the book), Trace and Point (the session). It is claimed of every session, so of every shorter one: each call of τ ends one.
use Rattle.std.specs.Prelude.{ℕ, ◌-◌, ◌*◌, ◌≤◌, ◌<◌, ◌≡◌, List, ◌∷◌, ◌++◌, ◌↔◌}
use Rattle.octets.specs.Bytes.{part, Octets}
use Rattle.rules.specs.Layout.{Layout}
use Rattle.rules.specs.State.{State}
use Rattle.rules.specs.declared.Step.{Step}
use Rattle.rules.specs.Step.{step_bytes, step_at, sign, done, not_ready}
use Rattle.rules.specs.Rules.{checkpoint_group}
use Rattle.rules.specs.Calls.{steps_in}
use Rattle.session.specs.Provenance.{Provenance}
use Rattle.session.specs.Grounds.{Equal, Sound}
use Rattle.session.specs.Steps.{provenance_refusal}
use Rattle.session.specs.Fed.{Call, run, call_refusal, ProvenanceOf}
use Rattle.session.specs.Trace.{Answer, ran, refusal_in, Trace, calls_of, Matches}
use Rattle.session.specs.Point.{CallIn, StepIn, Point, replied, outcome_in}

pub record Demand3 (y : Layout) (img : List ℕ) (τ : Trace y img) : Type 1 where
  -- There is a book that is fed the calls of the list, and only one.
  pub book : (b : Provenance) × ProvenanceOf y (calls_of τ) b × ((c : Provenance) → ProvenanceOf y (calls_of τ) c → c ≡ b)
  -- "a call .. is refused exactly where the book of document 01 refuses it": what it answers, a refusal or 0, is what the book answers.
  pub call-refused : {b : Provenance} {c : Call} {a : Answer} → CallIn y img τ b c a → refusal_in a ≡ call_refusal y b c
  -- "a .. step is refused exactly where the book of document 01 refuses it": it has an outcome, 0 to 5, exactly where the book does not
  -- refuse it; where the book does, its reply is the book's number and zero else, and nothing changes.
  pub step-refused : {s s' : State} {b : Provenance} {p : Step} {reply : List ℕ} → StepIn y img τ s b p reply s'
      → ((outcome_in reply ≤ not_ready) ↔ (provenance_refusal y b p ≡ 0))
      × ((provenance_refusal y b p ≡ 0 → ⊥) → (reply ≡ replied (provenance_refusal y b p)) × (s' ≡ s))
  -- "a signing step that isn't refused signs its volume, reply 0, exactly when two sets of lives, taken just before it from that book, are
  -- equal; otherwise its reply is 5". Where they are equal, what it leaves is the volume signed; otherwise nothing changes.
  pub signs-exactly : {s s' : State} {b : Provenance} {p : Step} {reply : List ℕ} → StepIn y img τ s b p reply s'
      → provenance_refusal y b p ≡ 0 → p.kind ≡ sign
      → ((reply ≡ replied done) ↔ Equal b p.message)
      × ((reply ≡ replied not_ready) ↔ (Equal b p.message → ⊥))
      × (Equal b p.message → s' ≡ checkpoint_group y s p.message)
      × ((Equal b p.message → ⊥) → s' ≡ s)
  -- "After the list the live takes and their own marks in the image are the book's": and so they are at every point of it.
  pub transactors-match : {s : State} {b : Provenance} → Point y img τ s b → Matches s b
  -- "Hence at no point of the list does a text signed since the last accepted begin rest, through any chain, on a withdrawn life."
  pub never-withdrawn : {s : State} {b : Provenance} → Point y img τ s b → Sound b
  -- None is left out: every call after the opening begin is a CallIn, with the book before it that is fed the calls before, which are k and rest;
  -- and every step of every accepted run is a StepIn, with some book before it.
  pub every_call : (later rest : List Call) (c k : Call) → calls_of τ ≡ later ++ (c ∷ k ∷ rest)
      → (b : Provenance) × (a : Answer) × ProvenanceOf y (k ∷ rest) b × CallIn y img τ b c a
  pub every-step : {b : Provenance} {list : List ℕ} {o : Octets list} {start end : ℕ} {lent replies : List ℕ} → CallIn y img τ b (run list o start end lent) (ran 0 replies)
      → (i : ℕ) → i < steps_in (part start (end - start) list)
      → (s : State) × (s' : State) × (d : Provenance) × StepIn y img τ s d (step_at (part start (end - start) list) i) (part (step_bytes * i) step_bytes replies) s'
