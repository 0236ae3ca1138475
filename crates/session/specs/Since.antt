-- The steps of a session since its last accepted begin, and the points after a step.
use Rattle.std.specs.Prelude.{ℕ, ◌-◌, ◌*◌, ◌<◌, ◌≡◌, List}
use Rattle.octets.specs.Bytes.{part, Octets}
use Rattle.rules.specs.Layout.{Layout}
use Rattle.rules.specs.State.{State}
use Rattle.rules.specs.declared.Step.{Step}
use Rattle.rules.specs.Step.{step_bytes, step_at}
use Rattle.rules.specs.Calls.{steps_in}
use Rattle.session.specs.Provenance.{Provenance}
use Rattle.session.specs.Fed.{Call, run, ProvenanceSteps, ProvenanceOf}
use Rattle.session.specs.Trace.{Answer, ran, Performed, Trace, called, calls_of, GoesOn}
use Rattle.session.specs.Point.{StepIn, last-run, earlier-run}

-- none of the calls after the run of this step is an accepted begin
unfoldable pub SinceBegin : {y : Layout} {img : List ℕ} {τ : Trace y img} {s s' : State} {b : Provenance} {p : Step} {reply : List ℕ} → StepIn y img τ s b p reply s' → Type 0
SinceBegin (last-run i f e n g) = Unit {0}
SinceBegin {y} (earlier-run {img} {k = c} x) = GoesOn y img c × SinceBegin x

-- Of the session τ: b, p and reply, a step, with the book just before it and its reply; d, the book at a point after it, with no accepted
-- begin between.
pub data Afterwards (y : Layout) : (img : List ℕ) → Trace y img → Provenance → Step → List ℕ → Provenance → Type 1 where
  -- just before a later step of the same run
  in-that-run : {img after list : List ℕ} {o : Octets list} {start end : ℕ} {lent replies : List ℕ} {r : ℕ} {τ : Trace y img}
      {q : Performed y img (run list o start end lent) (ran r replies) after} {c b d : Provenance} (i j : ℕ)
      → ProvenanceOf y (calls_of τ) c → r ≡ 0 → i < j → j < steps_in (part start (end - start) list)
      → ProvenanceSteps y c (part start (end - start) list) i b → ProvenanceSteps y c (part start (end - start) list) j d
      → Afterwards y after (called τ (run list o start end lent) (ran r replies) q) b (step_at (part start (end - start) list) i) (part (step_bytes * i) step_bytes replies) d
  -- after that run, or after a later call
  after_call : {img : List ℕ} {τ : Trace y img} {s s' : State} {b d : Provenance} {p : Step} {reply : List ℕ} (k : StepIn y img τ s b p reply s')
      → SinceBegin k → ProvenanceOf y (calls_of τ) d → Afterwards y img τ b p reply d
  -- just before a step of a later run
  in-later-run : {img after list : List ℕ} {o : Octets list} {start end : ℕ} {lent replies : List ℕ} {r : ℕ} {τ : Trace y img}
      {q : Performed y img (run list o start end lent) (ran r replies) after} {s s' : State} {b c d : Provenance} {p : Step} {reply : List ℕ} (k : StepIn y img τ s b p reply s') (j : ℕ)
      → SinceBegin k → ProvenanceOf y (calls_of τ) c → r ≡ 0 → j < steps_in (part start (end - start) list) → ProvenanceSteps y c (part start (end - start) list) j d
      → Afterwards y after (called τ (run list o start end lent) (ran r replies) q) b p reply d
  -- and whatever calls follow that point
  and-more : {img after : List ℕ} {τ : Trace y img} {k : Call} {x : Answer} {q : Performed y img k x after} {b d : Provenance} {p : Step} {reply : List ℕ}
      → Afterwards y img τ b p reply d → Afterwards y after (called τ k x q) b p reply d
