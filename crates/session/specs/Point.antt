-- Document 01, demand 3: the calls, the steps and the points of a session, each with the book there: the one that is fed the calls
-- before, and in a run the steps before, and nothing else (ProvenanceOf, ProvenanceSteps). There is such a book at each, and only one
-- (Demand3: book, every-step; proofs/Unique).
use Rattle.std.specs.Prelude.{ℕ, suc, ◌-◌, ◌*◌, ◌<◌, ◌≡◌, List, get_or}
use Rattle.octets.specs.Bytes.{part, Octets}
use Rattle.rules.specs.Layout.{Layout}
use Rattle.rules.specs.State.{State}
use Rattle.rules.specs.declared.Step.{Step}
use Rattle.rules.specs.Step.{step_bytes, step_at, pack_reply}
use Rattle.rules.specs.Rules.{answer}
use Rattle.rules.specs.Pack.{unpack}
use Rattle.rules.specs.Calls.{state_after, steps_in}
use Rattle.session.specs.Provenance.{Provenance}
use Rattle.session.specs.Fed.{Call, run, ProvenanceSteps, ProvenanceOf}
use Rattle.session.specs.Trace.{Answer, ran, Performed, Trace, called, calls_of}

-- A call of the session τ after the begin that opens it, before which there is no book: b, the book just before the call; c, the call;
-- a, what it gave back.
pub data CallIn (y : Layout) : (img : List ℕ) → Trace y img → Provenance → Call → Answer → Type 1 where
  last-call : {img after : List ℕ} {τ : Trace y img} {c : Call} {a : Answer} {p : Performed y img c a after} {b : Provenance}
      → ProvenanceOf y (calls_of τ) b → CallIn y after (called τ c a p) b c a
  earlier-call : {img after : List ℕ} {τ : Trace y img} {c k : Call} {a x : Answer} {p : Performed y img k x after} {b : Provenance}
      → CallIn y img τ b c a → CallIn y after (called τ k x p) b c a

-- A step of the session τ, in an accepted run: s and b, the ledger's state and the book just before it; p, the step; reply, its eight
-- bytes of those that the run handed back; s', the state after it.
pub data StepIn (y : Layout) : (img : List ℕ) → Trace y img → State → Provenance → Step → List ℕ → State → Type 1 where
  last-run : {img after list : List ℕ} {o : Octets list} {start end : ℕ} {lent replies : List ℕ} {r : ℕ} {τ : Trace y img}
      {p : Performed y img (run list o start end lent) (ran r replies) after} {b d : Provenance} (i : ℕ)
      → ProvenanceOf y (calls_of τ) b → r ≡ 0 → i < steps_in (part start (end - start) list) → ProvenanceSteps y b (part start (end - start) list) i d
      → StepIn y after (called τ (run list o start end lent) (ran r replies) p)
      (state_after y (unpack y img) (part start (end - start) list) i) d
      (step_at (part start (end - start) list) i)
      (part (step_bytes * i) step_bytes replies)
      (state_after y (unpack y img) (part start (end - start) list) (suc i))
  earlier-run : {img after : List ℕ} {τ : Trace y img} {k : Call} {x : Answer} {q : Performed y img k x after} {s s' : State} {b : Provenance} {p : Step} {reply : List ℕ}
      → StepIn y img τ s b p reply s' → StepIn y after (called τ k x q) s b p reply s'

-- A point of the session τ: after one of its calls, the begin that opens it included, or just before a step of one of its accepted runs;
-- s and b, the ledger's state and the book there. After the last step of a run is after the run (Demand3.in-run).
pub data Point (y : Layout) : (img : List ℕ) → Trace y img → State → Provenance → Type 1 where
  at-end : {img : List ℕ} {τ : Trace y img} {b : Provenance} → ProvenanceOf y (calls_of τ) b → Point y img τ (unpack y img) b
  at-step : {img : List ℕ} {τ : Trace y img} {s s' : State} {b : Provenance} {p : Step} {reply : List ℕ} → StepIn y img τ s b p reply s' → Point y img τ s b
  earlier : {img after : List ℕ} {τ : Trace y img} {k : Call} {x : Answer} {q : Performed y img k x after} {s : State} {b : Provenance}
      → Point y img τ s b → Point y after (called τ k x q) s b

-- the eight bytes of a reply that has the outcome or refusal n and is zero else
abbrev pub replied : ℕ → List ℕ
replied n = pack_reply (answer n 0 0 0)

-- the outcome or refusal in the eight bytes of a reply: the first of them
abbrev pub outcome_in : List ℕ → ℕ
outcome_in reply = get_or reply 0 0
