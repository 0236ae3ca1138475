-- Document 01, "A take and its steps": the saved text of a take is the text that it had just before it was signed last.
use Rattle.std.specs.Prelude.{ℕ, zero, suc, ◌-◌, ◌<◌, Bool, ◌≡◌, List, eqb}
use Rattle.octets.specs.Bytes.{pick, ◌and◌, part, Octets}
use Rattle.rules.specs.Layout.{Layout}
use Rattle.rules.specs.State.{State, transactor_at}
use Rattle.rules.specs.declared.Step.{Step}
use Rattle.rules.specs.Step.{step_at, sign, done}
use Rattle.rules.specs.Refusals.{named}
use Rattle.rules.specs.Rules.{step_of}
use Rattle.rules.specs.Pack.{unpack}
use Rattle.rules.specs.Calls.{begin_answer, run_answer, state_after, steps_in}
use Rattle.session.specs.Fed.{Call, begin, run, offer, show}
use Rattle.session.specs.Trace.{Answer, ran, Performed, Trace, opened, called}

-- step p is a signing that replies 0 and names take t
unfoldable pub signs_take : Layout → State → Step → ℕ → Bool
signs_take y s p t = eqb p.kind sign and (eqb (step_of y s p).reply.outcome done and named p.message t)

-- Over the first steps of a part, from the state s on: the text that take t had just before the last of them that signs it; v, if none does.
unfoldable pub last_signed : Layout → State → List ℕ → ℕ → ℕ → ℕ → ℕ
last_signed y s steps t v zero = v
last_signed y s steps t v (suc i) = pick (signs_take y (state_after y s steps i) (step_at steps i) t) (transactor_at (state_after y s steps i) t).value (last_signed y s steps t v i)

-- The same over a call on the image img; 0 after an accepted begin.
abbrev pub signed_over : Layout → List ℕ → Call → ℕ → ℕ → ℕ
signed_over y img (begin m) t v = pick (eqb (begin_answer y m img) 0) 0 v
signed_over y img (run list o start end lent) t v =
    pick (eqb (run_answer y img list start end lent) 0) (last_signed y (unpack y img) (part start (end - start) list) t v (steps_in (part start (end - start) list))) v
signed_over y img (offer u) t v = v
signed_over y img (show n) t v = v

-- The text that take t had in this session just before its last signing since the last accepted begin; 0 if there is none.
unfoldable pub signed_text : {y : Layout} {img : List ℕ} → Trace y img → ℕ → ℕ
signed_text (opened m img e) t = 0
signed_text {y} (called {img} τ c a p) t = signed_over y img c t (signed_text τ t)

-- At a point of the session τ, with the ledger's state s there: v, the text that take t had just before its last signing since the last accepted
-- begin; 0 if there is none. One for each Point.
pub data SignedAt (y : Layout) (t : ℕ) : (img : List ℕ) → Trace y img → State → ℕ → Type 1 where
  at-end : {img : List ℕ} {τ : Trace y img} → SignedAt y t img τ (unpack y img) (signed_text τ t)
  at-step : {img after list : List ℕ} {o : Octets list} {start end : ℕ} {lent replies : List ℕ} {r : ℕ} {τ : Trace y img}
      {p : Performed y img (run list o start end lent) (ran r replies) after} (i : ℕ) → r ≡ 0 → i < steps_in (part start (end - start) list)
      → SignedAt y t after (called τ (run list o start end lent) (ran r replies) p) (state_after y (unpack y img) (part start (end - start) list) i)
      (last_signed y (unpack y img) (part start (end - start) list) t (signed_text τ t) i)
  earlier : {img after : List ℕ} {τ : Trace y img} {k : Call} {x : Answer} {q : Performed y img k x after} {s : State} {v : ℕ} → SignedAt y t img τ s v → SignedAt y t after (called τ k x q) s v
