-- Document 02, W4: the ledger without the news, to compare the ledger with. "in a session grown from fresh which volumes sign is
-- unchanged", and by W11 "W4's news alters no reply from fresh".
use Rattle.std.specs.Prelude.{ℕ, zero, suc, ◌-◌, List, eqb}
use Rattle.octets.specs.Bytes.{pick, ◌and◌, part}
use Rattle.rules.specs.Layout.{Layout}
use Rattle.rules.specs.Status.{busy}
use Rattle.rules.specs.State.{Transactor, Message, State, transactor_at, message_at, with_behaviour, with_status, with_transactor, without_message, place_of, fresh}
use Rattle.rules.specs.declared.Step.{Step}
use Rattle.rules.specs.Step.{step_at, receive, done, dropped}
use Rattle.rules.specs.Rules.{Effect, Result, unchanged, rollback, message_superseded, receiver_superseded, refusal, answer, step_of}
use Rattle.rules.specs.Calls.{steps_in}
use Rattle.session.specs.Fed.{Call, begin, run, offer, show}
use Rattle.session.specs.Trace.{refusal_in, Trace, opened, called}

-- a receipt as the rules have it (receive_by of rules/specs/Rules), but where the parcel is taken in, state and creation maps stay as they are
unfoldable pub receive_silently : Layout → ℕ → Transactor → Message → Effect
receive_silently y t x m =
    pick (message_superseded y x m) (unchanged dropped x)
    (pick (receiver_superseded y x m) (rollback y t x)
    (record { outcome = done; value = m.value; transactor = with_behaviour (with_status x busy) m.dependences }))

-- a receipt that is not refused, as apply_receive has it
unfoldable pub apply_silently : Layout → State → Step → Result
apply_silently y s p =
    let k : ℕ = place_of s p.message in
    let t : ℕ = (message_at s k).addressee in
    let e : Effect = receive_silently y t (transactor_at s t) (message_at s k) in
    record {
      reply = answer e.outcome t p.message e.value;
      state = without_message (with_transactor s t e.transactor) k;
    }

-- a step: every other one, and a receipt that is refused, is the ledger's own
unfoldable pub step_silently : Layout → State → Step → Result
step_silently y s p = pick (eqb p.kind receive and eqb (refusal y s p) 0) (apply_silently y s p) (step_of y s p)

-- the state after the first i steps of b, as state_after has it
unfoldable pub silent_after : Layout → State → List ℕ → ℕ → State
silent_after y s b zero = s
silent_after y s b (suc i) = (step_silently y (silent_after y s b i) (step_at b i)).state

-- ---- over the calls of a session

-- its state after the call c, if that answered r, from its state s before: an accepted begin is fresh, an accepted run goes on by its steps
unfoldable pub silent_call : Layout → Call → ℕ → State → State
silent_call y (begin m) r s = pick (eqb r 0) (fresh y m) s
silent_call y (run list o start end lent) r s = pick (eqb r 0) (silent_after y s (part start (end - start) list) (steps_in (part start (end - start) list))) s
silent_call y (offer t) r s = s
silent_call y (show n) r s = s

-- after the calls of the session τ
unfoldable pub silent_in : {y : Layout} {img : List ℕ} → Trace y img → State
silent_in {y} (opened m img e) = fresh y m
silent_in {y} (called τ c a p) = silent_call y c (refusal_in a) (silent_in τ)
