-- Document 01, "For the reviewer": parcels counted from the steps of a session and the replies to them, from its last accepted
-- begin on.
use Rattle.std.specs.Prelude.{ℕ, zero, suc, ◌+◌, ◌-◌, ◌*◌, Bool, List, [], length, get_or, eqb}
use Rattle.octets.specs.Bytes.{pick, ◌and◌, ◌or◌, part}
use Rattle.rules.specs.Layout.{Layout}
use Rattle.rules.specs.Step.{step_bytes, step_at, receive, lose, done, dropped, fallen_back, vanished}
use Rattle.rules.specs.Refusals.{sends}
use Rattle.rules.specs.Pack.{unpack}
use Rattle.rules.specs.Calls.{steps_in}
use Rattle.session.specs.Fed.{Call, begin, run, offer, show}
use Rattle.session.specs.Trace.{Answer, begun, ran, offered, showed, refusal_in, Trace, opened, called}

-- ---- what is counted, by a step's kind and the first byte of its reply

-- made: letter and send that are not refused
unfoldable pub made : ℕ → ℕ → Bool
made kind outcome = sends kind and eqb outcome done

-- received with outcomes 0, 2, 3, 4
unfoldable pub received : ℕ → ℕ → Bool
received kind outcome = eqb kind receive and (eqb outcome done or eqb outcome dropped or eqb outcome fallen_back or eqb outcome vanished)

-- lost: lose that is not refused
unfoldable pub lost : ℕ → ℕ → Bool
lost kind outcome = eqb kind lose and eqb outcome done

abbrev pub once : Bool → ℕ
once b = pick b 1 0

-- ---- counting

-- the first n steps of a part, with the replies
unfoldable pub count_steps : (ℕ → ℕ → Bool) → List ℕ → List ℕ → ℕ → ℕ
count_steps f steps replies zero = 0
count_steps f steps replies (suc i) = count_steps f steps replies i + once (f (step_at steps i).kind (get_or replies (step_bytes * i) 0))

-- the replies that a run gives back
abbrev pub replies_in : Answer → List ℕ
replies_in (begun r) = []
replies_in (ran r replies) = replies
replies_in (offered r message) = []
replies_in (showed r bytes) = []

-- a call, n counted before it: an accepted begin counts from 0, an accepted run adds its steps
unfoldable pub count_call : (ℕ → ℕ → Bool) → Call → Answer → ℕ → ℕ
count_call f (begin m) a n = pick (eqb (refusal_in a) 0) 0 n
count_call f (run list o start end lent) a n =
    pick (eqb (refusal_in a) 0) (n + count_steps f (part start (end - start) list) (replies_in a) (steps_in (part start (end - start) list))) n
count_call f (offer t) a n = n
count_call f (show k) a n = n

-- the whole session
unfoldable pub count : {y : Layout} {img : List ℕ} → (ℕ → ℕ → Bool) → Trace y img → ℕ
count f (opened m img e) = 0
count f (called τ c a p) = count_call f c a (count f τ)

-- parcels waiting in an image
unfoldable pub waiting : Layout → List ℕ → ℕ
waiting y img = length (unpack y img).messages
