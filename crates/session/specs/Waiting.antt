-- Document 02, W14, "Nothing lost by waiting": "For a session grown from fresh, if a volume is ready, and the next step is no signing,
-- it must still be ready afterwards."
use Rattle.std.specs.Prelude.{ℕ, ◌-◌, ◌≤◌, ◌<◌, true, ◌≡◌, List}
use Rattle.octets.specs.Bytes.{part, Octets}
use Rattle.octets.specs.Numbers.{bound}
use Rattle.maps.specs.Map.{held_at, history_at}
use Rattle.rules.specs.Layout.{Layout}
use Rattle.rules.specs.State.{State, transactor_at, message_at, own_history, place_of}
use Rattle.rules.specs.declared.Step.{Step}
use Rattle.rules.specs.Step.{step_at, receive, sign, done, fallen_back, vanished}
use Rattle.rules.specs.Rules.{entry_ready, step_of}
use Rattle.rules.specs.Groups.{signing}
use Rattle.rules.specs.Refusals.{named}
use Rattle.rules.specs.Pack.{unpack}
use Rattle.rules.specs.Calls.{state_after, steps_in, run_answer}
use Rattle.session.specs.Fed.{Call, run}
use Rattle.session.specs.Trace.{CallsFrom, GoesOn}

-- volume v is ready: the step that signs it would reply 0
pub record ReadyGroup (y : Layout) (s : State) (v : ℕ) : Type 0 where
  pub bits : v < bound 2
  pub signs : (step_of y s (signing v)).reply.outcome ≡ done

-- ---- the fact to show first

-- "A frozen take whose marks in state and creation, its own apart, are all of signed lives or of present lives of takes in the ready
-- volume": take t, which need not be in volume v. Each mark of another take u passes the signing rule's own test.
pub record Grounded (s : State) (v t : ℕ) : Type 0 where
  pub stable : (own_history t (transactor_at s t)).stable ≡ true
  pub state : (u : ℕ) → (u ≡ t → ⊥) → held_at (transactor_at s t).state u ≡ true → entry_ready s v u (history_at (transactor_at s t).state u) ≡ true
  pub creation : (u : ℕ) → (u ≡ t → ⊥) → held_at (transactor_at s t).creation u ≡ true → entry_ready s v u (history_at (transactor_at s t).creation u) ≡ true

-- the replies to a receipt by which the addressee falls: outcomes 3 and 4; and 28, where it would fall from the largest life number
pub data Rolls : ℕ → Type 0 where
  rolls-back : Rolls fallen_back
  annihilates : Rolls vanished
  rolls-last : Rolls 28

-- "can't be made to fall by any parcel of that session": no receipt of a parcel addressed to take t has such a reply
abbrev pub Stands : Layout → State → ℕ → Type 0
Stands y s t = (p : Step) → p.kind ≡ receive → (message_at s (place_of s p.message)).addressee ≡ t → Rolls (step_of y s p).reply.outcome → ⊥

-- ---- lists of steps and of calls without a signing

-- none of the steps i up to j of a part is a signing
abbrev pub NoSigning : List ℕ → ℕ → ℕ → Type 0
NoSigning steps i j = (k : ℕ) → i ≤ k → k < j → (step_at steps k).kind ≡ sign → ⊥

-- a call on the image img that signs nothing: no accepted begin, which is a new session, and no accepted run with a signing among its steps
pub record Waits (y : Layout) (img : List ℕ) (c : Call) : Type 0 where
  pub goes_on : GoesOn y img c
  pub uncheckpointed : (list : List ℕ) (o : Octets list) (start end : ℕ) (lent : List ℕ) → c ≡ run list o start end lent → run_answer y img list start end lent ≡ 0
      → NoSigning (part start (end - start) list) 0 (steps_in (part start (end - start) list))

-- such calls, one after the other
abbrev pub Waiting : Layout → (img after : List ℕ) → Type 0
Waiting y img after = CallsFrom y (Waits y) img after

-- ---- lists of steps and of calls that leave one take unsigned

-- step p signs take t: a signing that names it and replies 0
pub record CheckpointsTransactor (y : Layout) (s : State) (p : Step) (t : ℕ) : Type 0 where
  pub kind : p.kind ≡ sign
  pub names : named p.message t ≡ true
  pub signs : (step_of y s p).reply.outcome ≡ done

-- none of the steps i up to j of a part, run from the state s, signs take t
abbrev pub Uncheckpointed : Layout → State → List ℕ → (t i j : ℕ) → Type 0
Uncheckpointed y s steps t i j = (k : ℕ) → i ≤ k → k < j → CheckpointsTransactor y (state_after y s steps k) (step_at steps k) t → ⊥

-- a call on the image img that does not sign take t: no accepted begin, and no accepted run one of whose steps signs it
pub record Leaves (y : Layout) (t : ℕ) (img : List ℕ) (c : Call) : Type 0 where
  pub goes_on : GoesOn y img c
  pub uncheckpointed : (list : List ℕ) (o : Octets list) (start end : ℕ) (lent : List ℕ) → c ≡ run list o start end lent → run_answer y img list start end lent ≡ 0
      → Uncheckpointed y (unpack y img) (part start (end - start) list) t 0 (steps_in (part start (end - start) list))

-- such calls, one after the other: "that session", until take t is signed in it
abbrev pub Leaving : Layout → (img : List ℕ) (t : ℕ) (after : List ℕ) → Type 0
Leaving y img t after = CallsFrom y (Leaves y t) img after
