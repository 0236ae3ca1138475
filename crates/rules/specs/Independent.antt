-- Steps in other orders of arrival. Document 02's W8 (specs/Exchange) is about two edits of different takes; this is about any two
-- steps. Two steps are independent if neither sees what the other changes. Then both orders leave the same image and give each step
-- the same reply, also where one of them is refused. Nothing here asks whether the state is well-formed.
use Rattle.std.specs.Prelude.{ℕ, zero, suc, ◌+◌, ◌*◌, ◌≤◌, Bool, true, false, not, ◌≡◌, List, [], ◌∷◌, eqb, length}
use Rattle.octets.specs.Bytes.{pick, ◌and◌, ◌or◌, chunks}
use Rattle.marks.specs.Incarnation.{Incarnation, checkpointed_in}
use Rattle.marks.specs.History.{incarnation_of}
use Rattle.maps.specs.Map.{held_at, history_at}
use Rattle.rules.specs.Layout.{Layout}
use Rattle.rules.specs.State.{Transactor, State, transactor_at, own_history, live}
use Rattle.rules.specs.Step.{Step, root, letter, receive, new, send, lose, sign, step_bytes, unpack_step, step_at}
use Rattle.rules.specs.Refusals.{named, acts, sends, malformed}
use Rattle.rules.specs.Rules.{join, group_ready, refusal, step_of}
use Rattle.rules.specs.Pack.{unpack}
use Rattle.rules.specs.Form.{well_formed}
use Rattle.rules.specs.Calls.{wrong_length, state_after, reply_at, steps_in, run_answer, run_image, run_replies, WaitsFor}
use Rattle.rules.specs.Exchange.{exchanged_at}

-- ---- what a step sees of a session, and what it changes

-- A cell is a part of the state in which two steps can meet: one changes it, the other sees it.
pub data Cell : Type 0 where
  -- all of take t: its status, texts and maps
  whole : ℕ → Cell
  -- whether take t is opened, and no more of it
  there : ℕ → Cell
  -- which lives of take t are signed, and no more of it
  signed : ℕ → Cell
  -- the parcel with number n: what it is, or that no such parcel waits
  parcel : ℕ → Cell
  -- whether all places of parcels are taken
  room : Cell

-- "opens a take": root, new
abbrev pub opens : ℕ → Bool
opens k = eqb k root or eqb k new

-- "used up" or "removes it": receive, lose
abbrev pub takes_away : ℕ → Bool
takes_away k = eqb k receive or eqb k lose

-- x has a mark of take u in its state or creation map
abbrev pub has_mark : Transactor → ℕ → Bool
has_mark x u = held_at x.state u or held_at x.creation u

-- life a of take u is signed: "its take's present L begins with its list followed by its n"; a vanished take has no signed life
abbrev pub signed_in : State → ℕ → Incarnation → Bool
signed_in s u a = live (transactor_at s u) and checkpointed_in a (incarnation_of (own_history u (transactor_at s u)))

-- The cells that step p looks at in the state s before it replies. A malformed step looks at none (see Unseen).
pub data Sees (s : State) (p : Step) : Cell → Type 0 where
  -- kinds 3 to 10 see the acting take
  acting : acts p.kind ≡ true → Sees s p (whole p.transactor)
  -- 0 and 3 see the take that is opened next
  opening : opens p.kind ≡ true → Sees s p (whole s.opened)
  -- 1 and 4 see whether the addressee is opened, the parcel with the next number, and whether all places are taken
  letter-to : p.kind ≡ letter → Sees s p (there p.transactor)
  send-to : p.kind ≡ send → Sees s p (there p.other)
  making : sends p.kind ≡ true → Sees s p (parcel s.next)
  placing : sends p.kind ≡ true → Sees s p room
  -- 2 and 11 see the parcel that they name; 2 sees its addressee too, if it waits
  taking : takes_away p.kind ≡ true → Sees s p (parcel p.message)
  receiving : (t : ℕ) → p.kind ≡ receive → WaitsFor s t p.message → Sees s p (whole t)
  -- 12 sees the named takes, and of every take of which a named one has a mark in its state or creation map which lives are signed
  naming : (t : ℕ) → p.kind ≡ sign → named p.message t ≡ true → Sees s p (whole t)
  resting : (t u : ℕ) → p.kind ≡ sign → named p.message t ≡ true → has_mark (transactor_at s t) u ≡ true → Sees s p (signed u)

-- The cells that step p may leave otherwise than they were in the state s. A refused step changes none (see Unseen).
pub data Changes (y : Layout) (s : State) (p : Step) : Cell → Type 0 where
  -- kinds 3 and 5 to 10 change the acting take; a send leaves it as it was
  acting : acts p.kind ≡ true → (p.kind ≡ send → ⊥) → Changes y s p (whole p.transactor)
  -- 0 and 3 change the take that is opened next, and that it is opened
  opening : opens p.kind ≡ true → Changes y s p (whole s.opened)
  opened : opens p.kind ≡ true → Changes y s p (there s.opened)
  -- 1 and 4 make the parcel with the next number
  making : sends p.kind ≡ true → Changes y s p (parcel s.next)
  -- 2 and 11 take away the parcel that they name; if all places were taken, one is free afterwards; 2 changes the addressee
  taking : takes_away p.kind ≡ true → Changes y s p (parcel p.message)
  freeing : takes_away p.kind ≡ true → s.limits.messages ≤ length s.messages → Changes y s p room
  receiving : (t : ℕ) → p.kind ≡ receive → WaitsFor s t p.message → Changes y s p (whole t)
  -- 12 changes the named takes, if the volume is signed
  naming : (t : ℕ) → p.kind ≡ sign → group_ready y s p.message ≡ true → named p.message t ≡ true → Changes y s p (whole t)
  -- Any step changes which lives of a take are signed, if some life is signed after it and was not before, or the other way round. Only a
  -- signing does so; and a write, on an image whose behaviour map has a mark that no grown session has (proofs/Independent/Signed).
  signing : (t : ℕ) (a : Incarnation) → (signed_in (step_of y s p).state t a ≡ signed_in s t a → ⊥) → Changes y s p (signed t)

-- q sees nothing that p changes: p is refused, and changes nothing; or q is malformed, and sees nothing; or they meet in no cell
pub record Unseen (y : Layout) (s : State) (p q : Step) : Type 0 where
  pub by : refusal y s p ≡ 0 → malformed q ≡ false → (c : Cell) → Changes y s p c → Sees s q c → ⊥

-- The two steps are independent in the state s: neither sees what the other changes.
pub record Independent (y : Layout) (s : State) (p q : Step) : Type 0 where
  pub forth : Unseen y s p q
  pub back : Unseen y s q p

-- ---- the call: whether two steps, eight bytes each, are independent on an image

-- 16; 17: a step that has not eight bytes; 19
unfoldable pub independent_refusal : Layout → (img first second : List ℕ) → ℕ
independent_refusal y img first second =
    pick (wrong_length y img) 16
    (pick (not (eqb (length first) step_bytes) or not (eqb (length second) step_bytes)) 17
    (pick (not (well_formed y img)) 19 0))

-- Yes exactly if the two steps are independent in the state that the image holds. Refused: no.
pub data IndependentAnswer (y : Layout) (img first second : List ℕ) : Bool → Type 0 where
  refused : (independent_refusal y img first second ≡ 0 → ⊥) → IndependentAnswer y img first second false
  independent : independent_refusal y img first second ≡ 0 → Independent y (unpack y img) (unpack_step first) (unpack_step second)
      → IndependentAnswer y img first second true
  dependent : independent_refusal y img first second ≡ 0 → (Independent y (unpack y img) (unpack_step first) (unpack_step second) → ⊥)
      → IndependentAnswer y img first second false

-- For theorems about a write: x, which is take t, has the same list in its own mark after its behaviour map has joined its state map.
pub record KeepsList (y : Layout) (t : ℕ) (x : Transactor) : Type 0 where
  pub is : (incarnation_of (history_at (join y x.behaviour x.state) t)).checkpoints ≡ (incarnation_of (own_history t x)).checkpoints

-- ---- lists of steps: independent neighbours exchanged, one exchange after the other

-- The list b after these exchanges: for each place i of the first list in turn, steps i and i + 1 change places. Step 0 starts at byte k.
unfoldable pub rearranged : ℕ → List ℕ → List ℕ → List ℕ
rearranged k [] b = b
rearranged k (i ∷ places) b = rearranged k places (exchanged_at (k + step_bytes * i) b)

-- Run from the state s, each of these exchanges in the list b is of two steps that are independent in the state just before them.
pub data Reorders (y : Layout) (s : State) : List ℕ → List ℕ → Type 0 where
  as_is : (b : List ℕ) → Reorders y s [] b
  exchange : (i : ℕ) (places b : List ℕ) → i + 2 ≤ steps_in b
      → Independent y (state_after y s b i) (step_at b i) (step_at b (i + 1))
      → Reorders y s places (exchanged_at (step_bytes * i) b) → Reorders y s (i ∷ places) b

-- The list c is an order of the steps of b in which every step sees what it saw in b: some such exchanges turn b into c.
pub record Orders (y : Layout) (s : State) (b c : List ℕ) : Type 0 where
  pub places : List ℕ
  pub reorders : Reorders y s places b
  pub is : rearranged 0 places b ≡ c

-- The exchanges that bring step i + m forward to place i, past the m steps before it.
unfoldable pub brought_to : ℕ → ℕ → List ℕ
brought_to i zero = []
brought_to i (suc m) = (i + m) ∷ brought_to i m

-- A list of whole steps, and the list after such exchanges: they lead to the same state, and every step has the same reply, in its new place.
pub record StepsReordered (y : Layout) (s : State) (b places : List ℕ) : Type 0 where
  pub state : state_after y s (rearranged 0 places b) (steps_in b) ≡ state_after y s b (steps_in b)
  pub replies : chunks (steps_in b) (reply_at y s (rearranged 0 places b)) ≡ rearranged 0 places (chunks (steps_in b) (reply_at y s b))

-- A run of any part of any list, and of the list in which the part's steps have so changed places: the same answer and the same image, and
-- every step has the same reply, in its new place. A refused run leaves the buffer as it was.
pub record RunReordered (y : Layout) (img list : List ℕ) (start end : ℕ) (buffer places : List ℕ) : Type 0 where
  pub answer : run_answer y img (rearranged start places list) start end buffer ≡ run_answer y img list start end buffer
  pub image : run_image y img (rearranged start places list) start end buffer ≡ run_image y img list start end buffer
  pub replies : run_replies y img (rearranged start places list) start end buffer
      ≡ pick (eqb (run_answer y img list start end buffer) 0) (rearranged 0 places (run_replies y img list start end buffer)) buffer
