-- Document 02, W6, "Old images to new ones and back", and what W7 adds: the old form is that of layout narrow, 22,132 bytes, which stores
-- no limits; those of an old image are 16, 32 and 15 (`widest narrow`).
use Rattle.std.specs.Prelude.{ℕ, zero, suc, ◌-◌, ◌*◌, ◌<◌, Bool, not, ◌≡◌, List, length, get_or, eqb}
use Rattle.octets.specs.Bytes.{pick, ◌and◌, every, part, Octets}
use Rattle.maps.specs.Within.{map_within, LowMap}
use Rattle.rules.specs.Layout.{Layout, Limits, widest, narrow, base}
use Rattle.rules.specs.State.{Transactor, Message, State, transactor_at, message_at}
use Rattle.rules.specs.Step.{step_bytes, step_at}
use Rattle.rules.specs.Rules.{step_of}
use Rattle.rules.specs.Pack.{pack, unpack}
use Rattle.rules.specs.Form.{well_formed}
use Rattle.rules.specs.Calls.{wrong_length, state_after, steps_in, run_answer, run_image, run_replies}

-- ---- the conversions. "Each field of the old form keeps its value both ways."

-- an image of the old form in the new one; W7: "conversion forward sets those" limits
unfoldable pub forward : List ℕ → List ℕ
forward img = pack base (unpack narrow img)

-- an image of the new form in the old one
unfoldable pub back : List ℕ → List ℕ
back img = pack narrow (unpack base img)

-- ---- 32: "a new image in which some life number or list entry is over 255"

abbrev pub largest_narrow : ℕ
largest_narrow = 255

-- every life number and list entry of a take is at most n
unfoldable pub transactor_within : ℕ → Layout → Transactor → Bool
transactor_within n y x =
    map_within n y.places y.transactors x.state
    and map_within n y.places y.transactors x.creation
    and map_within n y.places y.transactors x.behaviour

-- of a parcel
unfoldable pub message_within : ℕ → Layout → Message → Bool
message_within n y m = map_within n y.places y.transactors m.dependences

-- of all takes and all waiting parcels
unfoldable pub state_within : ℕ → Layout → State → Bool
state_within n y s =
    every y.transactors (λ t. transactor_within n y (transactor_at s t))
    and every (length s.messages) (λ k. message_within n y (message_at s k))

-- W7: "Conversion back also answers 32 unless the limits are 16, 32 and 15"
unfoldable pub limits_are : Limits → Limits → Bool
limits_are a b = eqb a.transactors b.transactors and eqb a.messages b.messages and eqb a.checkpoints b.checkpoints

unfoldable pub too_wide : List ℕ → Bool
too_wide img = not (limits_are (unpack base img).limits (widest base) and state_within largest_narrow base (unpack base img))

-- ---- the calls. "Source and destination lengths come under 16 and form under 19." 32 is "checked last and leaving the
-- destination untouched", as every refusal does

unfoldable pub forward_answer : List ℕ → List ℕ → ℕ
forward_answer old new =
    pick (wrong_length narrow old) 16
    (pick (wrong_length base new) 16
    (pick (not (well_formed narrow old)) 19 0))

-- what the destination new then holds
unfoldable pub forward_image : List ℕ → List ℕ → List ℕ
forward_image old new = pick (eqb (forward_answer old new) 0) (forward old) new

unfoldable pub back_answer : List ℕ → List ℕ → ℕ
back_answer new old =
    pick (wrong_length base new) 16
    (pick (wrong_length narrow old) 16
    (pick (not (well_formed base new)) 19
    (pick (too_wide new) 32 0)))

-- what the destination old then holds
unfoldable pub back_image : List ℕ → List ℕ → List ℕ
back_image new old = pick (eqb (back_answer new old) 0) (back new) old

-- ---- for theorems: states whose life numbers and list entries are all below b

pub record LowTransactor (b n : ℕ) (x : Transactor) : Type 0 where
  pub state : LowMap b n x.state
  pub creation : LowMap b n x.creation
  pub behaviour : LowMap b n x.behaviour

pub record LowState (b n : ℕ) (s : State) : Type 0 where
  pub transactors : (t : ℕ) → t < n → LowTransactor b n (transactor_at s t)
  pub messages : (k : ℕ) → k < length s.messages → LowMap b n (message_at s k).dependences

-- ---- for theorems: sessions "as long as the old one gives no 28"

-- none of the first n replies is 28
pub record No28 (y : Layout) (s : State) (b : List ℕ) (n : ℕ) : Type 0 where
  pub none : (i : ℕ) → i < n → (step_of y (state_after y s b i) (step_at b i)).reply.outcome ≡ 28 → ⊥

-- reply i in r is not 28
unfoldable pub NoneIs28 : List ℕ → ℕ → Type 0
NoneIs28 r n = (i : ℕ) → i < n → get_or r (step_bytes * i) 0 ≡ 28 → ⊥

-- runs, each on the image as the last left it
pub record Asked : Type 0 where
  pub list : List ℕ
  pub start : ℕ
  pub end : ℕ
  pub replies : List ℕ

-- the image after the first i runs
unfoldable pub image_after : Layout → List ℕ → (ℕ → Asked) → ℕ → List ℕ
image_after y img r zero = img
image_after y img r (suc i) = run_image y (image_after y img r i) (r i).list (r i).start (r i).end (r i).replies

-- what run i answers, and the replies that it leaves
abbrev pub answer_of : Layout → List ℕ → (ℕ → Asked) → ℕ → ℕ
answer_of y img r i = run_answer y (image_after y img r i) (r i).list (r i).start (r i).end (r i).replies

abbrev pub replies_of : Layout → List ℕ → (ℕ → Asked) → ℕ → List ℕ
replies_of y img r i = run_replies y (image_after y img r i) (r i).list (r i).start (r i).end (r i).replies

-- lists of bytes, and no 28 among the replies of those of the old image's first n runs that are not refused
pub record Without28 (img : List ℕ) (r : ℕ → Asked) (n : ℕ) : Type 0 where
  pub bytes : (i : ℕ) → i < n → Octets (r i).list
  pub none28 : (i : ℕ) → i < n → answer_of narrow img r i ≡ 0 → NoneIs28 (replies_of narrow img r i) (steps_in (part (r i).start ((r i).end - (r i).start) (r i).list))
