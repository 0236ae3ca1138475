-- Document 01, "Where each call is turned back": what each call answers and leaves, for every input.
use Rattle.std.specs.Prelude.{ℕ, zero, suc, ◌+◌, ◌-◌, ◌/◌, ◌%◌, ◌≤◌, ◌<◌, Bool, not, ◌≡◌, List, [], ◌++◌, length, eqb, ltb, leb}
use Rattle.std.proofs.Math.Option.{Option, none, some}
use Rattle.octets.specs.Bytes.{pick, ◌or◌, put, part, chunks, zeros}
use Rattle.rules.specs.Layout.{Layout, Limits, in_range, head_bytes, image_bytes, message_address, dependences_at, map_bytes}
use Rattle.rules.specs.Status.{annihilated}
use Rattle.rules.specs.State.{State, transactor_at, message_at, place_of}
use Rattle.rules.specs.Step.{step_bytes, step_at, pack_reply}
use Rattle.rules.specs.Rules.{step_of}
use Rattle.rules.specs.Pack.{pack_limits, pack, unpack}
use Rattle.rules.specs.Form.{well_formed}

-- 16: image not as long as the layout says
abbrev pub wrong_length : Layout → List ℕ → Bool
wrong_length y img = not (eqb (length img) (image_bytes y))

-- ---- begin a fresh image with these limits (document 02, W7)

-- 16; 33: "a beginning whose numbers are out of range, after 16"
unfoldable pub begin_answer : Layout → Limits → List ℕ → ℕ
begin_answer y m img = pick (wrong_length y img) 16 (pick (not (in_range y m)) 33 0)

-- "a fresh image is zero but for them"
unfoldable pub fresh_image : Layout → Limits → List ℕ
fresh_image y m = put head_bytes (pack_limits y m) (zeros (image_bytes y))

-- a refused begin changes no byte
unfoldable pub begin_image : Layout → Limits → List ℕ → List ℕ
begin_image y m img = pick (eqb (begin_answer y m img) 0) (fresh_image y m) img

-- ---- run a step list

-- the state after the first i steps of b
unfoldable pub state_after : Layout → State → List ℕ → ℕ → State
state_after y s b zero = s
state_after y s b (suc i) = (step_of y (state_after y s b i) (step_at b i)).state

-- the packed reply to step i of b
unfoldable pub reply_at : Layout → State → List ℕ → ℕ → List ℕ
reply_at y s b i = pack_reply (step_of y (state_after y s b i) (step_at b i)).reply

-- how many whole steps b has
abbrev pub steps_in : List ℕ → ℕ
steps_in b = length b / step_bytes

-- a run's longest part
abbrev pub longest : ℕ
longest = 8192

-- 17: part not inside the list, its length not a multiple of 8, or over 8,192 bytes
unfoldable pub wrong_part : List ℕ → ℕ → ℕ → Bool
wrong_part list start end =
    ltb end start or ltb (length list) end or not (eqb ((end - start) % step_bytes) 0) or ltb longest (end - start)

unfoldable pub run_answer : Layout → List ℕ → List ℕ → ℕ → ℕ → List ℕ → ℕ
run_answer y img list start end replies =
    pick (wrong_length y img) 16
    (pick (wrong_part list start end) 17
    (pick (not (eqb (length replies) (end - start))) 18
    (pick (not (well_formed y img)) 19 0)))

unfoldable pub ran_image : Layout → List ℕ → List ℕ → List ℕ
ran_image y img b = pack y (state_after y (unpack y img) b (steps_in b))

unfoldable pub ran_replies : Layout → List ℕ → List ℕ → List ℕ
ran_replies y img b = chunks (steps_in b) (reply_at y (unpack y img) b)

-- a refused run changes no byte
unfoldable pub run_image : Layout → List ℕ → List ℕ → ℕ → ℕ → List ℕ → List ℕ
run_image y img list start end replies =
    pick (eqb (run_answer y img list start end replies) 0) (ran_image y img (part start (end - start) list)) img

unfoldable pub run_replies : Layout → List ℕ → List ℕ → ℕ → ℕ → List ℕ → List ℕ
run_replies y img list start end replies =
    pick (eqb (run_answer y img list start end replies) 0) (ran_replies y img (part start (end - start) list)) replies

-- ---- for theorems: a list run in two parts

-- The list from start to end, run at once, with room all for the replies; or up to mid, with room first, and from there on, on
-- the image that the first run leaves, with room second.
pub record InParts (y : Layout) (img list : List ℕ) (start mid end : ℕ) (all first second : List ℕ) : Type 0 where
  -- both runs are accepted
  pub begun : run_answer y img list start mid first ≡ 0
  pub resumed : run_answer y (run_image y img list start mid first) list mid end second ≡ 0
  -- they leave the same image
  pub image : run_image y (run_image y img list start mid first) list mid end second ≡ run_image y img list start end all
  -- and give the same replies, one after the other
  pub replies : run_replies y img list start mid first ++ run_replies y (run_image y img list start mid first) list mid end second ≡ run_replies y img list start end all

-- ---- queries about a take: offer, and those of document 02

-- 16, 19, 21, 22
unfoldable pub query_refusal : Layout → List ℕ → ℕ → ℕ
query_refusal y img t =
    pick (wrong_length y img) 16
    (pick (not (well_formed y img)) 19
    (pick (leb (unpack y img).opened t) 21
    (pick (eqb (transactor_at (unpack y img) t).status annihilated) 22 0)))

-- ---- offer a parcel

-- the parcel with number n waits, addressed to take t
pub record WaitsFor (s : State) (t n : ℕ) : Type 0 where
  pub place : ℕ
  pub waits : place < length s.messages
  pub addressee : (message_at s place).addressee ≡ t
  pub number : (message_at s place).number ≡ n

-- and no other that waits for take t has a lower number
pub record LowestFor (s : State) (t n : ℕ) : Type 0 where
  pub waits : WaitsFor s t n
  pub lowest : (k : ℕ) → WaitsFor s t k → n ≤ k

-- The waiting parcel addressed to take t with the lowest number (document 02, W2), or none exactly if there is none. Refused: none.
pub data Offers (y : Layout) (img : List ℕ) (t : ℕ) : Option ℕ → Type 0 where
  refused : (query_refusal y img t ≡ 0 → ⊥) → Offers y img t none
  nothing : query_refusal y img t ≡ 0 → ((n : ℕ) → WaitsFor (unpack y img) t n → ⊥) → Offers y img t none
  waiting : {n : ℕ} → query_refusal y img t ≡ 0 → LowestFor (unpack y img) t n → Offers y img t (some n)

-- ---- show a parcel's map

-- 16, 19, 24
unfoldable pub show_refusal : Layout → List ℕ → ℕ → ℕ
show_refusal y img n =
    pick (wrong_length y img) 16
    (pick (not (well_formed y img)) 19
    (pick (leb (length (unpack y img).messages) (place_of (unpack y img) n)) 24 0))

-- The bytes of the image that hold a waiting parcel's map; refused, an empty part.
unfoldable pub shown : Layout → List ℕ → ℕ → List ℕ
shown y img n =
    pick (eqb (show_refusal y img n) 0)
    (part (message_address y (place_of (unpack y img) n) + dependences_at) (map_bytes y) img) []
