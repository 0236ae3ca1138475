-- What is left to do so that a take is signed. `smallest_group` says what can be signed now, `impediment`
-- what is in the way; `plan` gives the steps after which the take is signed with all that it rests on, each of
-- them answered with outcome 0. For an example: take 1 is at work and rests on take 0, which is idle; neither is
-- frozen, and the next parcel number is 5. The plan for take 1 is: letter to 0, receive 5, freeze 0, freeze 1,
-- sign {0,1}.
use Rattle.std.specs.Prelude.{ℕ, ◌+◌, ◌*◌, ◌-◌, ◌<◌, Bool, true, false, not, ◌≡◌, List, [], ◌++◌, length, get_or, eqb, ltb, leb, Option, Some, None}
use Rattle.octets.specs.Bytes.{pick, ◌and◌, ◌or◌, part, chunks, zeros}
use Rattle.rules.specs.declared.Impediment.{Impediment}
use Rattle.rules.specs.declared.Impediment.TheVariants.{Hopeless, Exhausted, Unstable}
use Rattle.rules.specs.Layout.{Layout, last_number}
use Rattle.rules.specs.Status.{idle}
use Rattle.rules.specs.State.{State, transactor_at, own_history}
use Rattle.rules.specs.Step.{Step, step_bytes, pack_step, step_at, letter, receive, freeze, done}
use Rattle.rules.specs.Refusals.{named}
use Rattle.rules.specs.Rules.{step_of}
use Rattle.rules.specs.Pack.{transactor_part, message_part, unpack}
use Rattle.rules.specs.Calls.{state_after, steps_in, run_answer, run_image, run_replies, query_refusal}
use Rattle.rules.specs.Groups.{signing}
use Rattle.rules.specs.ReadyGroups.{how_many}
use Rattle.rules.specs.Dependents.{through_at, group_of}
use Rattle.rules.specs.Impediment.{impediment_of}

-- ---- the steps of a plan

-- a letter to take c: its map is empty, so the receipt leaves the take at work and changes nothing else in it
abbrev pub waking : ℕ → Step
waking c = record { kind = letter; transactor = c; other = 0; zero = 0; message = 0; value = 0 }

-- the receipt of the parcel with number n
abbrev pub receipt : ℕ → Step
receipt n = record { kind = receive; transactor = 0; other = 0; zero = 0; message = n; value = 0 }

abbrev pub freezing : ℕ → Step
freezing c = record { kind = freeze; transactor = c; other = 0; zero = 0; message = 0; value = 0 }

-- ---- what is to be done with the takes of volume g

-- take c is one of them and not frozen yet: it has to be frozen
unfoldable pub to_freeze : State → ℕ → ℕ → Bool
to_freeze s g c = named g c and not (own_history c (transactor_at s c)).stable

-- besides, it is idle, and only a take at work can be frozen: a letter has to wake it first
unfoldable pub to_wake : State → ℕ → ℕ → Bool
to_wake s g c = to_freeze s g c and eqb (transactor_at s c).status idle

-- the steps for take c, packed; its letter has the number that is next once the takes below c had theirs
unfoldable pub steps_for : State → ℕ → ℕ → List ℕ
steps_for s g c =
    pick (to_freeze s g c)
    (pick (to_wake s g c)
    (pack_step (waking c) ++ pack_step (receipt (s.next + how_many c (to_wake s g))) ++ pack_step (freezing c))
    (pack_step (freezing c)))
    []

-- how many letters the volume needs
unfoldable pub letters : Layout → State → ℕ → ℕ
letters y s g = how_many y.transactors (to_wake s g)

-- There is room for them: none is needed; or one more parcel may wait (each letter is received before the next
-- is sent), and there is a number for each.
unfoldable pub letters_fit : Layout → State → ℕ → Bool
letters_fit y s g = eqb (letters y s g) 0 or (ltb (length s.messages) s.limits.messages and leb (s.next + letters y s g) last_number)

-- ---- the plan

-- all that take t rests on, directly or through the present lives of others, itself among them
unfoldable pub resting_volume : Layout → State → ℕ → ℕ
resting_volume y s t = group_of y.transactors (λ c. through_at s y.transactors c t)

-- what is in the way, if anything is, can be mended by further steps: it is neither hopeless nor exhausted
abbrev pub mendable : Option Impediment → Bool
mendable None = true
mendable (Some (Hopeless c u x)) = false
mendable (Some (Exhausted c x)) = false
mendable (Some (Unstable c x)) = true

-- the steps that sign volume g, packed; none if there is no room for a letter that is needed
unfoldable pub steps_to_sign : Layout → State → ℕ → List ℕ
steps_to_sign y s g = pick (letters_fit y s g) (chunks y.transactors (steps_for s g) ++ pack_step (signing g)) []

-- those that sign take t with all that it rests on; none if what is in the way can't be mended
unfoldable pub plan_of : Layout → State → ℕ → List ℕ
plan_of y s t = pick (mendable (impediment_of y s t)) (steps_to_sign y s (resting_volume y s t)) []

-- ---- the call

-- three steps for each take, and the signing
abbrev pub plan_bytes : Layout → ℕ
plan_bytes y = step_bytes * (3 * y.transactors + 1)

-- 16, 19, 21 and 22 as offer; 18: out has another length
unfoldable pub plan_refusal : Layout → List ℕ → ℕ → List ℕ → ℕ
plan_refusal y img t out =
    pick (eqb (query_refusal y img t) 0) (pick (eqb (length out) (plan_bytes y)) 0 18) (query_refusal y img t)

-- how many steps
unfoldable pub plan_answer : Layout → List ℕ → ℕ → List ℕ → ℕ
plan_answer y img t out = pick (eqb (plan_refusal y img t out) 0) (steps_in (plan_of y (unpack y img) t)) 0

-- bytes past the steps are zero; refused: not touched
unfoldable pub plan_out : Layout → List ℕ → ℕ → List ℕ → List ℕ
plan_out y img t out =
    pick (eqb (plan_refusal y img t out) 0)
    (plan_of y (unpack y img) t ++ zeros (plan_bytes y - length (plan_of y (unpack y img) t)))
    out

-- ---- for theorems: what a list of steps does that signs a volume with take t

-- The steps b, run from state s. Nobody falls (outcome 3 or 4): every outcome is 0.
pub record Attains (y : Layout) (s : State) (t : ℕ) (b : List ℕ) : Type 0 where
  -- whole steps, at least one
  pub whole : length b ≡ step_bytes * steps_in b
  pub some : 0 < steps_in b
  -- every step is answered with 0
  pub replies : (i : ℕ) → i < steps_in b → (step_of y (state_after y s b i) (step_at b i)).reply.outcome ≡ done
  -- the last signs the volume of take t and all that it rests on
  pub last : step_at b (steps_in b - 1) ≡ signing (resting_volume y s t)
  pub contains : named (resting_volume y s t) t ≡ true
  -- no text changes, nor anything of a take that is not in the volume, and the same parcels wait
  pub values : (u : ℕ) → (transactor_at (state_after y s b (steps_in b)) u).value ≡ (transactor_at s u).value
  pub others : (u : ℕ) → named (resting_volume y s t) u ≡ false → transactor_at (state_after y s b (steps_in b)) u ≡ transactor_at s u
  pub messages : (state_after y s b (steps_in b)).messages ≡ s.messages

-- The list that the call wrote, run on that image from byte 0 on up to where its steps end, with lent for the replies.
pub record PlanRuns (y : Layout) (img : List ℕ) (t : ℕ) (out lent : List ℕ) : Type 0 where
  -- it is the plan, which attains take t
  pub is : part 0 (step_bytes * plan_answer y img t out) (plan_out y img t out) ≡ plan_of y (unpack y img) t
  pub attains : Attains y (unpack y img) t (plan_of y (unpack y img) t)
  -- the run is accepted, and every reply has outcome 0
  pub accepted : run_answer y img (plan_out y img t out) 0 (step_bytes * plan_answer y img t out) lent ≡ 0
  pub replies : (i : ℕ) → i < plan_answer y img t out → get_or (run_replies y img (plan_out y img t out) 0 (step_bytes * plan_answer y img t out) lent) (step_bytes * i) 0 ≡ done
  -- the image after it: no text changes; the takes that are not in the volume and the waiting parcels are the same byte for byte
  pub values : (u : ℕ) → (transactor_at (unpack y (run_image y img (plan_out y img t out) 0 (step_bytes * plan_answer y img t out) lent)) u).value ≡ (transactor_at (unpack y img) u).value
  pub others : (u : ℕ) → u < y.transactors → named (resting_volume y (unpack y img) t) u ≡ false
      → transactor_part y (run_image y img (plan_out y img t out) 0 (step_bytes * plan_answer y img t out) lent) u ≡ transactor_part y img u
  pub messages : (k : ℕ) → k < y.messages → message_part y (run_image y img (plan_out y img t out) 0 (step_bytes * plan_answer y img t out) lent) k ≡ message_part y img k
