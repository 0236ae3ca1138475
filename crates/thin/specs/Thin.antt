-- Document 02, W12: "every step whose reply is 20 or more is left out, and so is a read whose map is emptied unused, by the rule below. The
-- rest stand in their order, and the image is only read."
use Rattle.std.specs.Prelude.{ℕ, zero, suc, ◌+◌, ◌-◌, ◌*◌, ◌≤◌, ◌<◌, Bool, true, false, not, ◌≡◌, List, [], ◌++◌, length, eqb, Result, Ok, Err}
use Rattle.rules.specs.declared.refusals.Refusal.{Refusal}
use Rattle.octets.specs.Bytes.{pick, ◌and◌, ◌or◌, part, chunks, zeros}
use Rattle.rules.specs.Layout.{Layout}
use Rattle.rules.specs.State.{State}
use Rattle.rules.specs.declared.Step.{Step}
use Rattle.rules.specs.Step.{step_bytes, step_at, is_refusal, done, held, read, finish, fall, fail, sign}
use Rattle.rules.specs.Refusals.{named, acts}
use Rattle.rules.specs.Rules.{step_of}
use Rattle.rules.specs.Pack.{unpack}
use Rattle.rules.specs.Calls.{steps_in, state_after, run_answer, run_image, run_replies}

-- ---- a step p and the outcome or refusal o of its reply

-- it "was not refused"
unfoldable pub not_refused : ℕ → Bool
not_refused o = not (is_refusal o)

-- it "was not refused and either acts on that take (kinds 3 to 10) or signs it with outcome 0"
unfoldable pub touches : Step → ℕ → ℕ → Bool
touches p o t =
    not_refused o
    and ((acts p.kind and eqb p.transactor t)
    or (eqb p.kind sign and named p.message t and eqb o done))

-- it "is a done, a fall held or not, a fail not held, or that signing"
unfoldable pub empties : Step → ℕ → Bool
empties p o = eqb p.kind finish or eqb p.kind fall or (eqb p.kind fail and not (eqb o held)) or eqb p.kind sign

-- ---- the steps of a list b, of which o i is the outcome or refusal of step i

-- of the n steps from i on, the next that touches take t empties its map
unfoldable pub emptied_from : List ℕ → (ℕ → ℕ) → ℕ → ℕ → ℕ → Bool
emptied_from b o t i zero = false
emptied_from b o t i (suc n) = pick (touches (step_at b i) (o i) t) (empties (step_at b i) (o i)) (emptied_from b o t (suc i) n)

-- step i of n is "a read whose map is emptied unused"
unfoldable pub unused : List ℕ → (ℕ → ℕ) → ℕ → ℕ → Bool
unused b o n i = eqb (step_at b i).kind read and emptied_from b o (step_at b i).transactor (suc i) (n - suc i)

-- "The rest stand in their order": step i of n is kept
unfoldable pub kept : List ℕ → (ℕ → ℕ) → ℕ → ℕ → Bool
kept b o n i = not_refused (o i) and not (unused b o n i)

-- ---- the short list

-- of the first n steps, or replies, of l those for which f holds, "in their order"
unfoldable pub chosen : (ℕ → Bool) → ℕ → List ℕ → List ℕ
chosen f n l = chunks n (λ i. pick (f i) (part (step_bytes * i) step_bytes l) [])

-- how many they are
unfoldable pub counted : (ℕ → Bool) → ℕ → ℕ
counted f zero = 0
counted f (suc n) = counted f n + pick (f n) 1 0

-- the outcome or refusal of step i of b, run from the state s
unfoldable pub outcome_at : Layout → State → List ℕ → ℕ → ℕ
outcome_at y s b i = (step_of y (state_after y s b i) (step_at b i)).reply.outcome

-- whether step i of b is kept, when b is run from s
abbrev pub kept_from : Layout → State → List ℕ → ℕ → Bool
kept_from y s b = kept b (outcome_at y s b) (steps_in b)

unfoldable pub short_list : Layout → State → List ℕ → List ℕ
short_list y s b = chosen (kept_from y s b) (steps_in b) b

-- "the number of steps kept"
unfoldable pub kept_count : Layout → State → List ℕ → ℕ
kept_count y s b = counted (kept_from y s b) (steps_in b)

-- ---- the call. "Checks are those of a run, 16 to 19", with the output buffer in the place of the replies: "That buffer is as long as the
-- input, under 18".

abbrev pub thin_refusal : Layout → List ℕ → List ℕ → ℕ → ℕ → List ℕ → ℕ
thin_refusal y img list start end out = run_answer y img list start end out

-- the part that is thinned
abbrev pub part_of : List ℕ → ℕ → ℕ → List ℕ
part_of list start end = part start (end - start) list

-- "bytes past the short list are zero", "a refusal leaves the output buffer untouched"
unfoldable pub thin_out : Layout → List ℕ → List ℕ → ℕ → ℕ → List ℕ → List ℕ
thin_out y img list start end out =
    let b : List ℕ = part_of list start end in
    let short : List ℕ = short_list y (unpack y img) b in
    pick (eqb (thin_refusal y img list start end out) 0) (short ++ zeros (length b - length short)) out

-- "the pass answers with the number of steps kept"; refused: 0
unfoldable pub thin_count : Layout → List ℕ → List ℕ → ℕ → ℕ → List ℕ → ℕ
thin_count y img list start end out =
    pick (eqb (thin_refusal y img list start end out) 0) (kept_count y (unpack y img) (part_of list start end)) 0

-- what is answered of it
abbrev pub count_in : Result ℕ Refusal → ℕ
count_in (Ok n) = n
count_in (Err r) = 0

-- ---- the same rule for theorems, sentence by sentence

-- Of the steps from i on and before n, "the next step .. that was not refused and either acts on that take (kinds 3 to 10) or signs it with
-- outcome 0 is a done, a fall held or not, a fail not held, or that signing".
pub record EmptiedBy (b : List ℕ) (o : ℕ → ℕ) (t i n : ℕ) : Type 0 where
  pub at : ℕ
  pub from : i ≤ at
  pub before : at < n
  pub touching : touches (step_at b at) (o at) t ≡ true
  pub next : (k : ℕ) → i ≤ k → k < at → touches (step_at b k) (o k) t ≡ false
  pub emptying : empties (step_at b at) (o at) ≡ true

-- Step i of n is left out: "every step whose reply is 20 or more"; "A read that was not refused is left out exactly if" its map is so
-- emptied after it.
pub data LeftOut (b : List ℕ) (o : ℕ → ℕ) (n i : ℕ) : Type 0 where
  refused : is_refusal (o i) ≡ true → LeftOut b o n i
  emptied : is_refusal (o i) ≡ false → (step_at b i).kind ≡ read → EmptiedBy b o (step_at b i).transactor (suc i) n → LeftOut b o n i

-- ---- what is claimed of an accepted pass, which gives n steps at the start of the buffer short

-- The list is run with the buffer all for its replies, the short list with the buffer few.
pub record Thinned (y : Layout) (img list : List ℕ) (start end : ℕ) (all few short : List ℕ) (n : ℕ) : Type 0 where
  pub answer : run_answer y img short 0 (step_bytes * n) few ≡ 0
  -- "Run from the same image, the short list gives the same final image,"
  pub image : run_image y img short 0 (step_bytes * n) few ≡ run_image y img list start end all
  -- "and each remaining step its earlier reply."
  pub replies : run_replies y img short 0 (step_bytes * n) few
      ≡ chosen (kept_from y (unpack y img) (part_of list start end)) (steps_in (part_of list start end)) (run_replies y img list start end all)
  -- "A second pass removes no further refused step": none of the short list is refused
  pub accepted : (j : ℕ) → j < n → is_refusal (outcome_at y (unpack y img) (part_of short 0 (step_bytes * n)) j) ≡ false
