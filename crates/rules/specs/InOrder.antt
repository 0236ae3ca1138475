-- Document 02, W2: "callers may count on receiving in sending order by repeated offers, if nothing else is received or lost between
-- them". Every parcel made takes the next number, so sending order is the order of the numbers.
use Rattle.std.specs.Prelude.{ℕ, ◌-◌, ◌<◌, ◌≡◌, List, [], ◌∷◌}
use Rattle.std.proofs.Math.Option.{some}
use Rattle.octets.specs.Bytes.{part, Octets}
use Rattle.rules.specs.Layout.{Layout}
use Rattle.rules.specs.State.{State}
use Rattle.rules.specs.Step.{receive, lose, step_at}
use Rattle.rules.specs.Rules.{refusal}
use Rattle.rules.specs.Pack.{unpack}
use Rattle.rules.specs.Calls.{state_after, steps_in, Offers, run_answer, run_image}

-- By step i of b nothing is received or lost: it is refused, or of another kind.
abbrev pub Spares : Layout → State → List ℕ → ℕ → Type 0
Spares y s b i = refusal y (state_after y s b i) (step_at b i) ≡ 0 → ((step_at b i).kind ≡ receive → ⊥) × ((step_at b i).kind ≡ lose → ⊥)

-- Of the first k steps of b one receives parcel n, and by the others nothing is received or lost.
pub record Receives (y : Layout) (s : State) (b : List ℕ) (k n : ℕ) : Type 0 where
  pub step : ℕ
  pub within : step < k
  pub kind : (step_at b step).kind ≡ receive
  pub message : (step_at b step).message ≡ n
  pub accepted : refusal y (state_after y s b step) (step_at b step) ≡ 0
  pub spares : (i : ℕ) → i < k → (i ≡ step → ⊥) → Spares y s b i

-- ---- calls

-- Runs, refused or not, by which nothing is received or lost, from the image img to the one after them.
pub data Sparing (y : Layout) (img : List ℕ) : List ℕ → Type 0 where
  none : Sparing y img img
  one_more : {now : List ℕ} → Sparing y img now → (list : List ℕ) (start end : ℕ) (replies : List ℕ) → Octets list
      → (run_answer y now list start end replies ≡ 0 → (i : ℕ) → i < steps_in (part start (end - start) list) → Spares y (unpack y now) (part start (end - start) list) i)
      → Sparing y img (run_image y now list start end replies)

-- A run that receives parcel n, and by which nothing else is received or lost.
pub data Received (y : Layout) (img : List ℕ) (n : ℕ) : List ℕ → Type 0 where
  run : (list : List ℕ) (start end : ℕ) (replies : List ℕ) → Octets list → run_answer y img list start end replies ≡ 0
      → Receives y (unpack y img) (part start (end - start) list) (steps_in (part start (end - start) list)) n
      → Received y img n (run_image y img list start end replies)

-- Repeated offers to take t, from the image img on: each round offers a parcel and then receives it, and nothing else is received or
-- lost, neither before the offer nor between it and the receipt. The numbers received, newest first, and the image after.
pub data Rounds (y : Layout) (t : ℕ) (img : List ℕ) : List ℕ → List ℕ → Type 0 where
  no-round : Rounds y t img [] img
  round : {n : ℕ} {ns now asked held after : List ℕ} → Rounds y t img ns now
      → Sparing y now asked → Offers y asked t (some n) → Sparing y asked held → Received y held n after
      → Rounds y t img (n ∷ ns) after

-- newest first, each number is above the one received before it
pub data Rising : List ℕ → Type 0 where
  empty : Rising []
  single : {n : ℕ} → Rising (n ∷ [])
  above : {n n' : ℕ} {ns : List ℕ} → n < n' → Rising (n ∷ ns) → Rising (n' ∷ n ∷ ns)
