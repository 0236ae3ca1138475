-- Document 02, W1: which takes to put in the volume.
use Rattle.std.specs.Prelude.{ℕ, ◌^◌, ◌<◌, true, ◌≡◌, List, leb}
use Rattle.std.proofs.Math.Option.{Option, none, some}
use Rattle.octets.specs.Bytes.{pick}
use Rattle.octets.specs.Numbers.{bound}
use Rattle.rules.specs.Layout.{Layout}
use Rattle.rules.specs.State.{State, transactor_at, own_history}
use Rattle.rules.specs.Step.{Step, sign, done}
use Rattle.rules.specs.Refusals.{group_bits, named}
use Rattle.rules.specs.Rules.{group_ready, step_of}
use Rattle.rules.specs.Pack.{unpack}
use Rattle.rules.specs.Calls.{query_refusal}

-- the step that signs volume v
abbrev pub signing : ℕ → Step
signing v = record { kind = sign; transactor = 0; other = 0; zero = 0; message = v; value = 0 }

-- What the signing of volume v is refused with, if f gives what a step is. A number past the field's 16 bits names a take from 16 on, which no
-- session opens: 21.
unfoldable pub signing_refusal : (Step → ℕ) → ℕ → ℕ
signing_refusal f v = pick (leb (2 ^ group_bits) v) 21 (f (signing v))

-- volume v contains take t and could be signed now: its signing would reply 0
pub record Checkpointable (y : Layout) (s : State) (t v : ℕ) : Type 0 where
  pub bits : v < bound 2
  pub contains : named v t ≡ true
  pub signs : (step_of y s (signing v)).reply.outcome ≡ done

-- volume v is a "set of takes holding this one, none of them with 15 signings", or as many as the session's limits allow, and "meets the
-- signing rule"
pub record Meets (y : Layout) (s : State) (t v : ℕ) : Type 0 where
  pub bits : v < bound 2
  pub contains : named v t ≡ true
  pub room : (u : ℕ) → u < y.transactors → named v u ≡ true → (own_history u (transactor_at s u)).count < s.limits.checkpoints
  pub ready : group_ready y s v ≡ true

-- every take of v is one of w
unfoldable pub Within : ℕ → ℕ → Type 0
Within v w = (u : ℕ) → named v u ≡ true → named w u ≡ true

-- "the smallest volume containing it that could be signed now, or say that none exists". Refused, as offer is: none.
pub data Smallest (y : Layout) (img : List ℕ) (t : ℕ) : Option ℕ → Type 0 where
  refused : (query_refusal y img t ≡ 0 → ⊥) → Smallest y img t none
  nothing : query_refusal y img t ≡ 0 → ((v : ℕ) → Checkpointable y (unpack y img) t v → ⊥) → Smallest y img t none
  smallest : {v : ℕ} → query_refusal y img t ≡ 0 → Checkpointable y (unpack y img) t v → ((w : ℕ) → Checkpointable y (unpack y img) t w → Within v w) → Smallest y img t (some v)
