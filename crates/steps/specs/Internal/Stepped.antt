-- A step on an image: what the kinds ask and give.
use Rattle.std.specs.Prelude.{ℕ, ◌≤◌, false, ◌≡◌, List, Result, Ok, Err}
use Rattle.rules.specs.Layout.{base}
use Rattle.rules.specs.declared.Step.{Step}
use Rattle.rules.specs.declared.Reply.{Reply}
use Rattle.rules.specs.Refusals.{malformed}
use Rattle.rules.specs.declared.refusals.Refusal.{Refusal}
use Rattle.rules.specs.Numbers.{refusal_number}
use Rattle.rules.specs.Rules.{answer, step_of}
use Rattle.rules.specs.Pack.{waiting_in, pack, unpack}
use Rattle.rules.specs.Internal.Well.{StepOk}
use Rattle.rules.specs.Internal.Good.{Good}

-- a step on an image: the reply, and the image after it
pub record Stepped (img : List ℕ) (p : Step) (r : Reply) (after : List ℕ) : Type 0 where
  pub reply : r ≡ (step_of base (unpack base img) p).reply
  pub image : after ≡ pack base (step_of base (unpack base img) p).state

-- a well-formed step of kind k on the image of a well-formed state
pub record Asked (k : ℕ) (img : List ℕ) (p : Step) : Type 0 where
  pub good : Good img
  pub step : StepOk p
  pub formed : malformed p ≡ false
  pub kind : p.kind ≡ k

-- so many parcels wait in the image
pub record Counted (n : ℕ) (img : List ℕ) : Type 0 where
  pub is : n ≡ waiting_in base img
  pub few : n ≤ base.messages

-- the reply to a step: a refusal is told by its number alone
abbrev pub reply_of : Result Reply Refusal → Reply
reply_of (Ok r) = r
reply_of (Err e) = answer (refusal_number e) 0 0 0
