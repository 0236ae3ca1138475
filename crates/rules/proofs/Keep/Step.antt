-- Every step keeps a well-formed state well-formed, and so does every list of steps; every reply fits.
use Prim.Native.Nat.{ℕ, zero, suc}
use mathlib.Core.Path.{◌≡◌}
use mathlib.Core.List.{List}
use native.Mathlib.Omega.{arith}
use lib.Dec.{eqb}
use borrow.Author.Tests.{eqb-true, eqb-false, eq-eqb, ne_eqb}
use Rattle.octets.specs.Bytes.{Octets}
use Rattle.octets.proofs.Numbers.{bound-pos}
use Rattle.rules.specs.Layout.{Layout, base, narrow, Fitting}
use Rattle.rules.specs.State.{State}
use Rattle.rules.specs.Step.{Step, step_at}
use Rattle.rules.specs.Rules.{seen, refusal, answer, apply, step_of}
use Rattle.rules.specs.Internal.Well.{StepOk, WellFormed}
use Rattle.rules.specs.Calls.{state_after}
use Rattle.rules.proofs.Keep.Run.{step_ok-at}
use Rattle.octets.proofs.Tests.{pick-view}
use Rattle.rules.proofs.Keep.Kinds.{ReplyOk, ResultOk, reply-ok, keeps-apply}
use Rattle.rules.proofs.Keep.Accepted.{refusal-range, accepted}

module _ (y : Layout) (s : State) (p : Step) where
  -- a refused step changes nothing and answers its number
  pub refused-same : (refusal y s p ≡ 0 → ⊥) → step_of y s p ≡ record { reply = answer (refusal y s p) 0 0 0; state = s }
  unfolding step_of
  refused-same n = rw (ne_eqb (refusal y s p) 0 n)

  -- any other is applied
  pub applied-same : refusal y s p ≡ 0 → step_of y s p ≡ apply y s p
  unfolding step_of
  applied-same e = rw (eq-eqb (refusal y s p) 0 e)

module _ {y : Layout} {s : State} {p : Step} (z : Fitting y) (w : WellFormed y s) (q : StepOk p) where
  step_ok : ResultOk y (step_of y s p)
  unfolding step_of refusal
  step_ok = pick-view (ResultOk y) (eqb (refusal y s p) 0) _ _
      (λ e. keeps-apply z w q (accepted y (seen y s) p (eqb-true (refusal y s p) 0 e)))
      (λ e. record { state = w; reply = reply-ok (refusal y s p) 0 0 0 (omega (arith, (refusal-range y (seen y s) p (eqb-false (refusal y s p) 0 e)).high)) (omega arith) (bound-pos 2) (bound-pos 4) })

  pub keeps : WellFormed y (step_of y s p).state
  keeps = step_ok.state

  pub reply-fits : ReplyOk (step_of y s p).reply
  reply-fits = step_ok.reply

module _ {y : Layout} {s : State} (z : Fitting y) (w : WellFormed y s) (b : List ℕ) (o : Octets b) where
  pub keeps-after : (i : ℕ) → WellFormed y (state_after y s b i)
  unfolding state_after
  keeps-after zero = w
  keeps-after (suc i) = keeps z (keeps-after i) (step_ok-at b o i)

  pub replies-fit : (i : ℕ) → ReplyOk (step_of y (state_after y s b i) (step_at b i)).reply
  replies-fit i = reply-fits z (keeps-after i) (step_ok-at b o i)

-- the layout of an image is such
pub fitting-base : Fitting base
fitting-base = omega arith

-- and so is document 01's
pub fitting-narrow : Fitting narrow
fitting-narrow = omega arith
