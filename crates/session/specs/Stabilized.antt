-- Document 02, W4: "each such life was frozen at some earlier step": the steps of a session that freeze, beside the session's own book.
use Rattle.std.specs.Prelude.{ℕ, ◌≡◌, List}
use Rattle.marks.specs.Incarnation.{Incarnation}
use Rattle.rules.specs.Layout.{Layout}
use Rattle.rules.specs.State.{State}
use Rattle.rules.specs.declared.Step.{Step}
use Rattle.rules.specs.Step.{freeze}
use Rattle.session.specs.Provenance.{Provenance}
use Rattle.session.specs.Steps.{provenance_refusal}
use Rattle.session.specs.Trace.{Trace}
use Rattle.session.specs.Point.{StepIn}
use Rattle.session.specs.Since.{SinceBegin}

-- step p, beside the book b, is not refused and freezes take u in its life a, also where it was frozen already
pub record Stabilizes (y : Layout) (b : Provenance) (p : Step) (u : ℕ) (a : Incarnation) : Type 0 where
  pub accepted : provenance_refusal y b p ≡ 0
  pub kind : p.kind ≡ freeze
  pub transactor : u ≡ p.transactor
  pub incarnation : a ≡ (b.holders p.transactor).history.incarnation

-- A step of the session τ since its last accepted begin freezes take u in its life a, going by the book that the session has just before it.
pub record StabilizedIn (y : Layout) (img : List ℕ) (τ : Trace y img) (u : ℕ) (a : Incarnation) : Type 1 where
  pub state : State
  pub after : State
  pub provenance : Provenance
  pub step : Step
  pub reply : List ℕ
  pub taken : StepIn y img τ state provenance step reply after
  pub since : SinceBegin taken
  pub stabilizes : Stabilizes y provenance step u a
