-- A step that changed nothing, or one over whose event the walk goes; the step and the reply to it are read where they stand.
use Rattle.std.proofs.Common.{sym, ◌∙◌}
use Rattle.rules.specs.Step.{step_at}
use Rattle.engine_chains.specs.Internal.Walk.{told_in}
use Rattle.engine_chains.specs.Internal.Words.{follower_step}
use Rattle.engine_chains.proofs.Following.{step-unchanged, step-changed}
use Rattle.engine_walk.proofs.over_step.Goals as goal

pub returns-then-unchanged : goal.returns-then-unchanged
unfolding step_at told_in
returns-then-unchanged c = rw (← c.decode-p.ensures, ← c.told-w.ensures) (step-unchanged _ _ _ (sym c.unchanged.ensures ∙ c.if-unchanged.true))

pub returns : goal.returns
unfolding step_at told_in follower_step
returns c =
    rw (← c.decode-p.ensures, ← c.told-w.ensures, step-changed _ _ (sym c.unchanged.ensures ∙ c.if-unchanged.false), ← c.event-e.ensures, ← c.checkpointed-checkpointed.ensures, ← c.rolled_back-rolled.ensures)
    c.over.ensures
