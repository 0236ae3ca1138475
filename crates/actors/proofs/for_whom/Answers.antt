-- The tests in their order, and then by kind.
use Rattle.std.proofs.Common.{rules}
use Rattle.actors.proofs.Acting.{actor-16, actor-17, actor-19, actor-0}
use Rattle.actors.proofs.for_whom.Goals as goal

pub returns-then-image-ne-IMAGE : goal.returns-then-image-ne-IMAGE
returns-then-image-ne-IMAGE c = actor-16 _ _ (search rules)

pub returns-then-step-ne-STEP : goal.returns-then-step-ne-STEP
returns-then-step-ne-STEP c = actor-17 _ _ (search rules) (search rules)

pub returns-then-not-formed : goal.returns-then-not-formed
returns-then-not-formed c = actor-19 _ _ (search rules) (search rules) (search rules)

pub returns : goal.returns
returns c = actor-0 _ _ (search rules) (search rules) (search rules) _ c.decode.ensures _ c.actor_of.ensures
