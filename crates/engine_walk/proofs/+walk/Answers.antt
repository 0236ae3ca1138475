use Rattle.std.proofs.Common.{◌∙◌}
use Rattle.engine_chains.proofs.Following.{follow-none, follow_one}
use Rattle.engine_walk.proofs.+walk.Goals as goal

pub returns-then-i-eq0 : goal.returns-then-i-eq0
returns-then-i-eq0 t c = follow-none _ _ _ _ c.if-i-eq0.true

pub returns : goal.returns
returns t c =
    c.walk.ensures ∙ follow_one _ _ c.args.i _ _ _ _ _ _ c.if-i-eq0.false c.walker.ensures c.over_step-x.ensures c.words.ensures
