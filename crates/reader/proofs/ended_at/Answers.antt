use Rattle.reader.proofs.Picks.{lacking, ended-more, ended-none}
use Rattle.reader.proofs.ended_at.Goals as goal

pub returns-then-at-s : goal.returns-then-at-s
returns-then-at-s c = lacking _ _ _ c.args.r.step (ended-more _ _ _ _ c.skip-at.ensures c.if-at-s.true)

pub returns : goal.returns
returns c = ended-none _ _ _ _ c.skip-at.ensures c.if-at-s.false
