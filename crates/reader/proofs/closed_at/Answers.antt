use Rattle.reader.proofs.Picks.{lacking, closed-yes, closed-no}
use Rattle.reader.proofs.closed_at.Goals as goal

pub returns-then-byte_at-ne125 : goal.returns-then-byte_at-ne125
returns-then-byte_at-ne125 c = lacking _ _ _ c.args.r.step (closed-no _ _ _ _ c.skip-at.ensures _ c.byte_at.ensures c.if-byte_at-ne125.true)

pub returns : goal.returns
returns c = closed-yes _ _ _ _ c.skip-at.ensures _ c.byte_at.ensures c.if-byte_at-ne125.false
