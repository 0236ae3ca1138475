use Rattle.std.proofs.Common.{rules}
use Rattle.replies.proofs.Replying.{field-used, field-unused}
use Rattle.replies.proofs.field.Goals as goal

pub returns-then-used : goal.returns-then-used
returns-then-used c = field-used _ _ _ _ _ _ c.if-used.true c.word.ensures c.number.ensures

pub returns : goal.returns
returns c = field-unused _ (search rules) _ _ _ c.if-used.false
