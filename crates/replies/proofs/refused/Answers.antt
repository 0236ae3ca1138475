use Rattle.replies.proofs.Replying.{refused-said}
use Rattle.replies.proofs.refused.Goals as goal

pub returns : goal.returns
returns c = refused-said _ _ _ _ _ _ _ c.word.ensures c.number.ensures c.word-number.ensures c.sentence.ensures
