-- The line of the reply.
use Rattle.notation_c.proofs.Giving.{gives}
use Rattle.notation_c.proofs.notation_reply.Goals as goal

pub returns : goal.returns
returns c = gives _ _ _ _ _ c.reply_line.ensures (c.give.ensures.answer, c.give.ensures.left)
