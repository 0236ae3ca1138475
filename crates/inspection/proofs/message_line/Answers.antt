-- Nothing where none waits; the first line, or an entry.
use Rattle.inspection.proofs.Inspecting.{message-none, message-first, message-entry}
use Rattle.inspection.proofs.message_line.Goals as goal

pub returns-then-waiting-k : goal.returns-then-waiting-k
returns-then-waiting-k c = message-none _ _ _ _ c.waiting.ensures.0 _ c.if-waiting-k.true

pub returns-then-j-eq0 : goal.returns-then-j-eq0
returns-then-j-eq0 c = message-first _ _ _ _ c.waiting.ensures.0 _ c.if-waiting-k.false c.if-j-eq0.true c.message_head.ensures

pub returns : goal.returns
returns c = message-entry _ _ _ _ c.waiting.ensures.0 _ c.if-waiting-k.false c.if-j-eq0.false _ c.map_at.ensures c.entry.ensures
