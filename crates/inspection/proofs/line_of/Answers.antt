-- By its number.
use Rattle.inspection.proofs.Inspecting.{line-limits, line-counters, line-transactor, line-message}
use Rattle.inspection.proofs.line_of.Goals as goal

pub returns-then-n-eq0 : goal.returns-then-n-eq0
returns-then-n-eq0 c = line-limits _ _ _ c.if-n-eq0.true c.session_limits.ensures

pub returns-then-n-eq1 : goal.returns-then-n-eq1
returns-then-n-eq1 c = line-counters _ _ _ c.if-n-eq0.false c.if-n-eq1.true c.counters.ensures

pub returns-then-n-lt-FIRST_MESSAGE_LINE : goal.returns-then-n-lt-FIRST_MESSAGE_LINE
returns-then-n-lt-FIRST_MESSAGE_LINE c = line-transactor _ _ _ c.if-n-eq0.false c.if-n-eq1.false c.if-n-lt-FIRST_MESSAGE_LINE.true c.transactor_line.ensures

pub returns : goal.returns
returns c = line-message _ _ _ c.if-n-eq0.false c.if-n-eq1.false c.if-n-lt-FIRST_MESSAGE_LINE.false c.message_line.ensures
