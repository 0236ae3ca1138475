-- The bit of t, set where it is not.
use Rattle.std.proofs.Common.{rules}
use Rattle.scan.proofs.Wording.{member-on, member-off, member-fits}
use Rattle.scan.proofs.words.with_member.Goals as goal

pub returns-then-g-t-eq1 : goal.returns-then-g-t-eq1
returns-then-g-t-eq1 c = member-on _ _ c.if-g-t-eq1.true

pub overflow_add-result : goal.overflow_add-result
overflow_add-result c = record { fits = member-fits _ _ c.if-g-t-eq1.false (search rules) (search rules) }

pub returns : goal.returns
returns c = member-off _ _ c.if-g-t-eq1.false (search rules)
