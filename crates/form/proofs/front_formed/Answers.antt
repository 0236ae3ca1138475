-- A zero byte that is set, a limit out of range, too many opened, or how many wait.
use Rattle.std.proofs.Common.{sym, ap, ◌∙◌, not, arith, rules}
use Rattle.form.proofs.FormTest.{front-blank, front-fourth, front-limits, front-opened, front-waiting}
use Rattle.form.proofs.front_formed.Goals as goal

pub returns-then-s-ne0 : goal.returns-then-s-ne0
returns-then-s-ne0 c = front-blank _ c.if-s-ne0.true

pub returns-then-s-ne0-2 : goal.returns-then-s-ne0-2
returns-then-s-ne0-2 c = front-fourth _ (search rules) c.if-s-ne0-2.true

pub returns-then-not-in_range : goal.returns-then-not-in_range
returns-then-not-in_range c = front-limits _ (search rules) (search rules) _ _ _ (search rules) (search rules) (search rules) (ap not (sym c.in_range.ensures ∙ c.if-not-in_range.true))

pub returns-then-most-opened : goal.returns-then-most-opened
returns-then-most-opened c = front-opened _ (search rules) (search rules) _ _ _ (search rules) (search rules) (search rules) (ap not (sym c.in_range.ensures ∙ c.if-not-in_range.false)) (omega arith)

pub returns : goal.returns
returns c = front-waiting _ (search rules) (search rules) _ _ _ (search rules) (search rules) (search rules) (ap not (sym c.in_range.ensures ∙ c.if-not-in_range.false)) (omega arith) _ (search rules)
