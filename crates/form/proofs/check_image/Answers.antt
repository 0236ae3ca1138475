-- The length, and then the form.
use Rattle.std.proofs.Common.{sym, ap, ◌∙◌, not}
use Rattle.rules.specs.Layout.{base}
use Rattle.form.proofs.FormTest.{image-16, image-19, image-0}
use Rattle.form.proofs.check_image.Goals as goal

pub returns-then-s-ne-IMAGE-clause-refused : goal.returns-then-s-ne-IMAGE-clause-refused
returns-then-s-ne-IMAGE-clause-refused c = image-16 base _ c.if-s-ne-IMAGE.true

pub returns-then-not-formed-clause-refused : goal.returns-then-not-formed-clause-refused
returns-then-not-formed-clause-refused c = image-19 base _ c.if-s-ne-IMAGE.false (ap not (sym c.formed.ensures ∙ c.if-not-formed.true))

pub returns-clause-refused : goal.returns-clause-refused
returns-clause-refused c = image-0 base _ c.if-s-ne-IMAGE.false (ap not (sym c.formed.ensures ∙ c.if-not-formed.false))
