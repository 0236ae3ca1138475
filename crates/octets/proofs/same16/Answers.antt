-- The first eight, then the others.
use Rattle.std.proofs.Common.{sym, ◌∙◌}
use Rattle.octets.proofs.Alike.{alike-first, alike-second}
use Rattle.octets.proofs.same16.Goals as goal

pub returns-then-same8 : goal.returns-then-same8
returns-then-same8 c = c.same8-then-same8.ensures ∙ alike-second _ _ _ (sym c.same8.ensures ∙ c.if-same8.true)

pub returns-else-same8 : goal.returns-else-same8
returns-else-same8 c = c.if-same8.false ∙ alike-first _ _ _ (sym c.same8.ensures ∙ c.if-same8.false)
