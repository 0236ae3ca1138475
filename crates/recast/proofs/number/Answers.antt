-- One byte, or two.
use Rattle.std.proofs.Common.{◌∙◌}
use Rattle.recast.proofs.Turns.{byte-number}
use Rattle.recast.proofs.number.Goals as goal

pub returns-then-this-eq1 : goal.returns-then-this-eq1
returns-then-this-eq1 g c = c.from.ensures ∙ byte-number _ _ _ c.if-this-eq1.true
