-- The first two bits of the transactor.
use Rattle.std.proofs.Common.{sym, ◌∙◌}
use Rattle.rules.proofs.Pack.Loads.{read-status}
use Rattle.image.proofs.head.status.Goals as goal

pub returns : goal.returns
returns c = c.of.ensures ∙ sym (read-status _ _ _ c.requires.1)
