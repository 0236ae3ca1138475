-- The first byte.
use Rattle.std.proofs.Common.{sym}
use Rattle.rules.proofs.Pack.Loads.{read_opened}
use Rattle.image.proofs.head.opened.Goals as goal

pub returns : goal.returns
returns c = sym (read_opened _ _)
