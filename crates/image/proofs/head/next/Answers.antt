-- The two bytes after it.
use Rattle.std.proofs.Common.{sym, ◌∙◌}
use Rattle.rules.proofs.Pack.Loads.{read_next}
use Rattle.image.proofs.head.next.Goals as goal

pub returns : goal.returns
returns c = c.load16.ensures ∙ sym (read_next _ _)
