-- The maps of the bytes, joined.
use mathlib.Core.Path.{◌∙◌}
use Rattle.rules.specs.Rules.{carried}
use Rattle.rules.specs.Pack.{unpack_transactor}
use Rattle.transactor.proofs.carry.Goals as goal

pub returns : goal.returns
unfolding carried unpack_transactor
returns c = c.join_entry.ensures ∙ rw (c.joined.ensures, c.own-h.ensures)
