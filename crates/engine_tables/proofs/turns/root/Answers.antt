-- All opened, or one more.
use Rattle.std.proofs.Common.{rules, refl}
use Rattle.engine_tables.proofs.Outcomes.{root-full, root-done}
use Rattle.engine_tables.proofs.Told.{opens-told}
use Rattle.engine_tables.proofs.turns.root.Goals as goal

pub returns-then-register : goal.returns-then-register
returns-then-register c = (root-full c.requires (search rules) _ refl, tt)

pub returns : goal.returns
returns c = (root-done c.requires (search rules) _ c.opening.ensures, opens-told _ c.args.x _ c.opening.ensures)
