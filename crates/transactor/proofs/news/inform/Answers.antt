-- The state map first, then the creation map; the message stands behind the takes.
use native.Mathlib.Omega.{arith}
use Rattle.rules.specs.Layout.{base}
use Rattle.rules.proofs.Pack.Loads.{waiting_few}
use Rattle.transactor.proofs.Hearing.{state-asked, creation-asked, heard}
use Rattle.transactor.proofs.news.inform.Goals as goal

pub map_at-from-requires : goal.map_at-from-requires
map_at-from-requires c = omega (arith, waiting_few base c.args.image.now)

pub inform-requires : goal.inform-requires
inform-requires c = rw c.map_at-from.ensures (state-asked base _ _ c.requires.1 _ c.requires.2 c.requires.0.back)

pub inform-requires-2 : goal.inform-requires-2
inform-requires-2 c =
    rw c.map_at-from.ensures (creation-asked base _ _ c.requires.1 _ c.requires.2 c.requires.0.back _ (rw c.map_at-from.ensures at c.inform.ensures))

pub returns : goal.returns
returns c =
    heard base _ _ c.requires.1 _ c.requires.2 c.requires.0.back _ (rw c.map_at-from.ensures at c.inform.ensures) _ (rw c.map_at-from.ensures at c.inform-2.ensures)
