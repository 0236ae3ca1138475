-- No entry, no news; else both maps.
use mathlib.Core.Path.{sym, ◌∙◌}
use native.Mathlib.Omega.{arith}
use Rattle.rules.specs.Layout.{base}
use Rattle.rules.proofs.Pack.Loads.{waiting_few}
use Rattle.transactor.proofs.Hearing.{unheard}
use Rattle.transactor.proofs.news.hear.Goals as goal

pub map_at-from-requires : goal.map_at-from-requires
map_at-from-requires c = omega (arith, waiting_few base c.args.image.now)

pub all_zero-requires : goal.all_zero-requires
all_zero-requires c = omega (arith, waiting_few base c.args.image.now)

pub returns-then-all_zero : goal.returns-then-all_zero
returns-then-all_zero c =
    unheard base _ _ c.requires.1 _ c.requires.2 c.requires.0.back (rw c.map_at-from.ensures at (sym c.all_zero.ensures ∙ c.if-all_zero.true))
