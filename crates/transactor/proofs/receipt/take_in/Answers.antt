-- The status byte and the map are those of the take that took the message in; the message stands behind the takes.
use native.Mathlib.Omega.{arith}
use lib.ListN.{length-set}
use Rattle.rules.specs.Layout.{base}
use Rattle.rules.proofs.Pack.Loads.{waiting_few}
use Rattle.transactor.proofs.Accepting.{taken-in}
use Rattle.transactor.proofs.receipt.take_in.Goals as goal

pub map_at-from-requires : goal.map_at-from-requires
map_at-from-requires c = omega (arith, waiting_few base c.args.image.now)

pub lower-requires : goal.lower-requires
lower-requires c = simp length-set (omega (arith, waiting_few base c.args.image.now))

pub shape_of-image : goal.shape_of-image
shape_of-image c = simp length-set at c.lower.auto.image

pub returns : goal.returns
returns c =
    taken-in base _ _ c.requires.1 _ c.requires.2 c.requires.0.back _ _ (rw c.map_at-from.ensures) c.lower.ensures
