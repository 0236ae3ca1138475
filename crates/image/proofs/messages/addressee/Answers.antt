-- The place is below the number of places, so its bytes lie within the image.
use Rattle.std.proofs.Common.{sym, arith}
use Rattle.rules.specs.Layout.{base}
use Rattle.rules.proofs.Pack.Loads.{waiting_few, read-addressee}
use Rattle.image.proofs.messages.addressee.Goals as goal

pub overflow_mul-head : goal.overflow_mul-head
overflow_mul-head c = omega (arith, waiting_few base c.args.image.now)

pub overflow_add-head : goal.overflow_add-head
overflow_add-head c = omega (arith, waiting_few base c.args.image.now)

pub bounds-image-k : goal.bounds-image-k
bounds-image-k c = omega (arith, waiting_few base c.args.image.now)

pub returns : goal.returns
returns c = (sym (read-addressee base _ _ c.requires.1), omega arith)
