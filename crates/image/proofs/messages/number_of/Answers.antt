-- The place is below the number of places, so its bytes lie within the image.
use Rattle.std.proofs.Common.{sym, ◌∙◌, arith}
use Rattle.rules.specs.Layout.{base}
use Rattle.rules.proofs.Pack.Loads.{waiting_few, read_number}
use Rattle.image.proofs.messages.number_of.Goals as goal

pub overflow_mul-k : goal.overflow_mul-k
overflow_mul-k c = omega (arith, waiting_few base c.args.image.now)

pub overflow_add-k : goal.overflow_add-k
overflow_add-k c = omega (arith, waiting_few base c.args.image.now)

pub overflow_add-k-2 : goal.overflow_add-k-2
overflow_add-k-2 c = omega (arith, waiting_few base c.args.image.now)

pub load16-requires : goal.load16-requires
load16-requires c = omega (arith, waiting_few base c.args.image.now)

pub returns : goal.returns
returns c = c.load16.ensures ∙ sym (read_number base _ _ c.requires.1)
