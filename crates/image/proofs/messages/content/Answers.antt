-- The place is below the number of places, so its bytes lie within the image.
use Rattle.std.proofs.Common.{sym, ◌∙◌, arith}
use Rattle.rules.specs.Layout.{base}
use Rattle.rules.proofs.Pack.Loads.{waiting_few, read-text}
use Rattle.image.proofs.messages.content.Goals as goal

pub overflow_mul-k : goal.overflow_mul-k
overflow_mul-k c = omega (arith, waiting_few base c.args.image.now)

pub overflow_add-k : goal.overflow_add-k
overflow_add-k c = omega (arith, waiting_few base c.args.image.now)

pub overflow_add-k-2 : goal.overflow_add-k-2
overflow_add-k-2 c = omega (arith, waiting_few base c.args.image.now)

pub load32-requires : goal.load32-requires
load32-requires c = omega (arith, waiting_few base c.args.image.now)

pub returns : goal.returns
returns c = c.load32.ensures ∙ sym (read-text base _ _ c.requires.1)
