-- Each field is written where it stands, so that nothing of what stood there is left.
use Prim.Native.Nat.{◌*◌}
use mathlib.Core.Path.{refl}
use native.Mathlib.Omega.{arith}
use lib.ListN.{length-set}
use Rattle.rules.specs.Layout.{base}
use Rattle.transactor.proofs.Bytes.{stripped}
use Rattle.transactor.proofs.strip.Goals as goal

pub store32-requires : goal.store32-requires
store32-requires c = simp length-set (omega arith)

pub store32-requires-2 : goal.store32-requires-2
store32-requires-2 c = omega (arith, length-set c.args.part.now 0 (64 * c.number.result))

pub store_empty-requires : goal.store_empty-requires
store_empty-requires c = omega (arith, length-set c.args.part.now 0 (64 * c.number.result))

pub store_empty-requires-2 : goal.store_empty-requires-2
store_empty-requires-2 c = omega (arith, length-set c.args.part.now 0 (64 * c.number.result))

pub store_empty-requires-3 : goal.store_empty-requires-3
store_empty-requires-3 c = omega (arith, length-set c.args.part.now 0 (64 * c.number.result))

pub shape_of-part : goal.shape_of-part
shape_of-part c = omega (arith, length-set c.args.part.now 0 (64 * c.number.result))

pub returns : goal.returns
returns c =
    rw (← c.number.ensures.number)
    (stripped base c.args.part.now c.requires _ (omega arith) _ refl _ _ _ _ _ c.store32.ensures c.store32-2.ensures c.store_empty.ensures c.store_empty-2.ensures c.store_empty-3.ensures)
