-- One byte more, hidden or not.
use Rattle.std.proofs.Common.{◌+◌, length, ap, arith}
use Rattle.octets.proofs.Zero.{zero-end}
use Rattle.marks.specs.Packed.{width, places, rest_size}
use Rattle.marks.proofs.Masked.{length-ramp, masked-none, masked-more}
use Rattle.packed_histories.proofs.rest_zero.Goals as goal

pub loop-i-init : goal.loop-i-init
loop-i-init c = masked-none _ _ _

pub bounds-ramp-from : goal.bounds-ramp-from
bounds-ramp-from c = omega (arith, ap length c.requires.2, length-ramp (rest_size width places))

pub loop-i-preserved : goal.loop-i-preserved
loop-i-preserved c =
    masked-more (rest_size width places) _ c.args.at c.loop-i.i c.loop-i.any _ _ c.requires.2 (omega arith) (omega arith) (omega arith) (omega (arith, c.type_inv.s (c.args.at + c.loop-i.i)))
    c.loop-i.invariant

pub returns : goal.returns
returns c = zero-end _ _ _ _ _ c.loop-i.invariant (omega arith)
