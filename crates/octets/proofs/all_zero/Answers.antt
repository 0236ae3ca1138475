-- A turn ors one more byte in.
use Rattle.std.proofs.Common.{ℕ, arith, length-take, length-drop}
use Rattle.octets.proofs.Zero.{zero-none, zero_next, zero-end}
use Rattle.octets.proofs.all_zero.Goals as goal

pub loop-x-init : goal.loop-x-init
loop-x-init c = zero-none _ _

pub loop-x-preserved : goal.loop-x-preserved
loop-x-preserved c = zero_next _ _ _ _ _ c.loop-x.invariant c.loop-x-test.true

pub returns : goal.returns
returns c = zero-end _ _ _ _ _ c.loop-x.invariant (omega (arith, length-take {A = ℕ}, length-drop {A = ℕ}))
