-- A turn puts one byte more.
use Rattle.std.proofs.Common.{arith, rules, refl}
use Rattle.octets.proofs.Move.{lower-none, lower-more, lower-all}
use Rattle.octets.proofs.lower.Goals as goal

pub loop-i-init : goal.loop-i-init
loop-i-init c = (lower-none _ _ _, refl)

pub loop-i-preserved : goal.loop-i-preserved
loop-i-preserved c = (lower-more _ _ _ _ _ c.loop-i.invariant.0 (omega arith), search rules)

pub returns : goal.returns
returns c = lower-all _ _ _ _ _ _ c.loop-i.invariant.0 (omega arith)
