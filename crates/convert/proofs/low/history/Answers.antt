-- Not there, or one byte more.
use Rattle.std.proofs.Common.{refl, arith}
use Rattle.octets.specs.Bytes.{every}
use Rattle.octets.proofs.Put.{octets-of}
use Rattle.convert.proofs.Within.{first_more, absent-within, present-within}
use Rattle.convert.proofs.low.history.Goals as goal

pub returns-then-s-at-lt128 : goal.returns-then-s-at-lt128
returns-then-s-at-lt128 c = absent-within _ _ c.if-s-at-lt128.true

pub loop-i-init : goal.loop-i-init
unfolding every
loop-i-init c = refl

pub loop-i-preserved : goal.loop-i-preserved
loop-i-preserved c = first_more _ _ _ c.loop-i.any c.loop-i-test.true c.loop-i.invariant

pub returns : goal.returns
returns c = present-within _ _ (octets-of _ c.type_inv.s) c.if-s-at-lt128.false _ c.loop-i.any c.loop-i.invariant (omega arith)
