use Rattle.std.proofs.Common.{arith, rules}
use Rattle.rules.specs.Refusals.{group_bits}
use Rattle.rules.proofs.Bits.{shifted}
use Rattle.rules.proofs.Groups.Closure.{growing-first, growing-more, growing-greater, growing-end}
use Rattle.needs.proofs.closure.closure.Goals as goal

pub loop-u-init : goal.loop-u-init
loop-u-init c = growing-first _ _ _ (shifted c.args.t group_bits (search rules))

pub loop-u-smaller : goal.loop-u-smaller
loop-u-smaller c = let more = growing-greater c.loop-u.group _ (c.in-Some.ensures).lacks in omega (arith, more)

pub loop-u-preserved : goal.loop-u-preserved
loop-u-preserved c = let l = c.in-Some.ensures in growing-more c.loop-u.invariant _ l.below l.member

pub returns : goal.returns
returns c = growing-end c.loop-u.invariant c.in_default.ensures
