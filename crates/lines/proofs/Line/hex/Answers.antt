use Rattle.std.proofs.Common.{arith, rules}
use Rattle.notation.specs.Notation.{hex}
use Rattle.lines.proofs.Lining.{hex-start, hex-more, plus-all}
use Rattle.lines.proofs.Line.hex.Goals as goal

pub loop-x-init : goal.loop-x-init
loop-x-init c = hex-start _ (search rules) _

pub loop-x-preserved : goal.loop-x-preserved
loop-x-preserved c = hex-more _ _ _ _ _ _ _ _ c.loop-x.invariant c.hex_digit.ensures c.push.ensures c.hex_digit-in-loop-x.ensures c.push-in-loop-x.ensures (omega arith)

pub returns : goal.returns
returns c = plus-all hex _ _ _ _ c.loop-x.invariant (omega arith)
