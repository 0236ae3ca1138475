use Rattle.std.proofs.Common.{arith, rules}
use Rattle.lines.proofs.Lining.{plus-start, word_more, plus-all}
use Rattle.lines.proofs.Line.word.Goals as goal

pub loop-b-init : goal.loop-b-init
loop-b-init c = plus-start _ (search rules) _

pub loop-b-preserved : goal.loop-b-preserved
loop-b-preserved c = word_more _ _ _ _ _ c.loop-b.invariant c.push.ensures (omega arith)

pub returns : goal.returns
returns c = plus-all (λ x. x) _ _ _ _ c.loop-b.invariant (omega arith)
