-- The digits of a tenth, and the last one behind them.
use Rattle.std.proofs.Common.{arith, ap, sym, ◌∙◌}
use Rattle.lines.specs.Lines.{plus}
use Rattle.lines.proofs.Putting.{number-low, number-high}
use Rattle.lines.proofs.Lining.{plus-two}
use Rattle.lines.proofs.Line.+push_number.Goals as goal

pub returns-then-n-lt10 : goal.returns-then-n-lt10
returns-then-n-lt10 t c = c.push.ensures ∙ ap (plus _) (sym (number-low c.args.n c.if-n-lt10.true))

pub returns : goal.returns
returns t c =
    plus-two _ _ _ _ _ c.push_number.ensures c.push-2.ensures ∙ ap (plus _) (sym (number-high c.args.n c.if-n-lt10.false (omega arith)))
