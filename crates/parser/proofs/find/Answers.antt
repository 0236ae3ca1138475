-- From place to place, to the first byte b.
use Rattle.std.proofs.Common.{rules, tests, arith, refl, sym, ◌∙◌}
use Rattle.scan.proofs.Walking.{run-on, run-off, run-end}
use Rattle.parser.specs.Internal.Parsing.{other_than}
use Rattle.parser.proofs.Loops.{other-so, other-not}
use Rattle.parser.proofs.find.Goals as goal

pub loop-at-init : goal.loop-at-init
loop-at-init c = refl

pub returns-then-s-at : goal.returns-then-s-at
returns-then-s-at c = sym (c.loop-at.invariant ∙ run-off (other_than c.args.b) _ _ c.loop-at-test.true (other-not _ _ (search (rules, tests))))

pub loop-at-preserved : goal.loop-at-preserved
loop-at-preserved c = c.loop-at.invariant ∙ run-on (other_than c.args.b) _ _ c.loop-at-test.true (other-so _ _ (search (rules, tests)))

pub returns : goal.returns
returns c = sym (c.loop-at.invariant ∙ run-end (other_than c.args.b) _ _ (omega arith) ∙ omega arith)
