-- From place to place, to the first byte that ends the run.
use Rattle.std.proofs.Common.{rules, tests, arith, refl, sym, ◌∙◌}
use Rattle.notation.specs.Reading.{blank}
use Rattle.scan.proofs.Walking.{run-on, run-off, run-end, next-is}
use Rattle.scan.proofs.skip.Goals as goal

pub loop-at-init : goal.loop-at-init
loop-at-init c = (refl, omega arith)

pub returns-then-not-is_blank : goal.returns-then-not-is_blank
returns-then-not-is_blank c = sym (next-is _ _ ∙ c.loop-at.invariant.0 ∙ run-off blank _ _ c.loop-at-test.true (search (rules, tests)))

pub loop-at-preserved : goal.loop-at-preserved
loop-at-preserved c = (c.loop-at.invariant.0 ∙ run-on blank _ _ c.loop-at-test.true (search (rules, tests)), omega (arith, c.loop-at-test.true))

pub returns : goal.returns
returns c = sym (next-is _ _ ∙ c.loop-at.invariant.0 ∙ run-end blank _ _ (omega arith) ∙ omega (arith, c.max.ensures, c.loop-at.invariant.1))
