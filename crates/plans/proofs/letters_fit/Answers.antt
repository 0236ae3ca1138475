-- No letter is needed; or no place is free; or there is a number for each, or not.
use Rattle.std.proofs.Common.{arith}
use Rattle.rules.specs.Layout.{base}
use Rattle.rules.proofs.Pack.Loads.{unpack-waiting}
use Rattle.plans.proofs.Writing.{fit_none, fit-full, fit-numbers}
use Rattle.plans.proofs.letters_fit.Goals as goal

pub returns-then-n-eq0 : goal.returns-then-n-eq0
returns-then-n-eq0 c = fit_none _ _ _ c.count_letters-n.ensures.0 c.if-n-eq0.true

pub returns-then-most-waiting : goal.returns-then-most-waiting
returns-then-most-waiting c =
    fit-full _ _ _ c.count_letters-n.ensures.0 c.if-n-eq0.false (omega (arith, c.messages-most.ensures, c.waiting.ensures.0, unpack-waiting base c.args.image.now.bytes.now, c.if-most-waiting.true))

pub returns : goal.returns
returns c =
    fit-numbers _ _ _ c.count_letters-n.ensures.0 c.if-n-eq0.false (omega (arith, c.messages-most.ensures, c.waiting.ensures.0, unpack-waiting base c.args.image.now.bytes.now, c.if-most-waiting.false)) _ c.next-next.ensures
