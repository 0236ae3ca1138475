-- The first place that has the number.
use Rattle.std.proofs.Common.{rules, sym, ◌∙◌, arith}
use borrow.Author.Tests.{tests}
use Rattle.rules.specs.Layout.{base}
use Rattle.rules.proofs.Places.{passed_none, passed-more, passed-found, passed-all}
use Rattle.rules.proofs.Pack.Messages.{place_of-among, numbered-so, numbered-not}
use Rattle.image.proofs.messages.place_numbered.Goals as goal

pub loop-k-init : goal.loop-k-init
loop-k-init c = passed_none _ _

pub returns-then-number_of-number : goal.returns-then-number_of-number
returns-then-number_of-number c =
    let r = passed-found c.loop-k.invariant c.loop-k-test.true (numbered-so _ _ _ (search (rules, tests))) in
    (r.0 ∙ place_of-among base _ _ _ c.requires.1, c.loop-k-test.true)

pub loop-k-preserved : goal.loop-k-preserved
loop-k-preserved c = passed-more c.loop-k.invariant c.loop-k-test.true (numbered-not _ _ _ (search (rules, tests)))

pub returns : goal.returns
returns c =
    let r = passed-all c.loop-k.invariant (omega arith) in
    sym (place_of-among base _ _ _ c.requires.1) ∙ sym r.0 ∙ omega (arith, c.loop-k.invariant.within)
