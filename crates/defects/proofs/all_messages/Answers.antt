-- Each place is told by its test.
use Rattle.std.proofs.Common.{rules}
use borrow.Author.Tests.{tests}
use Rattle.rules.specs.Layout.{base}
use Rattle.defects.specs.Defect.{message_defect}
use Rattle.defects.proofs.all_messages.Goals as goal

pub returns : goal.returns
returns c = c.first_of.ensures (message_defect base c.args.front.now.bytes.now) (λ k d h p. search (rules, tests))
