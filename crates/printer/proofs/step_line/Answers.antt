use Rattle.std.proofs.Common.{rules}
use Rattle.printer.proofs.Printer.{step-none, step-says}
use Rattle.printer.proofs.step_line.Goals as goal

pub returns-then-list-i : goal.returns-then-list-i
returns-then-list-i c = step-none _ c.args.list.now _ (search rules)

pub returns : goal.returns
returns c = step-says _ c.args.i _ (search rules) c.line_at.ensures
