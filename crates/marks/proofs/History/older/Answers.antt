-- The counts differ, or the numbers, or neither.
use Rattle.std.proofs.Common.{◌∙◌}
use Rattle.marks.proofs.Histories.{older-tuple}
use Rattle.marks.proofs.History.older.Goals as goal

pub returns : goal.returns
returns c = c.lt.ensures ∙ older-tuple c.args.self c.args.other
