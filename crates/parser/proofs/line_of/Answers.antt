use Rattle.std.proofs.Common.{rules}
use Rattle.parser.proofs.Loops.{said-inside, line-said}
use Rattle.parser.proofs.line_of.Goals as goal

pub slice_bounds-bare_line-end : goal.slice_bounds-bare_line-end
slice_bounds-bare_line-end c = let h = said-inside _ _ c.find-end.ensures in search rules

pub returns : goal.returns
returns c = line-said _ _ c.find-end.ensures _ _ c.bare_line.ensures
