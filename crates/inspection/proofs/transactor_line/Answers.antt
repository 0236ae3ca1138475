-- The first line, or an entry.
use Rattle.inspection.proofs.Inspecting.{transactor-first, transactor-other}
use Rattle.inspection.proofs.transactor_line.Goals as goal

pub returns-then-j-eq0 : goal.returns-then-j-eq0
returns-then-j-eq0 c = transactor-first _ _ _ _ c.if-j-eq0.true c.transactor_head.ensures

pub returns : goal.returns
returns c = transactor-other _ _ _ _ c.if-j-eq0.false c.transactor_map.ensures
