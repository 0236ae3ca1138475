-- Nothing for a take that is not opened.
use Rattle.std.proofs.Common.{rules, refl}
use Rattle.lines.proofs.Lining.{written-empty}
use Rattle.inspection.proofs.Inspecting.{transactor-none, transactor-says, not-unused}
use Rattle.inspection.proofs.transactor_head.Goals as goal

pub returns-in-Unused : goal.returns-in-Unused
returns-in-Unused c = transactor-none _ _ _ _ c.in-Unused.ensures refl

pub returns : goal.returns
returns c =
    transactor-says _ _ _ _ _ _ c.status-status.ensures (not-unused c.status-status.result c.in_default.not-Unused) (written-empty _) c.put.ensures c.put_status.ensures (search rules)
