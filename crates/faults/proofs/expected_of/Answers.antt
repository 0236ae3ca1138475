use Rattle.faults.proofs.Sayings.{case-is, case-none}
use Rattle.faults.proofs.expected_of.Goals as goal

pub returns-in-Ok : goal.returns-in-Ok
returns-in-Ok c = case-is _ c.in-Ok.e c.in-Ok.ensures

pub returns-in-Err : goal.returns-in-Err
returns-in-Err c = case-none _ c.in-Err.ensures.1
