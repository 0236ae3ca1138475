-- By the number of the map.
use Rattle.std.proofs.Common.{rules, arith}
use Rattle.inspection.proofs.Inspecting.{map-state, map-creation, map-behaviour}
use Rattle.inspection.proofs.transactor_map.Goals as goal

pub returns-in-0 : goal.returns-in-0
returns-in-0 c = map-state _ c.args.t _ _ _ (search rules) c.in-0.is c.entry.ensures

pub returns-in-1 : goal.returns-in-1
returns-in-1 c = map-creation _ c.args.t _ _ _ (search rules) (λ q. absurd (omega arith)) c.in-1.is c.entry-in-1.ensures

pub returns-in_default : goal.returns-in_default
returns-in_default c = map-behaviour _ c.args.t _ _ _ (search rules) (λ q. absurd (omega arith)) (λ q. absurd (omega arith)) c.entry-in_default.ensures
