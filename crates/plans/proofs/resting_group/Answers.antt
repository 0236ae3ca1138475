use Rattle.std.proofs.Common.{rules, tests}
use Rattle.plans.specs.Internal.Written.{row_names}
use Rattle.plans.proofs.resting_group.Goals as goal

pub returns : goal.returns
unfolding row_names
returns c = record { bits = search rules; exactly = λ t h. let m = c.members_where.ensures t h in search (rules, tests) }
