use Rattle.std.proofs.Common.{rules, tests}
use Rattle.grounds.proofs.Words.{group_where}
use Rattle.grounds.proofs.unfinished.Goals as goal

pub returns : goal.returns
returns c = group_where _ 16 _ (search rules) (λ t h. let m = c.members_where.ensures t h in search (rules, tests))
