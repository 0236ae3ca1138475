-- After t turns those of the first t of which it holds are named.
use Rattle.grounds.proofs.Words.{Marked}
use Rattle.grounds.proofs.members_where.Given as goal

abbrev pub invariant-loop-t : goal.invariant-loop-t
invariant-loop-t g l = Marked (λ t b. goal.F-post g l.holds t b) l.t l.group
