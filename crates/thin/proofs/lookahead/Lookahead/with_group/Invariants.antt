-- After t turns the first t transactors are looked at.
use Rattle.thin.specs.Internal.Gather.{Says}
use Rattle.thin.proofs.Looking.{named_below}
use Rattle.thin.proofs.lookahead.Lookahead.with_group.Given as goal

abbrev pub invariant-loop-t : goal.invariant-loop-t
invariant-loop-t l = Says (named_below l.group l.initial.self.emptied l.t) l.self.emptied
