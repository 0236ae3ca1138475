-- From step i on the steps are gathered; a turn looks at the step before.
use Rattle.thin.proofs.Gathering.{Gathering}
use Rattle.thin.proofs.gather.Given as goal

abbrev pub invariant-loop-i : goal.invariant-loop-i
invariant-loop-i l = Gathering l.list l.fn.out l.i l.k l.ahead.emptied l.out
