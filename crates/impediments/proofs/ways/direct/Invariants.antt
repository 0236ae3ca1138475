-- After c turns both lists are filled below c.
use Rattle.rules.specs.Layout.{base}
use Rattle.impediments.specs.Internal.Ways.{first_row, itself}
use Rattle.impediments.proofs.Reaching.{Both}
use Rattle.impediments.proofs.ways.direct.Given as goal

abbrev pub invariant-loop-c : goal.invariant-loop-c
invariant-loop-c l = Both (first_row l.resting) itself base.transactors l.c l.through l.next
