-- After c turns both lists are filled below c.
use Rattle.rules.specs.Layout.{base}
use Rattle.impediments.specs.Internal.Ways.{wider_row, kept_next}
use Rattle.impediments.proofs.Reaching.{Both}
use Rattle.impediments.proofs.ways.one_more.Given as goal

abbrev pub invariant-loop-c : goal.invariant-loop-c
invariant-loop-c l = Both (wider_row l.reach.through l.k) (kept_next l.reach.through l.reach.next l.t l.k) base.transactors l.c l.through l.next
