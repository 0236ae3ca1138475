-- One mark of the state map.
use mathlib.Core.Path.{sym, ◌∙◌}
use native.Mathlib.Omega.{arith}
use Rattle.rules.specs.Layout.{base, state_at}
use Rattle.rules.specs.Pack.{unpack_transactor}
use Rattle.rules.proofs.Pack.Loads.{history-at}
use Rattle.transactor.proofs.own.Goals as goal

pub returns : goal.returns
unfolding unpack_transactor
returns c = c.load.ensures ∙ sym (history-at base state_at _ _ (omega arith))
