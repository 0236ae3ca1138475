-- As the transactor's own bytes have it.
use Rattle.std.proofs.Common.{ap, ◌∙◌, rules}
use Rattle.rules.specs.Layout.{base}
use Rattle.rules.specs.State.{Transactor, own_history}
use Rattle.transactor.proofs.Lent.{unpack-lent}
use Rattle.group.proofs.own.Goals as goal

pub returns : goal.returns
returns c = c.own.ensures ∙ ap (λ (x : Transactor). own_history c.args.t x) (unpack-lent base _ _ (search rules))
