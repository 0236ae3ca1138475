use Rattle.plans.proofs.Writing.{stored-step}
use Rattle.plans.proofs.store.Goals as goal

pub returns : goal.returns
returns c = stored-step _ _ _ _ _ _ (rw c.number.ensures at c.write.ensures)
