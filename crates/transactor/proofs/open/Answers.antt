-- The creation map of a renewed take changes.
use Rattle.octets.specs.Bytes.{zeros}
use Rattle.rules.specs.Layout.{base}
use Rattle.rules.proofs.Pack.Stores.{put-creation}
use Rattle.transactor.proofs.Bytes.{stored}
use Rattle.transactor.proofs.open.Goals as goal

pub returns : goal.returns
unfolding zeros
returns c =
    stored base _ _ _ _ (put-creation base _ _) c.renew.ensures c.store.ensures
