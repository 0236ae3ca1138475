-- The same form with the presence bit.
use Rattle.packed_histories.proofs.Absent.{put-present}
use Rattle.packed_histories.proofs.store.Goals as goal

pub returns : goal.returns
returns c = put-present _ _ _ _ _ _ c.store_as.ensures
