-- The array is the packed limits.
use Rattle.std.proofs.Common.{arith}
use Rattle.rules.proofs.Pack.Stores.{limits-bytes}
use Rattle.image.proofs.limits.store.Goals as goal

pub returns : goal.returns
returns c = rw (limits-bytes c.args.transactors c.args.messages c.args.checkpoints (omega arith) (omega arith) (omega arith)) c.write.ensures
