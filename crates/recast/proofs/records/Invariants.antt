-- After k turns the first k records are put.
use Rattle.std.proofs.Common.{◌≡◌}
use Rattle.octets.specs.Bytes.{put, chunks}
use Rattle.recast.specs.Internal.Recast.{record_at}
use Rattle.recast.proofs.records.Given as goal

abbrev pub invariant-loop-k : goal.invariant-loop-k
invariant-loop-k g l = l.target ≡ put l.to (chunks l.k (record_at g.row.V g.row.W 15 l.front l.many l.from l.source)) l.initial.target
