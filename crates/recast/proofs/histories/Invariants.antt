-- After i turns the first i histories are put.
use Rattle.std.proofs.Common.{◌≡◌}
use Rattle.octets.specs.Bytes.{put, chunks}
use Rattle.recast.proofs.Stores.{entry_at}
use Rattle.recast.proofs.histories.Given as goal

abbrev pub invariant-loop-i : goal.invariant-loop-i
invariant-loop-i g l = l.target ≡ put l.to (chunks l.i (entry_at g.row.V g.row.W 15 l.from l.source)) l.initial.target
