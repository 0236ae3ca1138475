-- After k turns those of the first k messages that have it are counted.
use Rattle.std.proofs.Common.{◌≡◌, ◌≤◌}
use Rattle.rules.specs.Layout.{base}
use Rattle.rules.specs.Pack.{unpack}
use Rattle.rules.specs.ReadyGroups.{how_many}
use Rattle.rules.specs.Dependents.{carries_at}
use Rattle.grounds.proofs.carried.Given as goal

abbrev pub invariant-loop-k : goal.invariant-loop-k
invariant-loop-k l = (l.count ≡ how_many l.k (carries_at (unpack base l.image.bytes.now) l.t)) × (l.count ≤ l.k)
