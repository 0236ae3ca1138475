-- Both sums are below the modulus.
use Rattle.std.proofs.Common.{◌<◌}
use Rattle.test_mixed.proofs.adler32.Given as goal

abbrev pub invariant-loop-x : goal.invariant-loop-x
invariant-loop-x l = (l.a < 65521) × (l.b < 65521)
