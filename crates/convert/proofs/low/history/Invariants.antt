-- After i turns the or is zero exactly if the first bytes of the first i numbers are.
use Rattle.std.proofs.Common.{◌≡◌, nat_eq}
use Rattle.octets.specs.Bytes.{part, every}
use Rattle.convert.proofs.Within.{first_zero}
use Rattle.convert.proofs.low.history.Given as goal

abbrev pub invariant-loop-i : goal.invariant-loop-i
invariant-loop-i l = nat_eq l.any 0 ≡ every l.i (first_zero (part l.at 33 l.s))
