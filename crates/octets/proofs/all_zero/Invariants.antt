-- After i turns the or is zero exactly if the first i bytes are.
use Rattle.std.proofs.Common.{◌≡◌, nat_eq}
use Rattle.octets.specs.Bytes.{part, all_zero}
use Rattle.octets.proofs.all_zero.Given as goal

abbrev pub invariant-loop-x : goal.invariant-loop-x
invariant-loop-x l = nat_eq l.any 0 ≡ all_zero (part l.at l.x-index l.s)
