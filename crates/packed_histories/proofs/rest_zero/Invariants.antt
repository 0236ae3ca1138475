-- After i turns the or is zero exactly if those of the first i bytes are that are not hidden.
use Rattle.std.proofs.Common.{◌≡◌, ◌+◌, ◌-◌, nat_eq}
use Rattle.octets.specs.Bytes.{part, all_zero}
use Rattle.packed_histories.proofs.rest_zero.Given as goal

abbrev pub invariant-loop-i : goal.invariant-loop-i
invariant-loop-i l = nat_eq l.any 0 ≡ all_zero (part (l.at + l.used) (l.i - l.used) l.s)
