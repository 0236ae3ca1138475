-- After i turns the first i bytes behind the gap are put.
use Rattle.std.proofs.Common.{◌≡◌, ◌+◌, length}
use Rattle.octets.specs.Bytes.{put, part}
use Rattle.octets.proofs.lower.Given as goal

abbrev pub invariant-loop-i : goal.invariant-loop-i
invariant-loop-i l = (l.image ≡ put l.at (part (l.at + l.gap) l.i l.fn.image) l.fn.image) × (length l.image ≡ length l.fn.image)
