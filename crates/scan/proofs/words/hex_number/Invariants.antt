-- After i digits the number is theirs.
use Rattle.std.proofs.Common.{◌≡◌, ◌<◌, ◌^◌}
use Rattle.scan.specs.Internal.Words.{hex_value}
use Rattle.scan.proofs.words.hex_number.Given as goal

abbrev pub invariant-loop-i : goal.invariant-loop-i
invariant-loop-i l = record {
  value : l.x ≡ hex_value l.w l.at l.i;
  fits : l.x < 16 ^ l.i;
}
