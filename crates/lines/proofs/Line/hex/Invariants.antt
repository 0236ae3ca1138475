-- After i turns the digits of the first i bytes are said.
use Rattle.std.proofs.Common.{◌≡◌}
use Rattle.octets.specs.Bytes.{part}
use Rattle.notation.specs.Notation.{hex}
use Rattle.lines.specs.Lines.{written, plus}
use Rattle.lines.proofs.Line.hex.Given as goal

abbrev pub invariant-loop-x : goal.invariant-loop-x
invariant-loop-x l = written l.self ≡ plus (written l.fn.self) (hex (part 0 l.x-index l.b))
