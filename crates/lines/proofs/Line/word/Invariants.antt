-- After i turns the first i bytes of w are said.
use Rattle.std.proofs.Common.{◌≡◌}
use Rattle.octets.specs.Bytes.{part}
use Rattle.lines.specs.Lines.{written, plus}
use Rattle.lines.proofs.Line.word.Given as goal

abbrev pub invariant-loop-b : goal.invariant-loop-b
invariant-loop-b l = written l.self ≡ plus (written l.fn.self) (part 0 l.b-index l.w)
