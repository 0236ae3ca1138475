-- Behind what is said, or nothing where the line is full.
use Rattle.std.proofs.Common.{rules}
use Rattle.lines.proofs.Lining.{plus-full, plus-byte}
use Rattle.lines.proofs.Line.push.Goals as goal

pub returns-then-at-ge-ROOM : goal.returns-then-at-ge-ROOM
returns-then-at-ge-ROOM c = plus-full _ (search rules) _ (search rules)

pub returns : goal.returns
returns c = plus-byte _ (search rules) _ (search rules)
