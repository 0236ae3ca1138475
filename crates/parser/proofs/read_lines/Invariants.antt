-- The text up to from is read.
use Rattle.std.proofs.Common.{suc, length, ◌-◌}
use Rattle.parser.proofs.Loops.{Upto}
use Rattle.parser.proofs.read_lines.Given as goal

abbrev pub invariant-loop-from : goal.invariant-loop-from
invariant-loop-from l = Upto l.most l.text l.fn.out l.out l.write l.from l.at l.line

abbrev pub decreases-loop-from : goal.decreases-loop-from
decreases-loop-from l = suc (length l.text) - l.from
