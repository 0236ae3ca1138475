-- The count is that of the first i replies.
use Rattle.std.proofs.Common.{◌≡◌}
use Rattle.window.specs.Window.{rollbacks}
use Rattle.window.proofs.first.Given as goal

abbrev pub invariant-loop-i : goal.invariant-loop-i
invariant-loop-i l = l.count ≡ rollbacks l.replies 0 l.i
