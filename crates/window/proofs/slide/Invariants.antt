-- At each place the count is the fresh one of the window there, and the best is the worst window up to it.
use Rattle.std.proofs.Common.{◌≡◌}
use Rattle.window.specs.Window.{rollbacks, worst_up_to}
use Rattle.window.proofs.slide.Given as goal

abbrev pub invariant-loop-place : goal.invariant-loop-place
invariant-loop-place l = record { counted : l.count ≡ rollbacks l.replies l.place l.width; best_so_far : l.best ≡ worst_up_to l.replies l.width l.place }
