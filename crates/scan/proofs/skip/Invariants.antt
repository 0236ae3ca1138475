-- What is left to run from the place reached on gives the same end.
use Rattle.std.proofs.Common.{◌≡◌, ◌≤◌, ◌+◌, drop, length}
use Prim.Native.Nat.{max}
use Rattle.notation.specs.Reading.{blank, run}
use Rattle.scan.proofs.skip.Given as goal

abbrev pub invariant-loop-at : goal.invariant-loop-at
invariant-loop-at l = (l.from + run blank (drop l.from l.s) ≡ l.at + run blank (drop l.at l.s)) × (l.at ≤ max l.from (length l.s))
