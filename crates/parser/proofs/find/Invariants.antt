-- What is left to run from the place reached on gives the same end.
use Rattle.std.proofs.Common.{◌≡◌, ◌+◌, drop}
use Rattle.notation.specs.Reading.{run}
use Rattle.parser.specs.Internal.Parsing.{other_than}
use Rattle.parser.proofs.find.Given as goal

abbrev pub invariant-loop-at : goal.invariant-loop-at
invariant-loop-at l = l.from + run (other_than l.b) (drop l.from l.s) ≡ l.at + run (other_than l.b) (drop l.at l.s)
