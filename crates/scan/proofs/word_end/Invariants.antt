-- What is left to run from the place reached on gives the same end.
use Rattle.std.proofs.Common.{◌≡◌, ◌≤◌, ◌+◌, drop, length}
use Prim.Native.Nat.{max}
use Rattle.notation.specs.Reading.{in_word, run}
use Rattle.scan.proofs.word_end.Given as goal

abbrev pub invariant-loop-at : goal.invariant-loop-at
invariant-loop-at l = (l.from + run in_word (drop l.from l.s) ≡ l.at + run in_word (drop l.at l.s)) × (l.at ≤ max l.from (length l.s))
