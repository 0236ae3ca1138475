-- What is said and the takes from t on are all of it.
use Rattle.std.proofs.Common.{◌≡◌, ◌-◌, []}
use Rattle.rules.specs.Refusals.{group_bits}
use Rattle.notation.specs.Notation.{members}
use Rattle.lines.specs.Lines.{written, plus}
use Rattle.lines.proofs.Line.members.Given as goal

abbrev pub invariant-loop-t : goal.invariant-loop-t
invariant-loop-t l = record {
  all : plus (written l.r) (members (group_bits - l.t) l.t l.g) ≡ plus (written l.initial.r) (members group_bits 0 l.g);
  fits : written l.r ≡ plus (written l.r) [];
}
