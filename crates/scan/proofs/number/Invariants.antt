-- What is left from i on, after digits that gave n, gives the same number.
use Rattle.std.proofs.Common.{◌≡◌, ◌≤◌, drop}
use Rattle.notation.specs.Reading.{is_number, of_decimal}
use Rattle.scan.proofs.Walking.{number_from}
use Rattle.scan.proofs.number.Given as goal

abbrev pub invariant-loop-c : goal.invariant-loop-c
invariant-loop-c l = record {
  low : l.n ≤ l.most;
  number : is_number l.most l.w ≡ number_from l.most l.n (drop l.c-index l.w);
  value : of_decimal 0 l.w ≡ of_decimal l.n (drop l.c-index l.w);
}
