-- With i turns done, as many as are left give the same.
use Rattle.std.proofs.Common.{◌≡◌, ◌≤◌, ◌-◌, length}
use Rattle.notation.specs.Reading.{more_members, reached}
use Rattle.reader.proofs.more_members.Given as goal

abbrev pub invariant-loop : goal.invariant-loop
invariant-loop l = record {
  within : l.r.at ≤ length l.s;
  rest : more_members (length l.s) l.s (reached l.fn.first.at l.fn.first.step) ≡ more_members (length l.s - l.counter) l.s (reached l.r.at l.r.step);
}
