-- What is left of the template from i on gives the same.
use Rattle.std.proofs.Common.{◌≡◌, ◌≤◌, length, map, drop}
use Rattle.notation.specs.Notation.{item_number}
use Rattle.notation.specs.Reading.{items, reached}
use Rattle.reader.proofs.items_at.Given as goal

abbrev pub invariant-loop-wanted : goal.invariant-loop-wanted
invariant-loop-wanted l = record {
  within : l.r.at ≤ length l.s;
  rest : items l.s (map item_number l.wanted-items) (reached l.initial.r.at l.initial.r.step) ≡ items l.s (map item_number (drop l.wanted-index l.wanted-items)) (reached l.r.at l.r.step);
}
