-- What is said and the items from i on are all of it.
use Rattle.std.proofs.Common.{◌≡◌, [], map, drop}
use Rattle.notation.specs.Notation.{item_number, items_text}
use Rattle.lines.specs.Lines.{written, plus}
use Rattle.printer.proofs.items.Given as goal

abbrev pub invariant-loop-i : goal.invariant-loop-i
invariant-loop-i l = record {
  all : plus (written l.r) (items_text l.p (map item_number (drop l.i-index l.i-items))) ≡ plus (written l.initial.r) (items_text l.p (map item_number l.i-items));
  fits : written l.r ≡ plus (written l.r) [];
}
