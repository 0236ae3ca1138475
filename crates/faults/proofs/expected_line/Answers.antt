use Rattle.std.proofs.Common.{rules, refl}
use Rattle.lines.proofs.Lining.{written-empty}
use Rattle.faults.proofs.Sayings.{words-none, words-said}
use Rattle.faults.proofs.expected_line.Goals as goal

pub returns-in-Ok : goal.returns-in-Ok
returns-in-Ok c = let w = rw c.words.ensures at c.word.ensures in words-said _ _ c.in-Ok.e _ c.in-Ok.ensures (search rules) (written-empty _) w

pub returns-in-Err : goal.returns-in-Err
returns-in-Err c = words-none _ _ c.in-Err.ensures.1 refl (written-empty _)
