-- Not waiting, or one less.
use Rattle.std.proofs.Common.{rules, refl, arith}
use Rattle.engine_tables.proofs.Outcomes.{lose-missing, lose-done}
use Rattle.engine_tables.proofs.turns.lose.Goals as goal

pub returns-then-x : goal.returns-then-x
returns-then-x c = (lose-missing c.requires (search rules) _ refl, tt)

pub returns : goal.returns
returns c = rw (c.reply.ensures, c.number.ensures.number) (lose-done c.requires (search rules) _ c.without_number.ensures, omega arith)
