-- Refused as a busy transactor is, all opened, or one more.
use Rattle.std.proofs.Common.{rules, refl}
use Rattle.std.proofs.lemmas.Result.{err_from_is_err_and}
use Rattle.rules.proofs.Refused.{refused}
use Rattle.engine_tables.proofs.Outcomes.{new-idle, new-full, new-done}
use Rattle.engine_tables.proofs.Told.{opens-told}
use Rattle.engine_tables.proofs.turns.new.Goals as goal

pub returns-in_err-busy : goal.returns-in_err-busy
returns-in_err-busy c = let p = err_from_is_err_and c.from_residual.result c.from_residual.ensures.1 in rw (p.1, p.2) (new-idle c.requires _ c.in_err-busy.ensures (refused _) _ refl, tt)

pub returns-then-register : goal.returns-then-register
returns-then-register c = (new-full c.requires _ c.in_ok-busy.ensures refl (search rules) _ refl, tt)

pub returns : goal.returns
returns c = (new-done c.requires _ c.in_ok-busy.ensures refl (search rules) _ c.opening.ensures, opens-told _ c.args.x _ c.opening.ensures)
