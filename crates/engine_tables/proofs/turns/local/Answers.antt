-- Not opened, refused, or what the kind does.
use Rattle.std.proofs.Common.{rules, refl, sym}
use Rattle.std.proofs.lemmas.Result.{err_from_is_err_and}
use Rattle.engine_tables.proofs.Guarding.{local-rolls}
use Rattle.rules.proofs.Refused.{refused}
use Rattle.engine_tables.proofs.Outcomes.{local-unopened, local-refused, local-done}
use Rattle.engine_tables.proofs.Told.{local-told}
use Rattle.engine_tables.proofs.turns.local.Goals as goal

pub returns-then-x-p : goal.returns-then-x-p
returns-then-x-p c = let a = c.requires in (local-unopened a.0 a.1 a.2 (search rules) _ refl, tt)

pub returns-in_err-local : goal.returns-in_err-local
returns-in_err-local c =
    let a = c.requires in
    let p = err_from_is_err_and c.from_residual.result c.from_residual.ensures.1 in
    rw (p.1, p.2) (local-refused a.0 a.1 a.2 (search rules) _ c.in_err-local.ensures (refused _) _ refl, tt)

pub local-e-requires : goal.local-e-requires
local-e-requires c = let a = c.requires in (a.1, local-rolls _ _ (sym c.in_ok-local.ensures))

pub returns : goal.returns
returns c = let a = c.requires in rw c.reply.ensures (local-done a.0 a.1 a.2 (search rules) _ c.in_ok-local.ensures refl _ c.local-e.ensures, local-told _ _ _ _ c.local-e.ensures)
