-- Where ledger has the map, and how long it is.
use Rattle.std.proofs.Common.{◌∙◌, sym}
use Rattle.rules.proofs.Refused.{refused}
use Rattle.ledger_c.proofs.Answers.{part-shown, part-refused}
use Rattle.ledger_c.proofs.ledger_show.Goals as goal

pub returns-in-Ok : goal.returns-in-Ok
returns-in-Ok c = let a = c.in-Ok.ensures in (a.1, part-shown _ _ (sym a.1) _ a.0)

pub returns-in-Err : goal.returns-in-Err
returns-in-Err c =
    let a = c.in-Err.ensures in
    (c.number.ensures.number ∙ a.1, part-refused _ _ (λ z. refused c.in-Err.r (a.1 ∙ z)))
