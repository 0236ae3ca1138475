-- A life, frozen or not.
use Rattle.inspection.proofs.Inspecting.{history-stable, history-loose}
use Rattle.inspection.proofs.put_history.Goals as goal

pub returns-then-h : goal.returns-then-h
returns-then-h c = history-stable _ _ _ _ c.if-h.true c.put_incarnation-lived.ensures c.word.ensures

pub returns : goal.returns
returns c = history-loose _ _ _ c.if-h.false c.put_incarnation-lived.ensures
