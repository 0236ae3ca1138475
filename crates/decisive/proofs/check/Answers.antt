-- Each return by its law.
use Rattle.decisive.proofs.Comparing.{left-long, right-long, left-no-mark, right-no-mark, both-marks}
use Rattle.decisive.proofs.check.Goals as goal
use Rattle.decisive.proofs.check.Goals.{then-left-ne-SIZE-via-then-left-ne-SIZE, then-left-ne-SIZE-via-else-left-ne-SIZE+then-right-ne-SIZE}
use Rattle.decisive.proofs.check.Goals.{then-not-is_history-via-then-not-is_history, then-not-is_history-via-else-not-is_history+then-not-is_history-2}

pub returns-then-left-ne-SIZE : goal.returns-then-left-ne-SIZE
returns-then-left-ne-SIZE c =
    elim c.then-left-ne-SIZE.branch [
      | then-left-ne-SIZE-via-then-left-ne-SIZE w ↦ left-long _ _ w.if-left-ne-SIZE.true
      | then-left-ne-SIZE-via-else-left-ne-SIZE+then-right-ne-SIZE w ↦ right-long _ _ w.if-left-ne-SIZE.false w.if-right-ne-SIZE.true
    ]

pub returns-then-not-is_history : goal.returns-then-not-is_history
returns-then-not-is_history c =
    let l = c.if-left-ne-SIZE.false in
    let r = c.if-right-ne-SIZE.false in
    elim c.then-not-is_history.branch [
      | then-not-is_history-via-then-not-is_history w ↦ left-no-mark _ _ l r c.is_history.ensures w.if-not-is_history.true
      | then-not-is_history-via-else-not-is_history+then-not-is_history-2 w ↦
          right-no-mark _ _ l r c.is_history.ensures w.if-not-is_history.false w.is_history-else-not-is_history.ensures w.if-not-is_history-2.true
    ]

pub returns : goal.returns
returns c =
    both-marks _ _ c.if-left-ne-SIZE.false c.if-right-ne-SIZE.false c.is_history.ensures c.if-not-is_history.false c.is_history-else-not-is_history.ensures c.if-not-is_history-2.false
