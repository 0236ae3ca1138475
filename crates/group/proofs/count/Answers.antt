-- As its own history counts.
use Rattle.std.proofs.Common.{sym, ap, ◌∙◌, rules}
use Rattle.marks.specs.declared.History.{History}
use Rattle.rules.specs.Layout.{base}
use Rattle.rules.proofs.Pack.Loads.{read_history}
use Rattle.group.proofs.count.Goals as goal

pub returns : goal.returns
returns c = (rw c.own_at.ensures at c.count-n.ensures.0) ∙ ap (λ (h : History). h.count) (sym (read_history base _ _ (search rules) _ (search rules)))
