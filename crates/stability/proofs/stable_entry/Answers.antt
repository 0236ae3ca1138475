-- Its own, absent, or the flag.
use Rattle.std.proofs.Common.{sym, ap, ◌∙◌}
use borrow.Author.Tests.{not-true, not-false}
use Rattle.marks.specs.declared.History.{History}
use Rattle.maps.proofs.Heard.{stable-own, stable-absent, stable-flag}
use Rattle.stability.proofs.stable_entry.Goals as goal
use Rattle.stability.proofs.stable_entry.Goals.{then-own, else-own}

pub returns-then-not-present : goal.returns-then-not-present
returns-then-not-present c =
    c.if-not-present.true
    ∙ elim c.if-own.branch [
      | then-own w ↦ stable-own _ _ _ w.if-own.true
      | else-own w ↦ stable-absent _ _ _ w.if-own.false (sym w.present.ensures ∙ not-true _ (sym w.value-is ∙ c.if-not-present.true))
    ]

pub returns-else-not-present : goal.returns-else-not-present
returns-else-not-present c =
    ap (λ (h : History). h.stable) c.load.ensures
    ∙ elim c.if-own.branch [
      | then-own w ↦ cc
      | else-own w ↦ stable-flag _ _ _ w.if-own.false (sym w.present.ensures ∙ not-false _ (sym w.value-is ∙ c.if-not-present.false))
    ]
