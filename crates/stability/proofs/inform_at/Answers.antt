-- An entry of which nothing is shown and the own one stay, else the history is stored stable.
use Rattle.std.proofs.Common.{rules, arith, sym, ap, ◌∙◌}
use Rattle.marks.specs.declared.History.{History}
use Rattle.marks.specs.Packed.{width, places}
use Rattle.marks.proofs.Packed.{loaded-count}
use Rattle.maps.proofs.Informing.{informed-kept, informed-own, informed-set}
use Rattle.stability.proofs.inform_at.Goals as goal
use Rattle.stability.proofs.inform_at.Goals.{else-not-own-via-then-not-own+else-shows, else-not-own-via-else-not-own}

pub store-requires : goal.store-requires
store-requires c =
    (search rules, omega (arith, ap (λ (h : History). h.count) c.stabilize-h.ensures, loaded-count width places _ _ (omega arith) c.load.ensures))

pub returns-then-shows : goal.returns-then-shows
returns-then-shows c =
    informed-set width places _ _ _ _ _ c.if-not-own.true (sym c.shows.ensures ∙ c.if-shows.true) _ _ c.load.ensures c.stabilize-h.ensures _ c.store.ensures

pub returns-else-not-own : goal.returns-else-not-own
returns-else-not-own c =
    elim c.else-not-own.branch [
      | else-not-own-via-then-not-own+else-shows w ↦ informed-kept width places _ _ _ _ _ (sym w.shows.ensures ∙ w.if-shows.false)
      | else-not-own-via-else-not-own w ↦ informed-own width places _ _ _ _ _ w.if-not-own.false
    ]
