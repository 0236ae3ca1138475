-- By the first bytes, then by what is packed at the two places.
use Rattle.std.proofs.Common.{arith, sym, ◌∙◌}
use Rattle.marks.specs.Packed.{width, places}
use Rattle.marks.proofs.Packed.{loaded-count}
use Rattle.maps.proofs.Informing.{shown-off, shown-none, shown-both}
use Rattle.stability.proofs.shows.Goals as goal
use Rattle.stability.proofs.shows.Goals.{then-may_show, else-may_show}

pub shown_stable-requires : goal.shown_stable-requires
shown_stable-requires c = (loaded-count width places _ _ (omega arith) c.load.ensures, loaded-count width places _ _ (omega arith) c.load-then-present.ensures)

pub returns-then-present : goal.returns-then-present
returns-then-present c =
    c.shown_stable.ensures
    ∙ rw (c.load.ensures, c.load-then-present.ensures)
    (elim c.if-may_show.branch [
      | then-may_show w ↦ shown-both _ _ _ _ (sym c.may_show.ensures ∙ w.if-may_show.true) (sym w.present.ensures ∙ sym w.value-is ∙ c.if-present.true)
      | else-may_show w ↦ cc
    ])

pub returns-else-present : goal.returns-else-present
returns-else-present c =
    c.if-present.false
    ∙ elim c.if-may_show.branch [
      | then-may_show w ↦ shown-none _ _ _ _ (sym w.present.ensures ∙ sym w.value-is ∙ c.if-present.false)
      | else-may_show w ↦ shown-off width places _ _ _ _ (omega arith) (sym c.may_show.ensures ∙ w.if-may_show.false)
    ]
