-- The history is stored where it is chosen, else the map stays.
use Rattle.std.proofs.Common.{sym, ◌∙◌}
use Rattle.marks.specs.Packed.{width, places}
use Rattle.maps.specs.Packed.{entries}
use Rattle.maps.proofs.Carrying.{right-set, right_kept}
use Rattle.stored_maps.proofs.join_right.Goals as goal

pub returns-then-chooses_right : goal.returns-then-chooses_right
returns-then-chooses_right c =
    let p = c.requires in
    right-set width places entries _ _ p.0 p.3 _ p.1 _ _ _ c.present-p.ensures c.load-x.ensures
    (sym c.chooses_right.ensures ∙ c.if-chooses_right.true) _ c.store.ensures

pub returns-else-chooses_right : goal.returns-else-chooses_right
returns-else-chooses_right c =
    let p = c.requires in
    right_kept width places entries _ _ p.0 p.3 _ p.1 _ _ _ c.present-p.ensures c.load-x.ensures
    (sym c.chooses_right.ensures ∙ c.if-chooses_right.false)
