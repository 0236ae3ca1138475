-- Kept where it is absent or not chosen, else the packed history.
use Rattle.std.proofs.Common.{sym, ◌∙◌}
use Rattle.marks.specs.Packed.{width, places}
use Rattle.maps.proofs.Joins.{stays-absent, stays-right, stored-left}
use Rattle.stored_maps.proofs.join_at.Goals as goal

pub returns-then-not-p : goal.returns-then-not-p
returns-then-not-p c = let p = c.requires in stays-absent width places _ _ _ _ p.0 p.2 c.if-not-p.true

pub returns-then-chooses_right : goal.returns-then-chooses_right
returns-then-chooses_right c =
    let p = c.requires in
    stays-right width places _ _ _ _ p.0 p.2 _ _ c.present-q.ensures c.load-y.ensures (sym c.chooses_right.ensures ∙ c.if-chooses_right.true)

pub returns : goal.returns
returns c =
    let p = c.requires in
    stored-left width places _ _ _ _ p.0 p.2 _ _ c.present-q.ensures c.load-y.ensures c.if-not-p.false (sym c.chooses_right.ensures ∙ c.if-chooses_right.false) _ c.store.ensures
