-- The right map's bytes are copied, the left one joins them, then the history does.
use Rattle.std.proofs.Common.{rules, arith}
use Rattle.marks.specs.Packed.{width, places}
use Rattle.maps.specs.Packed.{entries}
use Rattle.marks.proofs.Packed.{loaded-count}
use Rattle.maps.proofs.Carrying.{raised-exact, joined-exact, joined-all}
use Rattle.stored_maps.proofs.join_to.Goals as goal

pub join_into-requires : goal.join_into-requires
join_into-requires c =
    let p = c.requires in
    (search rules, search rules, raised-exact width places entries _ _ _ _ p.3 p.0 p.1 _ c.raise.ensures p.7)

pub join_right-requires : goal.join_right-requires
join_right-requires c =
    let p = c.requires in (
      search rules,
      search rules,
      loaded-count width places _ _ (omega arith) c.load-h.ensures,
      joined-exact width places entries _ _ _ _ p.3 p.0 p.1 _ c.raise.ensures _ c.join_into.ensures p.5 p.6,
    )

pub returns : goal.returns
returns c =
    let p = c.requires in
    joined-all width places entries _ _ _ _ p.3 p.0 p.1 _ c.raise.ensures _ c.join_into.ensures p.5 p.6 _ _ _ _ p.2 c.load-h.ensures c.join_right.ensures
