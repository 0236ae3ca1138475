-- The entry is set where it is chosen.
use Rattle.std.proofs.Common.{rules, sym, ◌∙◌}
use Rattle.marks.specs.Packed.{places}
use Rattle.maps.specs.Map.{with_entry}
use Rattle.maps.proofs.Joins.{one_set, one_kept}
use Rattle.octets.proofs.Chunks.{length-of-map}
use Rattle.maps.proofs.DependenceMap.join_entry.Goals as goal

pub returns-then-chooses_right : goal.returns-then-chooses_right
unfolding with_entry
returns-then-chooses_right c =
    one_set places (record { helds = search (rules, length-of-map); histories = search (rules, length-of-map) }) _ _ c.requires (sym c.chooses_right.ensures ∙ c.if-chooses_right.true)

pub returns-else-chooses_right : goal.returns-else-chooses_right
returns-else-chooses_right c =
    one_kept places (record { helds = search (rules, length-of-map); histories = search (rules, length-of-map) }) _ _ c.requires (sym c.chooses_right.ensures ∙ c.if-chooses_right.false)
