-- Not live; or in the state map; or in the creation map.
use Rattle.image.proofs.Lent.{good_in}
use Rattle.std.proofs.Common.{rules, sym, ◌∙◌}
use Rattle.rules.specs.Layout.{base}
use Rattle.rules.proofs.Groups.Dependents.{rests-dead, rests-state, rests-creation}
use Rattle.rules.proofs.Pack.Rooms.{room-state, room-creation}
use Rattle.grounds.proofs.rests.Goals as goal

pub holds-requires : goal.holds-requires
holds-requires c = let p = c.requires in (search rules, p.0, room-state _ (good_in c.args.image.now) _ p.0 _ p.1)

pub holds-requires-else-holds : goal.holds-requires-else-holds
holds-requires-else-holds c = let p = c.requires in (search rules, p.0, room-creation _ (good_in c.args.image.now) _ p.0 _ p.1)

pub returns-else-is_live : goal.returns-else-is_live
returns-else-is_live c = c.if-is_live.false ∙ rests-dead base _ _ c.requires.0 _ c.requires.1 (sym c.is_live.ensures ∙ c.if-is_live.false)

pub returns-then-holds : goal.returns-then-holds
returns-then-holds c = c.if-holds.true ∙ rests-state base _ _ c.requires.0 _ c.requires.1 (sym c.is_live.ensures ∙ c.if-is_live.true) _ c.holds.ensures c.if-holds.true

pub returns-else-holds : goal.returns-else-holds
returns-else-holds c = c.holds-else-holds.ensures ∙ rests-creation base _ _ c.requires.0 _ c.requires.1 (sym c.is_live.ensures ∙ c.if-is_live.true) _ c.holds.ensures c.if-holds.false
