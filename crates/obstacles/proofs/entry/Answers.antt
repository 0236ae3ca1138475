-- The history of the state map, or else that of the creation map.
use Rattle.std.proofs.Common.{rules, ◌∙◌}
use Rattle.image.proofs.Lent.{good_in}
use Rattle.rules.specs.Layout.{base}
use Rattle.rules.proofs.Pack.Rooms.{room-state, room-creation}
use Rattle.obstacles.proofs.Blocking.{entry-is}
use Rattle.obstacles.proofs.entry.Goals as goal

pub history-requires : goal.history-requires
history-requires c = let p = c.requires in (p.0, p.1, search rules, room-state _ (good_in c.args.image.now) _ p.1 _ p.0)

pub history-requires-in-None : goal.history-requires-in-None
history-requires-in-None c = let p = c.requires in (p.0, p.1, search rules, room-creation _ (good_in c.args.image.now) _ p.1 _ p.0)

pub returns-in-None : goal.returns-in-None
returns-in-None c = c.history-in-None.ensures ∙ (rw (← c.in-None.ensures) at (entry-is base c.args.image.now.bytes.now c.args.group _ _ c.requires.0 c.requires.1))

pub returns-in_default : goal.returns-in_default
returns-in_default c = let h = rw (← c.in_default.ensures) at (entry-is base c.args.image.now.bytes.now c.args.group _ _ c.requires.0 c.requires.1) in cc
