-- In the message's map.
use Rattle.image.proofs.Lent.{good_in}
use Rattle.std.proofs.Common.{rules, ◌∙◌}
use Rattle.rules.specs.Layout.{base}
use Rattle.rules.proofs.Groups.Dependents.{carries-at}
use Rattle.rules.proofs.Pack.Rooms.{room-message}
use Rattle.grounds.proofs.carries.Goals as goal

pub holds-requires : goal.holds-requires
holds-requires c = let p = c.requires in (search rules, p.0, room-message _ (good_in c.args.image.now) _ p.0 _ p.1)

pub returns : goal.returns
returns c = c.holds.ensures ∙ carries-at base _ _ c.requires.0 _ c.requires.1
