use Rattle.std.proofs.Common.{rules, tests, refl, sym, ◌∙◌}
use Rattle.rules.specs.Layout.{base}
use Rattle.rules.specs.Pack.{unpack}
use Rattle.rules.specs.Obstacle.{entry_obstacle}
use Rattle.obstacles.proofs.Blocking.{map-unnamed, map-named}
use Rattle.obstacles.proofs.Seeking.{sought}
use Rattle.obstacles.proofs.maps_of.Goals as goal

pub returns-then-not-is_named : goal.returns-then-not-is_named
returns-then-not-is_named c = map-unnamed base _ _ _ (sym c.is_named.ensures ∙ c.if-not-is_named.true)

pub returns : goal.returns
returns c =
    map-named base _ _ _ (sym c.is_named.ensures ∙ c.if-not-is_named.false)
    (sought (entry_obstacle (unpack base c.args.image.now.bytes.now) c.args.group c.args.t) 16 _ _ refl (λ x b q k. (search (rules, tests), search (rules, tests))) c.find_map.result c.find_map.ensures.runs)
