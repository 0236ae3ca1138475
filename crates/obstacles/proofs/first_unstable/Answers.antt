use Rattle.std.proofs.Common.{rules, tests, refl}
use Rattle.rules.specs.Layout.{base}
use Rattle.rules.specs.Pack.{unpack}
use Rattle.rules.specs.Obstacle.{unstable_at}
use Rattle.obstacles.proofs.Seeking.{sought}
use Rattle.obstacles.proofs.first_unstable.Goals as goal

pub returns : goal.returns
returns c = sought (unstable_at (unpack base c.args.image.now.bytes.now) c.args.group) 16 _ _ refl (λ x b q k. (search (rules, tests), search (rules, tests))) c.find_map.result c.find_map.ensures.runs
