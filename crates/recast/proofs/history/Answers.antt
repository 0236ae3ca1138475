-- The first byte, then all numbers.
use Rattle.recast.proofs.Turns.{history-turned}
use Rattle.recast.proofs.history.Goals as goal

pub returns : goal.returns
returns g c =
    history-turned g.row.V g.row.W c.args.from c.args.to c.args.source.now c.args.target.now c.requires.1 c.requires.2 _ _ c.numbers-list.ensures c.put_numbers.ensures
