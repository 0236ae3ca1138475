-- Two words, bit by bit.
use Rattle.std.proofs.Common.{rules}
use Rattle.rules.proofs.Bits.{inside-and}
use Rattle.lists.proofs.groups.is_inside.Goals as goal

pub returns : goal.returns
returns c = inside-and _ _ (search rules)
