-- The takes in a line of their own, then all in braces.
use Rattle.std.proofs.Common.{rules}
use Rattle.lines.proofs.Lining.{written-empty, members-fit, group-said}
use Rattle.lines.proofs.Line.group.Goals as goal

pub rest-requires : goal.rest-requires
rest-requires c = members-fit _ _ _ (search rules) c.members-named.ensures (written-empty _)

pub returns : goal.returns
returns c = group-said _ _ _ _ _ _ _ c.members-named.ensures (written-empty _) c.byte.ensures c.rest.ensures c.byte-2.ensures
