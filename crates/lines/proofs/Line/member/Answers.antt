-- A comma and the number, or nothing.
use Rattle.std.proofs.Common.{rules}
use Rattle.lines.proofs.Lining.{member-said, member-none}
use Rattle.lines.proofs.Line.member.Goals as goal

pub returns-then-is_named : goal.returns-then-is_named
returns-then-is_named c = member-said _ _ _ _ _ _ c.is_named.ensures c.if-is_named.true c.byte.ensures c.number.ensures

pub returns : goal.returns
returns c = member-none _ (search rules) _ _ _ c.is_named.ensures c.if-is_named.false
