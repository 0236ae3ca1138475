use Rattle.reader.proofs.Picks.{lacking, group-no, group-yes, group-inside, same-answer}
use Rattle.reader.proofs.group_at.Goals as goal

pub returns-then-byte_at-ne123 : goal.returns-then-byte_at-ne123
returns-then-byte_at-ne123 c = lacking _ _ _ c.args.p (group-no _ _ _ _ c.byte_at.ensures c.if-byte_at-ne123.true)

pub members_at-requires : goal.members_at-requires
members_at-requires c = group-inside _ _ _ c.args.p c.byte_at.ensures c.if-byte_at-ne123.false _ c.skip.ensures

pub returns : goal.returns
returns c = same-answer _ _ _ c.members_at.ensures (group-yes _ _ _ _ c.byte_at.ensures c.if-byte_at-ne123.false _ c.skip.ensures)
