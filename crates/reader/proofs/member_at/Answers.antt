use Rattle.std.proofs.Common.{rules}
use Rattle.scan.proofs.Walking.{word-inside}
use Rattle.reader.proofs.Picks.{lacking, member-no, member-yes}
use Rattle.reader.proofs.member_at.Goals as goal

pub slice_bounds-number-end : goal.slice_bounds-number-end
slice_bounds-number-end c = let h = word-inside _ _ _ c.requires c.word_end-end.ensures in search rules

pub returns-in_default : goal.returns-in_default
returns-in_default c = lacking _ _ _ c.args.p (member-no _ _ _ c.requires c.word_end-end.ensures _ c.in_default.ensures)

pub returns : goal.returns
returns c = member-yes _ _ _ c.requires c.word_end-end.ensures _ _ _ c.in-Some.ensures.0 c.in-Some.ensures.1 c.with_member-message.ensures
