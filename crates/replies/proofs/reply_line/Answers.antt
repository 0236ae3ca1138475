use Rattle.std.proofs.Common.{rules}
use Rattle.replies.proofs.Replying.{reply-no-step, reply-none, reply-some}
use Rattle.replies.proofs.reply_line.Goals as goal

pub returns-then-list-i : goal.returns-then-list-i
returns-then-list-i c = reply-no-step c.args.list.now c.args.replies.now c.args.i _ (search rules)

pub returns-then-replies-i : goal.returns-then-replies-i
returns-then-replies-i c = reply-none c.args.list.now c.args.replies.now c.args.i _ (search rules) (search rules)

pub returns : goal.returns
returns c = reply-some c.args.list.now c.args.replies.now c.args.i _ _ (search rules) (search rules) c.decode-p.ensures c.reply_at.ensures
