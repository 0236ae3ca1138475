-- Nothing, or the name, the take and its mark.
use Rattle.lines.proofs.Lining.{written-empty}
use Rattle.inspection.proofs.Inspecting.{count_low, entry-none, entry-some}
use borrow.Author.Rules.{rules}
use Rattle.inspection.proofs.entry.Goals as goal

pub returns-then-not-present : goal.returns-then-not-present
returns-then-not-present c = entry-none _ _ _ c.args.u (search rules) _ _ c.present.ensures c.if-not-present.true

pub put_history-requires : goal.put_history-requires
put_history-requires c = count_low _ _ c.load-h.ensures

pub returns : goal.returns
returns c = entry-some _ _ _ c.args.u (search rules) _ _ _ _ _ _ _ c.present.ensures c.if-not-present.false c.load-h.ensures (written-empty _) c.put-named.ensures c.byte.ensures c.put_history.ensures c.byte-2.ensures (search rules) (search rules)
