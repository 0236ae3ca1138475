-- The tests in the table's order, and then the part is run.
use Rattle.std.proofs.Common.{not, sym, ap, ◌∙◌, rules}
use Rattle.octets.specs.Bytes.{part}
use Rattle.octets.proofs.Put.{octets-of}
use Rattle.rules.specs.Layout.{base}
use Rattle.rules.proofs.Good.{good-formed}
use Rattle.rules.proofs.Calls.Run.{part-steps, ran-16, ran-17, ran-18, ran-19, ran-0}
use Rattle.lists.proofs.Parts.{right-part}
use Rattle.ledger.proofs.run.Goals as goal

pub returns-then-image-ne-IMAGE : goal.returns-then-image-ne-IMAGE
returns-then-image-ne-IMAGE c = ran-16 base _ _ _ _ _ c.if-image-ne-IMAGE.true

pub returns-then-wrong_part : goal.returns-then-wrong_part
returns-then-wrong_part c = ran-17 base _ _ _ _ _ c.if-image-ne-IMAGE.false (sym c.wrong_part.ensures ∙ c.if-wrong_part.true)

pub overflow_sub-end : goal.overflow_sub-end
overflow_sub-end c = (right-part _ _ _ (sym c.wrong_part.ensures ∙ c.if-wrong_part.false)).forth

pub returns-then-replies-end : goal.returns-then-replies-end
returns-then-replies-end c = ran-18 base _ _ _ _ _ c.if-image-ne-IMAGE.false (sym c.wrong_part.ensures ∙ c.if-wrong_part.false) c.if-replies-end.true

pub returns-then-not-formed : goal.returns-then-not-formed
returns-then-not-formed c =
    ran-19 base _ _ _ _ _ c.if-image-ne-IMAGE.false (sym c.wrong_part.ensures ∙ c.if-wrong_part.false) c.if-replies-end.false (ap not (sym c.formed.ensures ∙ c.if-not-formed.true))

pub slice_bounds-run_steps-count : goal.slice_bounds-run_steps-count
slice_bounds-run_steps-count c = (right-part _ _ _ (sym c.wrong_part.ensures ∙ c.if-wrong_part.false)).forth

pub slice_bounds-run_steps-start : goal.slice_bounds-run_steps-start
slice_bounds-run_steps-start c = (right-part _ _ _ (sym c.wrong_part.ensures ∙ c.if-wrong_part.false)).forth

pub slice_bounds-run_steps-end : goal.slice_bounds-run_steps-end
slice_bounds-run_steps-end c = (right-part _ _ _ (sym c.wrong_part.ensures ∙ c.if-wrong_part.false)).within

pub run_steps-requires : goal.run_steps-requires
unfolding part
run_steps-requires c =
    let r = right-part _ _ _ (sym c.wrong_part.ensures ∙ c.if-wrong_part.false) in
    let n = part-steps c.args.list.now c.args.start c.args.end r.forth r.within r.whole c.args.replies.now c.if-replies-end.false in
    (good-formed _ c.if-image-ne-IMAGE.false (octets-of _ (search rules)) (sym c.formed.ensures ∙ c.if-not-formed.false), n.0, n.1)

pub returns : goal.returns
unfolding part
returns c =
    ran-0 base _ _ _ _ _ c.if-image-ne-IMAGE.false (sym c.wrong_part.ensures ∙ c.if-wrong_part.false) c.if-replies-end.false _ _ (ap not (sym c.formed.ensures ∙ c.if-not-formed.false))
    c.run_steps.ensures.0 c.run_steps.ensures.1
