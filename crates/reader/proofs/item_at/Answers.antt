use Rattle.std.proofs.Common.{arith, rules, ◌∙◌, sym}
use Rattle.notation.proofs.Within.{next-within}
use Rattle.scan.proofs.Walking.{word-inside}
use Rattle.reader.proofs.Picks.{lacking, item-group, item-word, word-no, word-yes, same-answer, not-members}
use Rattle.reader.proofs.item_at.Goals as goal

pub group_at-requires : goal.group_at-requires
group_at-requires c = omega (arith, next-within c.args.s.now c.args.r.at c.requires, c.skip-at.ensures)

pub returns-in-Members : goal.returns-in-Members
returns-in-Members c = rw c.in-Members.is (same-answer _ _ _ c.group_at.ensures (item-group _ _ _ _ c.skip-at.ensures))

pub slice_bounds-with_word-end : goal.slice_bounds-with_word-end
slice_bounds-with_word-end c =
    let k = next-within c.args.s.now c.args.r.at c.requires in
    let h = word-inside _ _ _ (omega (arith, k, c.skip-at.ensures)) c.word_end-end.ensures in search rules

pub returns-in_default-with_word : goal.returns-in_default-with_word
returns-in_default-with_word c =
    let k = next-within c.args.s.now c.args.r.at c.requires in
    let l = lacking _ _ _ c.args.r.step
    (word-no _ _ _ (omega (arith, k, c.skip-at.ensures)) c.word_end-end.ensures _ _ c.in_default-with_word.ensures
    ∙ sym (item-word _ _ _ _ c.skip-at.ensures _ (not-members c.args.wanted c.in_default.not-Members))) in
    (l.0, l.1 ∙ sym c.from.ensures, l.2)

pub returns : goal.returns
returns c =
    let k = next-within c.args.s.now c.args.r.at c.requires in
    item-word _ _ _ _ c.skip-at.ensures _ (not-members c.args.wanted c.in_default.not-Members)
    ∙ word-yes _ _ _ (omega (arith, k, c.skip-at.ensures)) c.word_end-end.ensures _ _ _ c.in-Some.ensures.0 c.in-Some.ensures.1
