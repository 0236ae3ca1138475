use Rattle.std.proofs.Common.{arith, sym, ◌∙◌}
use Rattle.octets.proofs.Put.{octets-of}
use Rattle.printer.proofs.Printer.{length-wrong, length-right, right, right-list, total-none, total-more, total-all, lines-short, line-len}
use Rattle.printer.proofs.text_length.Goals as goal

pub returns-then-wrong_part : goal.returns-then-wrong_part
returns-then-wrong_part c = sym (length-wrong _ (sym c.wrong_part.ensures ∙ c.if-wrong_part.true))

pub loop-i-init : goal.loop-i-init
loop-i-init c = total-none _

pub overflow_add-total : goal.overflow_add-total
overflow_add-total c =
    let o = octets-of _ c.type_inv.list in
    let h = right-list _ (right _ (sym c.wrong_part.ensures ∙ c.if-wrong_part.false)) in
    let s = lines-short _ o c.loop-i.i in
    let m = line-len _ o _ c.loop-i.i c.line_at-total.ensures in
    omega (arith, c.loop-i.invariant)

pub loop-i-preserved : goal.loop-i-preserved
loop-i-preserved c = total-more _ _ _ _ c.loop-i.invariant c.line_at-total.ensures

pub returns : goal.returns
returns c = sym (length-right _ (sym c.wrong_part.ensures ∙ c.if-wrong_part.false) _ (total-all _ _ _ c.loop-i.invariant (omega arith)))
