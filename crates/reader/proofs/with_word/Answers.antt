use Rattle.std.proofs.Common.{◌∙◌, sym}
use Rattle.reader.proofs.Picks.{number-word, to-word, text-word, said-word, said-digits}
use Rattle.reader.proofs.with_word.Goals as goal

pub returns-in_err-n-in-Number : goal.returns-in_err-n-in-Number
returns-in_err-n-in-Number c =
    let e = rw c.most_of.ensures.most at c.in_err-n-in-Number.ensures in
    rw (c.from_residual.ensures, c.in-Number.is) ((number-word c.in-Number.field c.args.w.now c.args.p).0 ∙ e)

pub returns-in_ok-n-in-Number : goal.returns-in_ok-n-in-Number
returns-in_ok-n-in-Number c =
    let e = rw c.most_of.ensures.most at c.in_ok-n-in-Number.ensures in
    let n = number-word c.in-Number.field c.args.w.now c.args.p in
    rw c.in-Number.is (n.0 ∙ e.0, c.with_field.ensures ∙ rw e.1 (sym n.1))

pub returns-in-To : goal.returns-in-To
returns-in-To c =
    let n = to-word c.args.w.now c.args.p in
    rw c.in-To.is (said-word _ _ _ _ _ _ (rw c.as_slice.ensures at c.eq.ensures) c.then_some.ensures n.0 n.1)

pub returns-in-Text : goal.returns-in-Text
returns-in-Text c =
    let n = text-word c.args.w.now c.args.p in
    rw c.in-Text.is (said-word _ _ _ _ _ _ (rw c.as_slice-in-Text.ensures at c.eq-in-Text.ensures) c.then_some-in-Text.ensures n.0 n.1)

pub returns-in-Digits : goal.returns-in-Digits
returns-in-Digits c = rw c.in-Digits.is (said-digits _ _ _ c.whole.ensures)
