use Rattle.std.proofs.Common.{arith, rules, refl, sym, ◌∙◌, ◌+◌}
use Rattle.scan.proofs.Walking.{number_more, decimal_more, digit-bounds, number-off, number-over, number-end, number_some, number_none}
use Rattle.scan.proofs.number.Goals as goal

pub returns-then-none : goal.returns-then-none
returns-then-none c = number_none _ _ (search rules)

pub loop-c-init : goal.loop-c-init
loop-c-init c = record { low = omega arith; number = number_some _ _ (search rules); value = refl }

pub returns-then-not-is_ascii_digit : goal.returns-then-not-is_ascii_digit
returns-then-not-is_ascii_digit c = c.loop-c.invariant.number ∙ number-off _ _ c.loop-c.c-index _ (omega arith) (sym c.is_ascii_digit.ensures.value ∙ c.if-not-is_ascii_digit.true)

pub returns-then-most-n : goal.returns-then-most-n
returns-then-most-n c =
    let d = digit-bounds _ (sym c.is_ascii_digit.ensures.value ∙ c.if-not-is_ascii_digit.false) in
    c.loop-c.invariant.number ∙ number_more _ _ c.loop-c.c-index _ (omega arith) d.0 d.1 ∙ number-over _ _ (c.loop-c.c-index + 1) _ c.if-most-n.true

pub loop-c-preserved : goal.loop-c-preserved
loop-c-preserved c =
    let d = digit-bounds _ (sym c.is_ascii_digit.ensures.value ∙ c.if-not-is_ascii_digit.false) in record {
      low = c.if-most-n.false;
      number = c.loop-c.invariant.number ∙ number_more _ _ c.loop-c.c-index c.loop-c.n (omega arith) d.0 d.1;
      value = c.loop-c.invariant.value ∙ decimal_more c.args.most _ c.loop-c.c-index c.loop-c.n (omega arith);
    }

pub returns : goal.returns
returns c =
    let e = number-end _ _ c.loop-c.c-index _ (omega arith) c.loop-c.invariant.low in
    (c.loop-c.invariant.number ∙ e.0, sym (c.loop-c.invariant.value ∙ e.1), c.loop-c.invariant.low)
