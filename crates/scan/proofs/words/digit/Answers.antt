use Rattle.scan.proofs.Wording.{digit_low, digit-from, digit-letter, digit-high}
use Rattle.scan.proofs.words.digit.Goals as goal

pub overflow_sub-c : goal.overflow_sub-c
overflow_sub-c c = digit-from _ c.requires

pub returns-then-c-le57 : goal.returns-then-c-le57
returns-then-c-le57 c = rw c.from.ensures (digit_low _ c.requires c.if-c-le57.true)

pub overflow_sub-c-2 : goal.overflow_sub-c-2
overflow_sub-c-2 c = digit-letter _ c.requires c.if-c-le57.false

pub returns : goal.returns
returns c = rw c.from-2.ensures (digit-high _ c.requires c.if-c-le57.false)
