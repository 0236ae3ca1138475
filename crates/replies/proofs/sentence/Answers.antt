use Rattle.replies.proofs.Replying.{sentence-other, sentence-work, sentence-idle}
use Rattle.replies.proofs.sentence.Goals as goal

pub returns-then-n-number : goal.returns-then-n-number
returns-then-n-number c = let n = rw c.number.ensures.number at c.if-n-number.true in sentence-other _ _ _ _ n c.words.ensures

pub returns-then-kind-number : goal.returns-then-kind-number
returns-then-kind-number c =
    let n = rw c.number.ensures.number at c.if-n-number.false in
    let k = rw c.number-2.ensures at c.if-kind-number.true in
    sentence-work _ _ _ _ n k c.word.ensures

pub returns : goal.returns
returns c =
    let n = rw c.number.ensures.number at c.if-n-number.false in
    let k = rw c.number-2.ensures at c.if-kind-number.false in
    sentence-idle _ _ _ _ n k c.word-2.ensures
