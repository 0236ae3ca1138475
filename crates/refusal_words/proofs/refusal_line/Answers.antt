-- Behind nothing.
use Rattle.std.proofs.Common.{rules}
use Rattle.lines.proofs.Lining.{written-empty}
use Rattle.refusal_words.proofs.Wording.{words-said}
use Rattle.refusal_words.proofs.refusal_line.Goals as goal

pub returns : goal.returns
returns c = words-said _ _ _ (search rules) (written-empty _) c.words.ensures
