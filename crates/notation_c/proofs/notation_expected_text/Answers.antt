-- The words of the number.
use Rattle.notation_c.proofs.Giving.{gives}
use Rattle.notation_c.proofs.notation_expected_text.Goals as goal

pub returns : goal.returns
returns c = gives _ _ _ _ _ c.expected_line.ensures (c.give.ensures.answer, c.give.ensures.left)
