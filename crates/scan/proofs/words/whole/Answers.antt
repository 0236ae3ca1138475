-- Digit by digit, two to a byte.
use Rattle.std.proofs.Common.{sym, ◌∙◌}
use Rattle.scan.proofs.Wording.{whole_is}
use Rattle.scan.proofs.words.whole.Goals as goal

pub returns : goal.returns
returns c =
    let d = sym c.is_whole.ensures ∙ c.if-not-is_whole.false in
    (d, whole_is _ d _ _ _ _ _ _ c.hex_number-kind.ensures.0 c.hex_number-transactor.ensures.0 c.hex_number-other.ensures.0 c.hex_number-zero.ensures.0 c.hex_number-message.ensures.0 c.hex_number-value.ensures.0)
