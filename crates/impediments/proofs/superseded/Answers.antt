-- In the group of all only such a history keeps one from being ready.
use Rattle.std.proofs.Common.{◌∙◌}
use Rattle.rules.proofs.Bits.{named-all}
use Rattle.impediments.proofs.Impeding.{entry-withdrawn}
use Rattle.impediments.proofs.superseded.Goals as goal

pub returns : goal.returns
returns c = c.is_some.ensures ∙ entry-withdrawn _ _ _ _ (named-all 16 _ c.requires.1) c.entry.ensures
