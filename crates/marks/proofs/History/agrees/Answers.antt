-- The slices are compared entry by entry.
use Rattle.std.proofs.Common.{◌∙◌}
use Rattle.marks.proofs.Tests.{pointwise_same}
use Rattle.marks.proofs.History.agrees.Goals as goal

pub returns : goal.returns
returns c = c.eq.ensures ∙ pointwise_same _ _
