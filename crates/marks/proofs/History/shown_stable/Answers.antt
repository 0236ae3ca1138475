-- By the list, or by the flag and the incarnation.
use Rattle.std.proofs.Common.{◌∙◌, sym}
use Rattle.marks.proofs.News.{shows-list, shows-unstable, shows_same}
use Rattle.marks.proofs.History.shown_stable.Goals as goal

pub returns-then-checkpointed_in : goal.returns-then-checkpointed_in
returns-then-checkpointed_in c = c.if-checkpointed_in.true ∙ shows-list _ _ (sym c.checkpointed_in.ensures ∙ c.if-checkpointed_in.true)

pub returns-then-stable : goal.returns-then-stable
returns-then-stable c = c.same_incarnation.ensures ∙ shows_same _ _ (sym c.checkpointed_in.ensures ∙ c.if-checkpointed_in.false) c.if-stable.true

pub returns-else-stable : goal.returns-else-stable
returns-else-stable c = c.if-stable.false ∙ shows-unstable _ _ (sym c.checkpointed_in.ensures ∙ c.if-checkpointed_in.false) c.if-stable.false
