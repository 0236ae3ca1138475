use Rattle.std.proofs.Common.{◌∙◌, sym}
use Rattle.independence.proofs.Clauses.{heads-parcels}
use Rattle.independence.proofs.heads_meet.Goals as goal

pub returns : goal.returns
returns c =
    heads-parcels _ _ _ _ (sym c.opens.ensures ∙ c.if-opens.false) _ _ _ c.next.ensures (c.from.ensures ∙ c.messages.ensures) c.waiting.ensures.0 c.messages_meet.ensures
