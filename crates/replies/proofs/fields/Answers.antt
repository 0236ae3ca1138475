use Rattle.replies.proofs.Replying.{fields-said}
use Rattle.replies.proofs.fields.Goals as goal

pub returns : goal.returns
returns c = fields-said _ _ _ _ _ _ _ _ _ c.replies_transactor.ensures c.field-transactors.ensures c.replies_message.ensures c.field-messages.ensures c.replies_value.ensures c.field.ensures
