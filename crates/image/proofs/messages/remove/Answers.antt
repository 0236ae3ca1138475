-- What octets' remove leaves is the packing without the message.
use Rattle.rules.specs.Layout.{base}
use Rattle.rules.proofs.Pack.Messages.{remove-image}
use Rattle.image.proofs.messages.remove.Goals as goal

pub returns : goal.returns
returns c = remove-image base _ c.requires.0 c.requires.1 _ c.requires.2 _ _ c.requires.3 c.requires.4 c.remove.ensures
