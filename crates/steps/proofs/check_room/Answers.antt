-- What the image says of its messages.
use Rattle.steps.proofs.Images.{room-in}
use Rattle.steps.proofs.check_room.Goals as goal

pub returns : goal.returns
returns c = room-in _ _ _ _ _ c.room.ensures c.messages.ensures c.requires.1 c.next.ensures
