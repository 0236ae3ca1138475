-- The fields of the message are put one after the other, then the next number.
use Rattle.std.proofs.Common.{refl}
use Rattle.rules.specs.Layout.{base}
use Rattle.rules.proofs.Pack.Messages.{append-image}
use Rattle.image.proofs.messages.append_empty.Goals as goal

pub returns : goal.returns
returns c =
    let p = c.requires in
    append-image base _ p.0.long p.0.back _ p.1 _ _ _ _ _ _ _ _ p.2 p.3
    c.next-number.ensures refl c.store_fields.ensures c.store_empty.ensures c.store16.ensures
