-- The first byte, the number and the places, one after the other.
use Rattle.std.proofs.Common.{◌∙◌, arith}
use Rattle.marks.specs.Packed.{width, places}
use Rattle.packed_histories.proofs.Absent.{put_as, bit-from}
use Rattle.packed_histories.proofs.store_as.Goals as goal

pub returns : goal.returns
returns c =
    let a = c.args in
    put_as width places a.at a.present a.h c.from.result c.from-2.result a.image.now _ _ (omega arith) (c.from.ensures ∙ bit-from _) (c.from-2.ensures ∙ bit-from _) (omega arith) c.store16.ensures c.store_numbers.ensures
