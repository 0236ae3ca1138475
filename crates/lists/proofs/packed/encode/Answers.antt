-- A reply is put field by field.
use Rattle.std.proofs.Common.{arith}
use Rattle.lists.proofs.Encoding.{reply-fields}
use Rattle.lists.proofs.packed.encode.Goals as goal

pub returns : goal.returns
returns c = reply-fields c.args.r _ _ _ _ (omega arith) (omega arith) (omega arith) c.store16.ensures c.store32.ensures
