-- The two first bytes.
use Rattle.std.proofs.Common.{◌∙◌, arith}
use borrow.Author.Tests.{le-leb, ne_eqb}
use Rattle.marks.specs.Packed.{width, places}
use Rattle.marks.proofs.Placed.{may-not, may-stable, may-count}
use Rattle.packed_histories.proofs.may_show.Goals as goal

pub returns-then-shown-ge192 : goal.returns-then-shown-ge192
returns-then-shown-ge192 c =
    le-leb _ _ c.if-shown-ge192.true ∙ may-stable width places _ _ _ (omega arith) (omega arith) c.if-recorded-eq2.true (omega (arith, c.type_inv.s c.args.from)) c.if-shown-ge192.true

pub returns-else-shown-ge192 : goal.returns-else-shown-ge192
returns-else-shown-ge192 c = may-count width places _ _ _ (omega arith) (omega arith) (omega arith) (omega arith)

pub returns-else-recorded-eq2 : goal.returns-else-recorded-eq2
returns-else-recorded-eq2 c =
    ne_eqb _ _ c.if-recorded-eq2.false ∙ may-not width places _ _ _ (omega arith) (omega arith) (omega (arith, c.type_inv.s c.args.at)) c.if-recorded-eq2.false
