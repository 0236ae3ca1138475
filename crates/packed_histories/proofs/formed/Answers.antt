-- Absent, with a first byte that is zero or not; or present, with a zero bit that is set or a list that is too long, or the bytes that are not used are tested.
use Rattle.std.proofs.Common.{◌∙◌, refl, arith}
use borrow.Author.Tests.{ne_eqb, lt-leb}
use Rattle.marks.specs.Packed.{width, places}
use Rattle.marks.proofs.Placed.{formed-over, formed-first, formed-zero, formed-list}
use Rattle.packed_histories.proofs.formed.Goals as goal

pub returns-then-head-eq0 : goal.returns-then-head-eq0
returns-then-head-eq0 c = c.rest_zero.ensures ∙ formed-zero width places _ _ (omega arith) _ _ refl c.if-head-eq0.true

pub returns-else-head-eq0 : goal.returns-else-head-eq0
returns-else-head-eq0 c = ne_eqb _ _ c.if-head-eq0.false ∙ formed-first width places _ _ (omega arith) _ (omega arith) c.if-head-eq0.false

pub returns-then-head-limit : goal.returns-then-head-limit
returns-then-head-limit c = c.rest_zero-then-head-limit.ensures ∙ formed-list width places _ _ (omega arith) _ _ refl (omega arith) (omega arith) (omega arith) (omega arith)

pub returns-else-head-limit : goal.returns-else-head-limit
returns-else-head-limit c = lt-leb _ _ (omega arith) ∙ formed-over width places _ _ (omega arith) _ (omega arith) (omega arith) (omega arith)
