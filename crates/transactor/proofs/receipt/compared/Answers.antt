-- No entry, or joined and compared.
use mathlib.Core.Path.{sym, ◌∙◌}
use native.Mathlib.Omega.{arith}
use borrow.Author.Rules.{rules}
use Rattle.marks.specs.Packed.{width, places}
use Rattle.maps.specs.Packed.{entries}
use Rattle.maps.proofs.Packed.{bounded-unpack, bounded-join}
use Rattle.transactor.proofs.Comparing.{letter-related, letter-current, known-current}
use Rattle.transactor.proofs.receipt.compared.Goals as goal

pub returns-then-all_zero : goal.returns-then-all_zero
returns-then-all_zero c =
    let fits = c.requires.message_inside in
    let none = sym c.all_zero.ensures ∙ c.if-all_zero.true in record {
      unrelated = letter-related width places entries _ _ fits none _;
      packed = letter-current width places entries _ _ fits none _;
      own = known-current width places entries _ _ fits none _;
    }

pub compare-requires : goal.compare-requires
compare-requires c = (search rules, rw c.joined.ensures (bounded-join _ _ _ _ (bounded-unpack _ _ _ _ (omega arith)) (bounded-unpack _ _ _ _ (omega arith))))

pub returns : goal.returns
returns c = record {
  unrelated = c.compare.ensures.0 ∙ rw c.joined.ensures;
  packed = c.compare.ensures.1 ∙ rw c.joined.ensures;
  own = c.compare.ensures.2 ∙ rw c.joined.ensures;
}
