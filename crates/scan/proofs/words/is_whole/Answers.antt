use Rattle.std.proofs.Common.{rules}
use Rattle.std.proofs.lemmas.Iterator.{YieldsList-from_slice}
use Rattle.std.proofs.lemmas.Iterator.Search.{all_from_yields_List}
use Rattle.notation.specs.Reading.{is_hex}
use Rattle.scan.proofs.Wording.{whole-long, whole-short}
use Rattle.scan.proofs.words.is_whole.Goals as goal

pub returns-then-w-eq16 : goal.returns-then-w-eq16
returns-then-w-eq16 c = whole-long _ c.if-w-eq16.true _ (all_from_yields_List is_hex _ _ c.all.result c.all.ensures.ran (YieldsList-from_slice _ c.iter.ensures.rest) (λ x b q k. search rules))

pub returns-else-w-eq16 : goal.returns-else-w-eq16
returns-else-w-eq16 c = whole-short _ c.if-w-eq16.false
