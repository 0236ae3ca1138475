use Rattle.std.proofs.Common.{rules, sym, refl, ◌∙◌, ℕ, Bool}
use Rattle.std.proofs.lemmas.Iterator.{YieldsList-from_range}
use Rattle.std.proofs.lemmas.Iterator.Search.{any_from_yields_List}
use borrow.Author.Tests.{tests, eqb-true}
use Rattle.octets.specs.Bytes.{◌and◌}
use Rattle.rules.specs.Layout.{base}
use Rattle.rules.specs.Pack.{unpack}
use Rattle.independence.specs.Internal.Footprint.{relisted, has_marks}
use Rattle.octets.proofs.Ranges.{any-ranged}
use Rattle.independence.proofs.Clauses.{lists-any}
use Rattle.independence.proofs.lists_meet.Goals as goal

pub returns-then-signs : goal.returns-then-signs
returns-then-signs c =
    let P : ℕ → Bool = λ t. relisted (unpack base c.args.image.now.bytes.now) (unpack base c.args.copy.now.bytes.now) t and has_marks (unpack base c.args.image.now.bytes.now) c.args.q.message t in
    any_from_yields_List P _ _ c.any.result c.any.ensures.ran (YieldsList-from_range 0 16 16 refl refl) (λ x b q k. search (rules, tests)) ∙ any-ranged P 16 ∙ lists-any _ _ _ (eqb-true _ _ (sym c.signs.ensures ∙ c.if-signs.true))
