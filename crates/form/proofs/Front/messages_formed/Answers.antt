-- Every place is well-formed.
use Rattle.std.proofs.Common.{◌∙◌, refl, rules}
use Rattle.std.proofs.lemmas.Iterator.{YieldsList-from_range}
use Rattle.std.proofs.lemmas.Iterator.Search.{all_from_yields_List}
use borrow.Author.Tests.{tests}
use Rattle.octets.proofs.Ranges.{all-ranged}
use Rattle.rules.specs.Layout.{base}
use Rattle.form.specs.Internal.Tests.{formed_message_at}
use Rattle.form.proofs.Front.messages_formed.Goals as goal

pub returns : goal.returns
returns c =
    let f = formed_message_at base c.args.self.now.bytes.now in
    all_from_yields_List f _ _ c.all.result c.all.ensures.ran (YieldsList-from_range 0 32 32 refl refl) (λ x b q k. search (rules, tests)) ∙ all-ranged f 32
