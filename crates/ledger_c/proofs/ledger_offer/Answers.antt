-- None is told by 65535, which no message has.
use Rattle.std.proofs.Common.{ℕ, ◌∙◌, sym, ap, subst}
use Rattle.std.specs.Option.{unwrap_or}
use Rattle.octets.proofs.Put.{octets-of}
use Rattle.rules.specs.Layout.{base}
use Rattle.rules.specs.Calls.{Offers}
use Rattle.ledger_c.specs.Interface.{offered_by}
use Rattle.ledger_c.proofs.Answers.{answered}
use Rattle.ledger_c.proofs.ledger_offer.Goals as goal

pub returns : goal.returns
returns c =
    let n = c.unwrap_or.ensures ∙ ap (λ a. unwrap_or a 65535) c.told.ensures.answer in
    (c.told.ensures.number ∙ c.offer.ensures.0, subst (λ (n : ℕ). Offers base c.args.image.now c.args.transactor (offered_by n)) (sym n) (answered c.args.image.now c.args.transactor (octets-of _ c.type_inv.image) c.offer.result c.offer.ensures.1))
