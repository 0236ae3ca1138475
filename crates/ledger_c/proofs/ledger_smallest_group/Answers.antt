-- None is told by 0.
use Rattle.std.proofs.Common.{ℕ, ◌∙◌, sym, ap, subst}
use Rattle.std.specs.Option.{unwrap_or}
use Rattle.rules.specs.Layout.{base}
use Rattle.rules.specs.Groups.{Smallest}
use Rattle.ledger_c.specs.Interface.{group_of}
use Rattle.ledger_c.proofs.Answers.{named}
use Rattle.ledger_c.proofs.ledger_smallest_group.Goals as goal

pub returns : goal.returns
returns c =
    let n = c.unwrap_or.ensures ∙ ap (λ a. unwrap_or a 0) c.told.ensures.answer in
    (c.told.ensures.number ∙ c.smallest_group.ensures.0, subst (λ (n : ℕ). Smallest base c.args.image.now c.args.transactor (group_of n)) (sym n) (named c.args.image.now c.args.transactor c.smallest_group.result c.smallest_group.ensures.1))
