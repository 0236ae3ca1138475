-- The first place that is addressed to t.
use Rattle.std.proofs.Common.{◌≡◌, ℕ, Bool, true, false, rules}
use Rattle.std.proofs.lemmas.Iterator.{first_from_Range}
use borrow.Author.Tests.{tests}
use Rattle.rules.specs.Layout.{base}
use Rattle.rules.specs.State.{addressed_to}
use Rattle.rules.specs.Pack.{unpack}
use Rattle.rules.proofs.Pack.Messages.{addressed-so, addressed-not}
use Rattle.image.proofs.Search.{found}
use Rattle.image.proofs.messages.place_to.Goals as goal

pub returns : goal.returns
returns c =
    let f : ℕ → Bool = addressed_to (unpack base c.args.image.now) c.args.t in
    found f c.args.n _
    (first_from_Range _ _ _ c.find.result (λ x. f x ≡ true) (λ x. f x ≡ false) c.find.ensures.ran
    (λ x q k. addressed-so _ _ _ (search (rules, tests)))
    (λ x q k. (search rules, addressed-not _ _ _ (search (rules, tests)))))
