-- The first place that is vacant.
use Rattle.std.proofs.Common.{◌≡◌, ℕ, Bool, true, false, rules}
use Rattle.std.proofs.lemmas.Iterator.{first_from_Range}
use borrow.Author.Tests.{tests}
use Rattle.rules.specs.Layout.{base}
use Rattle.rules.specs.Pack.{vacant_at, waiting_in}
use Rattle.rules.proofs.Pack.Messages.{vacant-low, vacant-high}
use Rattle.image.proofs.Search.{found_or_all}
use Rattle.image.proofs.messages.waiting.Goals as goal

pub returns : goal.returns
unfolding waiting_in
returns c =
    let f : ℕ → Bool = vacant_at base c.args.image.now in
    rw c.unwrap_or.ensures
    (found_or_all f 32 c.find.result
    (first_from_Range _ _ _ c.find.result (λ x. f x ≡ true) (λ x. f x ≡ false) c.find.ensures.ran
    (λ x q k. vacant-low base _ _ (search (rules, tests)))
    (λ x q k. (search rules, vacant-high base _ _ (search (rules, tests))))))
