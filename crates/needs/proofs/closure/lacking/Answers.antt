-- The first that `find` passes lacks one; where none passes, every named one has whom it needs.
use Rattle.std.proofs.Common.{◌≡◌, ℕ, List, true, false, rules, tests}
use Rattle.std.proofs.lemmas.Iterator.{first_from_Range}
use Rattle.needs.proofs.Meeting.{lacks_in, lacking_first}
use Rattle.needs.proofs.closure.lacking.Goals as goal

pub returns : goal.returns
unfolding lacks_in
returns c =
    let l : List ℕ = c.args.need.now in
    let g : ℕ = c.args.group in
    lacking_first l g c.find.result (first_from_Range _ _ _ c.find.result (λ x. lacks_in l g x ≡ true) (λ x. lacks_in l g x ≡ false) c.find.ensures.ran
    (λ x q h. search (rules, tests))
    (λ x q h. (search (rules, tests), search (rules, tests))))
