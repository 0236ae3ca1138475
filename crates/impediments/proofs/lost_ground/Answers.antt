use Rattle.std.proofs.Common.{◌≡◌, ℕ, Bool, true, false, rules, tests}
use Rattle.std.proofs.lemmas.Iterator.{first_from_Range}
use Rattle.rules.specs.Layout.{base}
use Rattle.rules.specs.Pack.{unpack}
use Rattle.rules.specs.Impediment.{withdrawn_by}
use Rattle.image.proofs.Search.{found}
use Rattle.impediments.proofs.Impeding.{lost-found}
use Rattle.impediments.proofs.lost_ground.Goals as goal

pub returns : goal.returns
returns c =
    let f : ℕ → Bool = withdrawn_by (unpack base c.args.image.now.bytes.now) c.args.c in
    lost-found base _ _ _ (found f 16 _ (first_from_Range _ _ _ c.find.result (λ x. f x ≡ true) (λ x. f x ≡ false) c.find.ensures.ran
    (λ x q k. search (rules, tests))
    (λ x q k. (search rules, search (rules, tests)))))
