use Rattle.std.proofs.Common.{◌≡◌, ℕ, Bool, true, false, cond, get_or, rules, tests}
use Rattle.std.proofs.lemmas.Iterator.{first_from_Range}
use Rattle.rules.specs.Layout.{base}
use Rattle.rules.specs.Refusals.{named}
use Rattle.rules.specs.Pack.{unpack}
use Rattle.rules.specs.Impediment.{impedes_at}
use Rattle.image.proofs.Search.{found}
use Rattle.impediments.specs.Internal.Manners.{manner_number}
use Rattle.impediments.proofs.Impeding.{rows-first, lowest-found}
use Rattle.impediments.proofs.lowest.Goals as goal

pub returns : goal.returns
returns c =
    let f : ℕ → Bool = λ k. cond (named (get_or c.args.reach.through k 0) c.args.t) (impedes_at base (unpack base c.args.image.now.bytes.now) (manner_number c.args.manner) k) false in
    lowest-found base _ _ _ _ (found _ 16 _ (rows-first base (unpack base c.args.image.now.bytes.now) _ _ c.requires.1 c.requires.0 c.find.result
    (first_from_Range _ _ _ c.find.result (λ x. f x ≡ true) (λ x. f x ≡ false) c.find.ensures.ran
    (λ x q k. search (rules, tests))
    (λ x q k. (search rules, search (rules, tests))))))
