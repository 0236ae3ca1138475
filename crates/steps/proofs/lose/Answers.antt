-- Not waiting, or gone.
use Rattle.std.proofs.Common.{refl, arith, rules}
use Rattle.steps.proofs.Images.{lose-missing, lose-done, lose-counted}
use Rattle.steps.proofs.lose.Goals as goal

pub returns-in_default : goal.returns-in_default
returns-in_default c = (lose-missing _ _ c.requires.0 _ (omega (arith, c.in_default.ensures, c.requires.1.is)) refl, c.requires.1)

pub returns : goal.returns
returns c =
    let place = c.in-Some.ensures.0 in
    (rw c.done.ensures (lose-done _ _ c.requires.0 _ (search rules) (rw place at c.remove.ensures)), lose-counted _ _ c.requires.0 _ _ (search rules) c.requires.1 (rw place at c.remove.ensures))
