use Rattle.std.proofs.Common.{rules, List, ℕ, Bor}
use Rattle.notation.specs.Notation.{name_of}
use Rattle.notation.proofs.Tabled.{row-at}
use Rattle.kinds.proofs.name_of.Goals as goal

pub returns : goal.returns
unfolding name_of
returns c = search (rules, row-at {X = Bor (List ℕ)} (λ b. b.now))
