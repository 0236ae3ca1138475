use Rattle.std.proofs.Common.{rules, List, map, Bor}
use Rattle.notation.specs.Notation.{template_of, item_number}
use Rattle.notation.specs.declared.Item.{Item}
use Rattle.notation.proofs.Tabled.{row-at}
use Rattle.kinds.proofs.template_of.Goals as goal

pub returns : goal.returns
unfolding template_of
returns c = search (rules, row-at {X = Bor (List Item)} (λ b. map item_number b.now))
