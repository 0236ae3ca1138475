-- Not opened, or annihilated, or neither.
use Rattle.std.proofs.Common.{sym, rules, ◌∙◌, ◌≡◌, arith}
use Rattle.rules.proofs.ByKind.Guards.{acting-unopened, acting-gone, acting-there}
use Rattle.rules.specs.Numbers.{status_number}
use Rattle.image.proofs.head.check.Goals as goal

pub returns-then-from-t : goal.returns-then-from-t
returns-then-from-t c = acting-unopened _ _ (search rules)

pub returns-in-Annihilated : goal.returns-in-Annihilated
returns-in-Annihilated c = acting-gone _ _ (search rules) (sym c.in-Annihilated.ensures)

pub returns-in-Unused : goal.returns-in-Unused
returns-in-Unused c = acting-there _ _ (search rules) (λ e. let s : status_number c.status.result ≡ 3 = c.status.ensures ∙ e in absurd (grind arith))
