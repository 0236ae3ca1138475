-- Renewed with the next mark and its text.
use mathlib.Core.Path.{◌∙◌}
use native.Mathlib.Omega.{arith}
use borrow.Author.Rules.{rules}
use Rattle.rules.specs.Rules.{checkpoint_by}
use Rattle.rules.specs.Pack.{unpack_transactor}
use Rattle.transactor.proofs.checkpoint.Goals as goal

pub checkpoint-h-requires : goal.checkpoint-h-requires
checkpoint-h-requires c = rw c.own.ensures (search rules)

pub renew-requires : goal.renew-requires
renew-requires c =
    (search rules, search rules, rw (c.checkpoint-h.ensures, c.own.ensures) (omega arith))

pub returns : goal.returns
unfolding checkpoint_by unpack_transactor
returns c =
    c.renew.ensures ∙ rw (c.checkpoint-h.ensures, c.own.ensures, c.load32-value.ensures)
