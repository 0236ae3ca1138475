-- The behaviour map changes; the text stands before it.
use mathlib.Core.Path.{refl, sym}
use native.Mathlib.Omega.{arith}
use borrow.Author.Rules.{rules}
use Rattle.rules.specs.Layout.{base, behaviour_at}
use Rattle.rules.specs.Rules.{read_by}
use Rattle.rules.specs.Pack.{unpack_transactor}
use Rattle.rules.proofs.Pack.Stores.{put-behaviour}
use Rattle.transactor.proofs.Bytes.{stored, map-exact, value-behind}
use Rattle.transactor.proofs.read.Goals as goal

pub join_into-requires : goal.join_into-requires
unfolding unpack_transactor
join_into-requires c =
    let p = c.requires in (
      search rules,
      search rules,
      map-exact base _ (behaviour_at base) _ (omega arith) (put-behaviour base _ _) (sym p.back) refl,
    )

pub returns : goal.returns
unfolding read_by unpack_transactor
returns c =
    record {
      outcome = refl;
      value = value-behind base _ _ (search rules) c.join_into.ensures c.load32-value.ensures;
      bytes = stored base _ _ _ _ (put-behaviour base _ _) (sym c.requires.back) c.join_into.ensures;
    }
