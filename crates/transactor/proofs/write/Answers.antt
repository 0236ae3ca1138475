-- Frozen, nothing changes; else text and state map.
use mathlib.Core.Path.{refl, sym, ◌∙◌}
use native.Mathlib.Omega.{arith}
use borrow.Author.Rules.{rules}
use Rattle.rules.specs.Layout.{base, state_at, behaviour_at}
use Rattle.rules.specs.Pack.{unpack_transactor}
use Rattle.rules.proofs.Pack.Stores.{put-value, put-state}
use Rattle.transactor.proofs.Bytes.{stored, map-exact, map-behind, acted-alone, write-stable, write-unstable}
use Rattle.transactor.proofs.write.Goals as goal

pub returns-then-own : goal.returns-then-own
returns-then-own c =
    acted-alone (write-stable base _ _ c.own.ensures _ c.if-own.true) c.outcome_of.ensures refl refl (sym c.requires.0.back)

pub join_into-requires : goal.join_into-requires
unfolding unpack_transactor
join_into-requires c =
    let p = c.requires.0 in (
      search rules,
      search rules,
      map-exact base _ state_at _ (omega arith) (put-state base _ _)
          (stored base _ _ _ _ (put-value base _ _) (sym p.back) c.store32.ensures) (map-behind base _ _ p.long c.store32.ensures state_at (omega arith)),
    )

pub returns : goal.returns
unfolding unpack_transactor
returns c =
    let p = c.requires.0 in
    let kept = map-behind base _ _ p.long c.store32.ensures in
    acted-alone
    (write-unstable base _ _ c.own.ensures _ c.if-own.false) c.outcome_of-2.ensures refl refl
    (stored base _ _ _ _ (put-state base _ _) (stored base _ _ _ _ (put-value base _ _) (sym p.back) c.store32.ensures)
    (c.join_into.ensures ∙ rw (kept (behaviour_at base) (omega arith), kept state_at (omega arith))))
