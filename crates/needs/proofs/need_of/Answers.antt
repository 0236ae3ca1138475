-- In no group: not stable, or full, or an entry asks for what no group has.
use Rattle.std.proofs.Common.{arith, sym, subst, ◌∙◌, ◌≡◌}
use Rattle.rules.specs.Layout.{base}
use Rattle.rules.specs.Refusals.{group_bits}
use Rattle.rules.proofs.Bits.{shifted}
use Rattle.rules.proofs.Groups.Ready.{kept-stable}
use Rattle.rules.proofs.Groups.Needs.{Rowed, rowed-none, rowed-off, rowed-past, rowed-more, able-unnamed, able-full, able-off, row-met}
use Rattle.image.proofs.Lent.{good_in}
use Rattle.needs.proofs.need_of.Goals as goal
use Rattle.needs.proofs.need_of.Goals.{then-not-is_named-via-then-not-is_named, then-not-is_named-via-else-not-is_named+then-is_full, in-Nothing, in-Member}

pub returns-then-not-is_named : goal.returns-then-not-is_named
returns-then-not-is_named c = elim c.then-not-is_named.branch [
  | then-not-is_named-via-then-not-is_named w ↦ able-unnamed base _ _ _ (sym c.is_named.ensures ∙ w.if-not-is_named.true)
  | then-not-is_named-via-else-not-is_named+then-is_full w ↦ able-full base _ _ _ (sym w.is_full.ensures ∙ w.if-is_full.true)
]

pub loop-u-init : goal.loop-u-init
loop-u-init c = rowed-none base _ _ _

pub pair_asks-requires : goal.pair_asks-requires
pair_asks-requires c = let p = c.requires in (p.1, c.loop-u-test.true, kept-stable base _ _ p.0 (good_in c.args.image.now).well _ c.loop-u-test.true)

pub returns-in-More : goal.returns-in-More
returns-in-More c = able-off base _ _ _ (rowed-off c.loop-u.invariant c.loop-u-test.true c.in-More.ensures)

pub loop-u-preserved : goal.loop-u-preserved
loop-u-preserved c = elim c.match-pair_asks.branch [
  | in-Nothing w ↦ subst (Rowed base _ _ _ _) (sym w.need-is) (rowed-past c.loop-u.invariant c.loop-u-test.true w.in-Nothing.ensures)
  | in-Member w ↦ subst (Rowed base _ _ _ _) (sym w.need-is) (rowed-more c.loop-u.invariant c.loop-u-test.true w.in-Member.ensures _ (shifted _ group_bits c.loop-u-test.true))
]

pub returns : goal.returns
returns c =
    let e : c.loop-u.u ≡ 16 = omega arith in
    row-met base _ _ _ (sym c.is_named.ensures ∙ c.if-not-is_named.false) (sym c.is_full.ensures ∙ c.if-is_full.false) (rw e at c.loop-u.invariant)
