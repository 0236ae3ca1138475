-- Not named, or stable, or not.
use Rattle.std.proofs.Common.{refl, sym, ◌∙◌, subst₂, arith, rules}
use Rattle.rules.specs.Refusals.{group_bits}
use Rattle.rules.specs.Layout.{base}
use Rattle.rules.specs.Pack.{unpack}
use Rattle.rules.proofs.Bits.{shifted}
use Rattle.group.proofs.Presenting.{Presented, presented-none, presented-all, presented-unnamed, presented-unstable, presented-stable, presented-fits}
use Rattle.group.proofs.presents.Goals as goal
use Rattle.group.proofs.presents.Goals.{then-is_named+then-h, then-is_named+else-h, else-is_named}

pub loop-t-init : goal.loop-t-init
loop-t-init c = presented-none _ refl

pub overflow_add-stable : goal.overflow_add-stable
overflow_add-stable c = omega (arith, presented-fits c.loop-t.invariant (search rules) refl _ (shifted _ group_bits (search rules)))

pub loop-t-preserved : goal.loop-t-preserved
loop-t-preserved c =
    let n = c.is_named.ensures in
    elim c.if-is_named.branch [
      | then-is_named+then-h w ↦
          subst₂ (Presented base (unpack base _) _ _) (sym w.present-is) (sym w.stable-is) (presented-stable c.loop-t.invariant (search rules) (sym n ∙ w.if-is_named.true) _ w.own-h.ensures _ (shifted _ group_bits (search rules)) w.if-h.true)
      | then-is_named+else-h w ↦
          subst₂ (Presented base (unpack base _) _ _) (sym w.present-is) (sym w.stable-is) (presented-unstable c.loop-t.invariant (search rules) (sym n ∙ w.if-is_named.true) _ w.own-h.ensures w.if-h.false)
      | else-is_named w ↦ subst₂ (Presented base (unpack base _) _ _) (sym w.present-is) (sym w.stable-is) (presented-unnamed c.loop-t.invariant (search rules) (sym n ∙ w.if-is_named.false))
    ]

pub returns : goal.returns
returns c = presented-all c.loop-t.invariant (search rules)
