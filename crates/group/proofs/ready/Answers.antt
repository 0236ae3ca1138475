-- All are stable, or the answer is no; then each entry in its turn.
use Rattle.std.proofs.Common.{not, refl, sym, ap, ◌∙◌, rules}
use Rattle.octets.proofs.Zero.{held_none, held_more}
use Rattle.image.proofs.Lent.{good_in}
use Rattle.rules.specs.Layout.{base}
use Rattle.rules.proofs.Groups.Ready.{ready-end, ready-unnamed, present-stable, present-unstable, ready-named, ready-unmet}
use Rattle.group.proofs.Presenting.{kept-named}
use Rattle.group.proofs.ready.Goals as goal

pub returns-then-kept-group : goal.returns-then-kept-group
returns-then-kept-group c = present-unstable base _ _ c.presents-kept.ensures refl (search rules) c.if-kept-group.true

pub named-init : goal.named-init
named-init c = record { named = held_none _ _; ok = refl }

pub named-preserved-then-not-is_named : goal.named-preserved-then-not-is_named
named-preserved-then-not-is_named c = record { named = held_more c.named.invariant.named (search rules) (ready-unnamed base _ _ _ (sym c.is_named.ensures ∙ c.if-not-is_named.true)); ok = c.named.invariant.ok }

pub loop-u-init : goal.loop-u-init
loop-u-init c = record { pairs = held_none _ _; ok = c.named.invariant.ok }

pub kept_ready-requires : goal.kept_ready-requires
kept_ready-requires c =
    (search rules, search rules, kept-named base _ _ c.presents-kept.ensures c.if-kept-group.false (good_in c.args.image.now).well _ (search rules))

pub loop-u-preserved : goal.loop-u-preserved
loop-u-preserved c = record { pairs = held_more c.loop-u.invariant.pairs (search rules) (ap not (sym c.kept_ready.ensures ∙ c.if-not-kept_ready.false)); ok = c.loop-u.invariant.ok }

pub named-preserved : goal.named-preserved
named-preserved c = record {
  named = held_more c.named.invariant.named (search rules) (ready-named base _ _ _ (search rules) (present-stable base _ _ c.presents-kept.ensures c.if-kept-group.false) (sym c.is_named.ensures ∙ c.if-not-is_named.false) c.loop-u.invariant.pairs (search rules));
  ok = c.loop-u.invariant.ok;
}

pub returns-after-named : goal.returns-after-named
returns-after-named c = ready-end base _ _ _ c.named.invariant.ok c.named.invariant.named (search rules)

pub returns-then-not-kept_ready : goal.returns-then-not-kept_ready
returns-then-not-kept_ready c =
    ready-unmet base _ _ _ (search rules) (present-stable base _ _ c.presents-kept.ensures c.if-kept-group.false) (sym c.is_named.ensures ∙ c.if-not-is_named.false) c.loop-u.invariant.pairs (search rules)
    (ap not (sym c.kept_ready.ensures ∙ c.if-not-kept_ready.true))
