-- One test after the other.
use Rattle.image.proofs.Lent.{good_in}
use Rattle.std.proofs.Common.{rules, not, sym, ap, ◌∙◌}
use Rattle.rules.specs.Layout.{base}
use Rattle.rules.proofs.Pack.Loads.{read_history}
use Rattle.rules.proofs.Pack.Rooms.{room-state}
use Rattle.obstacles.proofs.Blocking.{mark-absent, mark-dead, mark-member, mark-outside, mark-checkpointed, mark-withdrawn}
use Rattle.obstacles.proofs.history.Goals as goal

pub same_in-requires : goal.same_in-requires
same_in-requires c = let p = c.requires in (search rules, search rules, p.3, rw c.own_at-present.ensures (room-state _ (good_in c.args.image.now) _ p.1 _ p.1))

pub returns-then-not-present : goal.returns-then-not-present
returns-then-not-present c = mark-absent base _ _ _ _ _ (ap not (sym c.present.ensures ∙ c.if-not-present.true))

pub returns-then-not-is_live : goal.returns-then-not-is_live
returns-then-not-is_live c = mark-dead base _ _ _ _ _ (ap not (sym c.present.ensures ∙ c.if-not-present.false)) (sym c.is_live.ensures ∙ c.if-not-is_live.true)

pub returns-then-is_named : goal.returns-then-is_named
returns-then-is_named c =
    mark-member base _ _ _ _ _ (ap not (sym c.present.ensures ∙ c.if-not-present.false)) (sym c.is_live.ensures ∙ c.if-not-is_live.false) _ (sym (read_history base _ _ (search rules) _ (search rules)))
    (sym (rw c.own_at-present.ensures at c.same_in.ensures) ∙ c.if-same_in.true) (sym c.is_named.ensures ∙ c.if-is_named.true)

pub returns-then-same_in : goal.returns-then-same_in
returns-then-same_in c =
    mark-outside base _ _ _ _ _ (ap not (sym c.present.ensures ∙ c.if-not-present.false)) (sym c.is_live.ensures ∙ c.if-not-is_live.false) _ (sym (read_history base _ _ (search rules) _ (search rules)))
    (sym (rw c.own_at-present.ensures at c.same_in.ensures) ∙ c.if-same_in.true) (sym c.is_named.ensures ∙ c.if-is_named.false)

pub returns-then-checkpointed_in : goal.returns-then-checkpointed_in
returns-then-checkpointed_in c =
    mark-checkpointed base _ _ _ _ _ (ap not (sym c.present.ensures ∙ c.if-not-present.false)) (sym c.is_live.ensures ∙ c.if-not-is_live.false) _ (sym (read_history base _ _ (search rules) _ (search rules)))
    (sym (rw c.own_at-present.ensures at c.same_in.ensures) ∙ c.if-same_in.false) _ (sym (read_history base _ _ (search rules) _ (search rules))) (sym (rw c.own_at-present.ensures at c.checkpointed_in.ensures) ∙ c.if-checkpointed_in.true)

pub returns : goal.returns
returns c =
    mark-withdrawn base _ _ _ _ _ (ap not (sym c.present.ensures ∙ c.if-not-present.false)) (sym c.is_live.ensures ∙ c.if-not-is_live.false) _ (sym (read_history base _ _ (search rules) _ (search rules)))
    (sym (rw c.own_at-present.ensures at c.same_in.ensures) ∙ c.if-same_in.false) _ (sym (read_history base _ _ (search rules) _ (search rules))) (sym (rw c.own_at-present.ensures at c.checkpointed_in.ensures) ∙ c.if-checkpointed_in.false)
